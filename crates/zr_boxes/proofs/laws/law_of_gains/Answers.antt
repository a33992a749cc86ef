use Rattle.zr_boxes.proofs.Descent.{better_pays_less}
use Rattle.zr_boxes.proofs.laws.law_of_gains.Goals as goal

pub returns : goal.returns
returns c game form box points inside i player is x better =
    better_pays_less game form box points inside i player is x better
