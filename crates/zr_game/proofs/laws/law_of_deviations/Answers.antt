use Rattle.zr_game.proofs.MeanLaws.{at_deviation}
use Rattle.zr_game.proofs.laws.law_of_deviations.Goals as goal

pub returns : goal.returns
returns c game form profile valid i player is x feasible =
    at_deviation game profile valid i player is x feasible (form.players i player is)
