use Rattle.zr_game.proofs.MeanLaws.{at_mean}
use Rattle.zr_game.proofs.laws.law_of_means.Goals as goal

pub returns : goal.returns
returns c game form profile valid i player is = at_mean game profile valid i player is
    (form.players i player is)
