use Rattle.zr_game.proofs.SamePoints.{cost_same}
use Rattle.zr_game.proofs.laws.law_of_same_costs.Goals as goal

pub returns : goal.returns
returns c = cost_same
