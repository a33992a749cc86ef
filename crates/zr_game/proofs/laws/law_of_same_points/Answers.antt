use Rattle.zr_game.proofs.SamePoints.{feasible_same}
use Rattle.zr_game.proofs.laws.law_of_same_points.Goals as goal

pub returns : goal.returns
returns c player x y feasible same = feasible_same x y same player feasible
