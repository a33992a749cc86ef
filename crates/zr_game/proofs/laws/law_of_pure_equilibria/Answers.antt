use Rattle.zr_game.proofs.PureEquilibria.{pure_equilibria}
use Rattle.zr_game.proofs.laws.law_of_pure_equilibria.Goals as goal

pub returns : goal.returns
returns c = pure_equilibria
