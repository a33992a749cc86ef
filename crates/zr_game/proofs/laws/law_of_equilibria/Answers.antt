use Rattle.zr_game.proofs.MeanLaws.{equilibria}
use Rattle.zr_game.proofs.laws.law_of_equilibria.Goals as goal

pub returns : goal.returns
returns c = equilibria
