use Rattle.zr_game.proofs.Coins.{no_pure, pennies_stable}
use Rattle.zr_game.proofs.laws.law_of_pennies.Goals as goal

pub returns-clause-halves : goal.returns-clause-halves
returns-clause-halves c = pennies_stable

pub returns-clause-pure : goal.returns-clause-pure
returns-clause-pure c = no_pure
