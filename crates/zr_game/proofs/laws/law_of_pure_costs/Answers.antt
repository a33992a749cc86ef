use Rattle.zr_game.proofs.PureCosts.{deviated, played}
use Rattle.zr_game.proofs.laws.law_of_pure_costs.Goals as goal

pub returns-clause-played : goal.returns-clause-played
returns-clause-played c = played

pub returns-clause-deviated : goal.returns-clause-deviated
returns-clause-deviated c = deviated
