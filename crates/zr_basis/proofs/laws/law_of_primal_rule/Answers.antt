use Rattle.zr_basis.proofs.Chosen.{primal_row}
use Rattle.zr_basis.proofs.Primal.{feasible_if, positive_at_start, primal_drops, primal_keeps}
use Rattle.zr_basis.proofs.laws.law_of_primal_rule.Goals as goal

pub returns-clause-starts : goal.returns-clause-starts
returns-clause-starts c = positive_at_start

pub returns-clause-feasible : goal.returns-clause-feasible
returns-clause-feasible c = feasible_if

pub returns-clause-keeps : goal.returns-clause-keeps
returns-clause-keeps c = primal_keeps

pub returns-clause-drops : goal.returns-clause-drops
returns-clause-drops c = primal_drops

pub returns-clause-chooses : goal.returns-clause-chooses
returns-clause-chooses c = primal_row
