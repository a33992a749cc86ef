use Rattle.zr_basis.proofs.Chosen.{dual_column}
use Rattle.zr_basis.proofs.Dual.{dual_feasible_if, dual_keeps, positive_at_slacks, positive_at_value, rises}
use Rattle.zr_basis.proofs.Links.{due_by_numbers}
use Rattle.zr_basis.proofs.Ordered.{column_order}
use Rattle.zr_basis.proofs.laws.law_of_dual_rule.Goals as goal

pub returns-clause-orders : goal.returns-clause-orders
returns-clause-orders c = column_order

pub returns-clause-starts : goal.returns-clause-starts
returns-clause-starts c = positive_at_slacks

pub returns-clause-goes_on : goal.returns-clause-goes_on
returns-clause-goes_on c = positive_at_value

pub returns-clause-value : goal.returns-clause-value
returns-clause-value c = dual_feasible_if

pub returns-clause-numbers : goal.returns-clause-numbers
returns-clause-numbers c = due_by_numbers

pub returns-clause-keeps : goal.returns-clause-keeps
returns-clause-keeps c = dual_keeps

pub returns-clause-rises : goal.returns-clause-rises
returns-clause-rises c = rises

pub returns-clause-chooses : goal.returns-clause-chooses
returns-clause-chooses c = dual_column
