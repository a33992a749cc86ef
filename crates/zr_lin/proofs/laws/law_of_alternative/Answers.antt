use Rattle.zr_lin.proofs.Multipliers.{solution_or_refutation}
use Rattle.zr_lin.proofs.SparseRows.{none_exactly_refutation, solution_or_refuted, none_exactly_refuted}
use Rattle.zr_lin.proofs.laws.law_of_alternative.Goals as goal

pub returns-clause-dense_either : goal.returns-clause-dense_either
returns-clause-dense_either c = solution_or_refutation

pub returns-clause-dense : goal.returns-clause-dense
returns-clause-dense c = none_exactly_refutation

pub returns-clause-ineqs_either : goal.returns-clause-ineqs_either
returns-clause-ineqs_either c = solution_or_refuted

pub returns-clause-ineqs : goal.returns-clause-ineqs
returns-clause-ineqs c = none_exactly_refuted
