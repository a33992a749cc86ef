use Rattle.zr_lin.proofs.Combining.{combination_holds}
use Rattle.zr_lin.proofs.SparseRows.{ineq_combination_holds}
use Rattle.zr_lin.proofs.laws.law_of_combination.Goals as goal

pub returns-clause-dense : goal.returns-clause-dense
returns-clause-dense c = combination_holds

pub returns-clause-ineqs : goal.returns-clause-ineqs
returns-clause-ineqs c = ineq_combination_holds
