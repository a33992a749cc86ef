use Rattle.zr_lin.proofs.Scaling.{dense_scaled, ineq_scaled}
use Rattle.zr_lin.proofs.laws.law_of_scaling.Goals as goal

pub returns-clause-dense : goal.returns-clause-dense
returns-clause-dense c = dense_scaled

pub returns-clause-ineqs : goal.returns-clause-ineqs
returns-clause-ineqs c = ineq_scaled
