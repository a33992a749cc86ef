use Rattle.zr_basis.proofs.Complete.{complete}
use Rattle.zr_basis.proofs.Primitive.{one_form}
use Rattle.zr_basis.proofs.Unique.{determined}
use Rattle.zr_basis.proofs.laws.law_of_bases.Goals as goal

pub returns-clause-determines : goal.returns-clause-determines
returns-clause-determines c = determined

pub returns-clause-equations : goal.returns-clause-equations
returns-clause-equations c = one_form

pub returns-clause-complete : goal.returns-clause-complete
returns-clause-complete c = complete
