use Rattle.zr_mix.proofs.Checking.{enough, needed}
use Rattle.zr_mix.proofs.laws.law_of_claims.Goals as goal

pub returns-clause-enough : goal.returns-clause-enough
returns-clause-enough c = enough

pub returns-clause-needed : goal.returns-clause-needed
returns-clause-needed c = needed
