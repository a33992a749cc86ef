use Rattle.zr_source.proofs.Alone.{equilibria_alone, points_alone}
use Rattle.zr_source.proofs.laws.law_of_leaders_alone.Goals as goal

pub returns-clause-points : goal.returns-clause-points
returns-clause-points c = points_alone

pub returns-clause-profiles : goal.returns-clause-profiles
returns-clause-profiles c = equilibria_alone

pub returns-clause-none : goal.returns-clause-none
returns-clause-none c source alone kind = (
  λ none profile is e. none profile is ((equilibria_alone source alone profile).1 e),
  λ none profile is e. none profile is ((equilibria_alone source alone profile).0 e),
)
