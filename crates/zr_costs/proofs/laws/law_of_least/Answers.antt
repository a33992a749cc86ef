use Rattle.zr_costs.proofs.Leasts.{row_is, whole_least}
use Rattle.zr_costs.proofs.Rays.{never_falls}
use Rattle.zr_costs.proofs.laws.law_of_least.Goals as goal

pub returns-clause-value : goal.returns-clause-value
returns-clause-value c game form profile equilibrium i player is left right claim f x least =
    whole_least game form profile equilibrium i player is left right claim f x least

pub returns-clause-row : goal.returns-clause-row
returns-clause-row c left right = row_is left right

pub returns-clause-ray : goal.returns-clause-ray
returns-clause-ray c game form profile equilibrium i player is left right claim base dir ray falls =
    never_falls game form profile equilibrium i player is left right claim base dir ray falls
