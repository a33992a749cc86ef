-- What becomes of a branch.
use Rattle.std.specs.Prelude.{◌≡◌, ℕ, ℤ, pos, ◌<ℤ◌, Option, None, Some, List, true}
use Rattle.zr_base.specs.Fractions.{Fraction, IsAtMost}
use Rattle.zr_base.specs.Lowest.{IsLowest}
use Rattle.zr_base.specs.Points.{PointOf}
use Rattle.zr_game.specs.Players.{PlayerOf}
use Rattle.zr_game.specs.Feasible.{IsFeasible}
use Rattle.zr_game.specs.Leaves.{HasPoint, LeafOf, MeetsLeaf, root_leaf}
use Rattle.zr_game.specs.Rays.{IsRay, change_of}
use Rattle.zr_simplex.specs.Programs.{numbers}
use Rattle.zr_asked.specs.Drawn.{IsBranchDirection, IsBranchSolution}
use Rattle.zr_branch.specs.Values.{IsNotBelow, IsValue, aim_value}
use Rattle.zr_bnb.specs.declared.visit.Fate.{Fate}
use Rattle.zr_bnb.specs.declared.visit.Fate.TheVariants as AFate
use Rattle.zr_bnb.specs.Causes.{IsLeastOpen}
use Rattle.zr_bnb.specs.Splits.{IsDivision}

-- no point of the leaf is below the value, or there is none where there is no value yet
abbrev pub IsClosed : PlayerOf → List ℤ → Option Fraction → LeafOf → Type 0
IsClosed player aim None leaf = (x : PointOf) → MeetsLeaf player leaf x → ⊥
IsClosed player aim (Some f) leaf =
    (x : PointOf) → MeetsLeaf player leaf x → IsNotBelow player aim f x

-- there is a value before, and it is at most this one
abbrev pub HasAtMost : Option Fraction → Fraction → Type 0
HasAtMost None f = ⊥
HasAtMost (Some g) f = ((pos 0) <ℤ g.den) × IsAtMost g f

-- the value is no higher than the one before, if there was one
abbrev pub IsNoHigher : Option Fraction → Fraction → Type 0
IsNoHigher None f = Unit {0}
IsNoHigher (Some g) f = IsAtMost f g

-- a feasible point with this value, no higher than the one before, which closes its branch
pub record IsImprovement (player : PlayerOf) (leaf : LeafOf) (aim : List ℤ)
    (best : Option Fraction) (x : PointOf) (value : Fraction) : Type 0 where
  pub feasible : IsFeasible player x
  pub lowest : IsLowest value
  pub value_is : IsValue player aim value x
  pub no_higher : IsNoHigher best value
  pub closed : IsClosed player aim (Some value) leaf
  pub solution : IsBranchSolution player leaf (numbers aim) x

-- from the feasible base the aim falls along a ray; both are drawn from the branch's question
pub record IsFall (player : PlayerOf) (leaf : LeafOf) (aim : List ℤ) (base : PointOf)
    (dir : List ℤ) : Type 0 where
  pub ray : IsRay player base dir
  pub falls : aim_value player aim (change_of dir) <ℤ (pos 0)
  pub solution : IsBranchSolution player leaf (numbers aim) base
  pub direction : IsBranchDirection player leaf (numbers aim) dir

-- the leaf is closed; or a feasible point closes it with its value; or it has a point and is to be
-- split; or the aim falls along a ray
abbrev pub IsFate : PlayerOf → LeafOf → List ℤ → Option Fraction → ℕ → Fate → Type 0
IsFate player leaf aim best more (AFate.Closed end) = IsClosed player aim best leaf
IsFate player leaf aim best more (AFate.Improved x value end) =
    IsImprovement player leaf aim best x value
IsFate player leaf aim best more (AFate.Divided split least_open) =
    HasPoint player leaf × IsDivision player leaf more split
IsFate player leaf aim best more (AFate.Below base dir) =
    IsFall player leaf aim base dir.items

-- where the fate says that the least value is open, and the leaf is that of all points, it is
abbrev pub LeavesOpen : PlayerOf → LeafOf → List ℤ → Fate → Type 0
LeavesOpen player leaf aim (AFate.Divided split least_open) =
    least_open ≡ true → leaf ≡ root_leaf player → IsLeastOpen player aim
LeavesOpen player leaf aim other = Unit {0}
