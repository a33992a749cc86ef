-- Why the search stops without an answer, and what it spends.
use Rattle.std.specs.Prelude.{◌≡◌, ℕ, ◌+◌, ◌<◌, ◌≤◌, ℤ, pos, ◌*ℤ◌, ◌<ℤ◌, ◌≤ℤ◌, Err, List, length, ◌⊎◌}
use Rattle.zr_base.specs.Fractions.{Fraction}
use Rattle.zr_base.specs.Points.{PointOf, num_of}
use Rattle.zr_base.specs.Steps.{cross_of}
use Rattle.zr_io.specs.declared.purse.Purse.{Purse}
use Rattle.zr_io.specs.Purses.{counted}
use Rattle.zr_game.specs.Players.{PlayerOf}
use Rattle.zr_game.specs.Feasible.{IsFeasible}
use Rattle.zr_game.specs.Leaves.{MeetsLeaf, root_leaf}
use Rattle.zr_game.specs.Rays.{ChangesWhole}
use Rattle.zr_simplex.specs.Programs.{numbers}
use Rattle.zr_asked.specs.OpenTrees.{Work, units}
use Rattle.zr_asked.specs.Stuck.{IsStuckAsked}
use Rattle.zr_asked.specs.Drawn.{IsBranchSolution}
use Rattle.zr_bnb.specs.declared.answer.BnbStop.{BnbStop}
use Rattle.zr_bnb.specs.declared.answer.BnbStop.TheVariants as AStop
use Rattle.zr_bnb.specs.Answers.{MayAsk}
use Rattle.zr_branch.specs.Values.{aim_value}
use Rattle.zr_bnb.specs.Values.{IsLeastValue}

-- the aim is lower at y than at x
abbrev pub IsLower : PlayerOf → List ℤ → PointOf → PointOf → Type 0
IsLower player aim y x =
    (aim_value player aim (num_of y) *ℤ x.den) <ℤ (aim_value player aim (num_of x) *ℤ y.den)

-- at each point of the relaxation there is one where the aim is lower
abbrev pub HasNoLeast : PlayerOf → List ℤ → Type 0
HasNoLeast player aim =
    (x : PointOf) → MeetsLeaf player (root_leaf player) x
    → (y : PointOf) × MeetsLeaf player (root_leaf player) y × IsLower player aim y x

-- x is a basic solution of the relaxation's question with this aim, no point of the relaxation is
-- lower, and x isn't feasible
pub record IsInfeasibleLeast (player : PlayerOf) (aim : List ℤ) (x : PointOf) : Type 0 where
  pub solution : IsBranchSolution player (root_leaf player) (numbers aim) x
  pub meets : MeetsLeaf player (root_leaf player) x
  pub least : (y : PointOf) → MeetsLeaf player (root_leaf player) y
      → (aim_value player aim (num_of x) *ℤ y.den) ≤ℤ (aim_value player aim (num_of y) *ℤ x.den)
  pub infeasible : IsFeasible player x → ⊥

-- the aim has no least value on the relaxation, or has it at a basic solution that isn't feasible
abbrev pub IsLeastOpen : PlayerOf → List ℤ → Type 0
IsLeastOpen player aim = HasNoLeast player aim ⊎ ((x : PointOf) × IsInfeasibleLeast player aim x)

-- there is more work than the purse had left: an open tree has more units
abbrev pub HasMoreWork : PlayerOf → Purse → Type 0
HasMoreWork player purse =
    (work : Work player) × (purse.limit < counted purse + units work.tree)

-- the purse is at its limit, and there is more work than it had left; a question is stuck; the
-- product of the least value's denominator and a number of the aim is too wide; or a ray of the
-- relaxation changes a whole variable, and the least value is open
abbrev pub IsBnbCause : ℕ → PlayerOf → List ℤ → Purse → Purse → BnbStop → Type 0
IsBnbCause i player aim old new AStop.Spent =
    (counted new ≡ new.limit) × HasMoreWork player old
IsBnbCause i player aim old new (AStop.Wide asked) = IsStuckAsked i player (MayAsk player aim) asked
IsBnbCause i player aim old new (AStop.WideAim wide) =
    (f : Fraction) × (v : ℕ) × IsLeastValue player aim f × (v < length player.vars)
    × (cross_of (f.den, numbers aim v) (pos 0, pos 0) ≡ Err wide)
IsBnbCause i player aim old new (AStop.Endless var dir) =
    ChangesWhole player dir.items var × IsLeastOpen player aim
IsBnbCause i player aim old new AStop.NoMemory = Unit {0}

-- no more branches were spent than an open tree has units, and no cuts; pivots were counted
pub record SpendsWork (player : PlayerOf) (old new : Purse) : Type 0 where
  pub pivots : old.pivots ≤ new.pivots
  pub limit : new.limit ≡ old.limit
  pub cuts : new.cuts ≡ old.cuts
  pub branches : old.branches ≤ new.branches
  pub work : Work player
  pub units_are : new.branches ≤ old.branches + units work.tree
