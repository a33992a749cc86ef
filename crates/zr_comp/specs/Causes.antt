-- Why a search over choices stops without an answer, and what it spends.
use Rattle.std.specs.Prelude.{◌≡◌, ℕ, ◌+◌, ◌<◌, ◌≤◌, List}
use Rattle.zr_io.specs.declared.purse.Purse.{Purse}
use Rattle.zr_io.specs.Purses.{counted}
use Rattle.zr_lin.specs.declared.stuck.Stuck.{Stuck}
use Rattle.zr_game.specs.Players.{GameOf}
use Rattle.zr_game.specs.declared.kind.Kind.{Kind}
use Rattle.zr_system.specs.Asked.{HasWideCoefficient}
use Rattle.zr_system.specs.Regions.{LeavesOf}
use Rattle.zr_asked.specs.declared.question.Asked.{Asked}
use Rattle.zr_asked.specs.declared.question.Asked.TheVariants.{Branch, Choices}
use Rattle.zr_choices.specs.Replies.{IsStuckChoices}
use Rattle.zr_comp.specs.declared.answer.CompStop.{CompStop}
use Rattle.zr_comp.specs.declared.answer.CompStop.TheVariants.{Spent, Wide, WideRow, NoMemory}
use Rattle.zr_comp.specs.OpenCases.{CaseWork, case_units}
use Rattle.zr_comp.specs.OpenPaths.{IsOpenChoicePath}

-- the kept question is one of choices, its path leads to a node of an open tree, and it is stuck
abbrev pub IsStuckCase : GameOf → LeavesOf → Kind → Asked → Stuck → Type 0
IsStuckCase game leaves kind (Branch i path aim) stuck = ⊥
IsStuckCase game leaves kind (Choices path) stuck =
    IsOpenChoicePath game leaves kind path.items × IsStuckChoices game leaves path.items stuck

-- there is more work than the purse had left: an open tree has more units
abbrev pub HasMoreCases : GameOf → LeavesOf → Kind → Purse → Type 0
HasMoreCases game leaves kind purse =
    (work : CaseWork game leaves kind)
    × (purse.limit < counted purse + case_units leaves work.tree)

-- the purse is at its limit, and there is more work than it had left; a question is stuck; or a
-- step of a coefficient of the system is too wide
abbrev pub IsCompCause : GameOf → LeavesOf → Kind → Purse → Purse → CompStop → Type 0
IsCompCause game leaves kind old new Spent =
    (counted new ≡ new.limit) × HasMoreCases game leaves kind old
IsCompCause game leaves kind old new (Wide asked) =
    IsStuckCase game leaves kind asked.question asked.stuck
IsCompCause game leaves kind old new (WideRow wide) = HasWideCoefficient game leaves wide
IsCompCause game leaves kind old new NoMemory = Unit {0}

-- no more branches were spent than an open tree has units, and no cuts
pub record SpendsCases (game : GameOf) (leaves : LeavesOf) (kind : Kind) (old new : Purse) : Type
    0 where
  pub limit : new.limit ≡ old.limit
  pub cuts : new.cuts ≡ old.cuts
  pub pivots : old.pivots ≤ new.pivots
  pub branches : old.branches ≤ new.branches
  pub work : CaseWork game leaves kind
  pub units_are : new.branches ≤ old.branches + case_units leaves work.tree
