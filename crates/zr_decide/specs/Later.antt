-- What may become of a game once each player has a decided cover.
use Rattle.std.specs.Prelude.{◌≡◌, ℕ, ◌+◌, ◌^◌, ◌<◌, ◌≤◌, Option, Some, None, List, min, map, ◌-◌, ◌⊎◌}
use Rattle.std.specs.Global.{Vec}
use Rattle.zr_io.specs.declared.purse.Purse.{Purse}
use Rattle.zr_io.specs.Purses.{counted}
use Rattle.zr_game.specs.Players.{GameOf}
use Rattle.zr_game.specs.declared.named.Named.{Named}
use Rattle.zr_costs.specs.declared.stop.CostStop.{CostStop}
use Rattle.zr_costs.specs.declared.stop.CostStop.TheVariants as ACost
use Rattle.zr_game.specs.declared.kind.Kind.{Kind}
use Rattle.zr_tree.specs.Trees.{TreeOf}
use Rattle.zr_best.specs.Works.{all_units, AreOpenTrees, HasMoreBestWork}
use Rattle.zr_cert.specs.Certs.{named_list}
use Rattle.zr_comp.specs.Causes.{HasMoreCases, IsStuckCase}
use Rattle.zr_system.specs.Regions.{LeavesOf}
use Rattle.zr_system.specs.System.{cell_count}
use Rattle.zr_decide.specs.declared.stop.DecideStop.{DecideStop}
use Rattle.zr_decide.specs.declared.stop.DecideStop.TheVariants as AStop
use Rattle.zr_decide.specs.Causes.{IsOpenBySystem, IsStuckChoice, IsStuckCover, IsTooLarge}
use Rattle.zr_decide.specs.Decided.{cell_limit, decided_leaves}
use Rattle.zr_decide.specs.Works.{AreCaseUnits}
use Rattle.zr_decide.specs.Equilibria.{IsOpenByClaim, IsStuckClaim, IsWideClaim}

-- the work that is left then: that of cases, and that of the bounds
pub record LaterWork (game : GameOf) (kind : Kind) : Type 0 where
  pub cases : ℕ
  pub cases_are : AreCaseUnits game kind cases
  pub bounds : List TreeOf
  pub bounds_are : AreOpenTrees game bounds

abbrev pub HasMoreLaterWork : GameOf → Kind → Purse → Type 0
HasMoreLaterWork game kind purse =
    (work : LaterWork game kind)
    × (purse.limit < counted purse + (work.cases + all_units work.bounds))

pub record SpendsLaterWork (game : GameOf) (kind : Kind) (old new : Purse) : Type 0 where
  pub limit : new.limit ≡ old.limit
  pub cuts : new.cuts ≡ old.cuts
  pub pivots : old.pivots ≤ new.pivots
  pub branches : old.branches ≤ new.branches
  pub work : LaterWork game kind
  pub units_are : new.branches ≤ old.branches + (work.cases + all_units work.bounds)

-- as the causes of a decision, with the work that is left
abbrev pub IsLaterCause : GameOf → Kind → Purse → Purse → DecideStop → Type 0
IsLaterCause game kind old new AStop.Spent =
    (counted new ≡ new.limit) × HasMoreLaterWork game kind old
IsLaterCause game kind old new (AStop.Wide asked) =
    IsStuckCover game asked ⊎ (IsStuckChoice game kind asked ⊎ IsStuckClaim game kind asked)
IsLaterCause game kind old new (AStop.Step wide) = IsWideClaim game kind wide
IsLaterCause game kind old new (AStop.Endless i var dir named) =
    IsOpenBySystem game kind i var dir.items (map named_list named.items)
    ⊎ IsOpenByClaim game kind i var dir.items (map named_list named.items)
IsLaterCause game kind old new (AStop.TooLarge cells) = IsTooLarge game cells
IsLaterCause game kind old new AStop.NoMemory = Unit {0}

-- there are too many cells over the leaves of these covers, or a question of what is named is stuck
abbrev pub IsSizeStop : GameOf → List TreeOf → DecideStop → Type 0
IsSizeStop game trees AStop.Spent = ⊥
IsSizeStop game trees (AStop.Wide asked) = IsStuckCover game asked
IsSizeStop game trees (AStop.Step wide) = ⊥
IsSizeStop game trees (AStop.Endless i var dir named) = ⊥
IsSizeStop game trees (AStop.TooLarge cells) =
    (cells ≡ min (cell_count game (decided_leaves game trees)) (2 ^ 128 - 1))
    × (cell_limit < cells)
IsSizeStop game trees AStop.NoMemory = Unit {0}

-- why the search over choices has no answer
abbrev pub IsSearchStop : GameOf → LeavesOf → Kind → Purse → Purse → DecideStop → Type 0
IsSearchStop game leaves kind old new AStop.Spent =
    (counted new ≡ new.limit) × HasMoreCases game leaves kind old
IsSearchStop game leaves kind old new (AStop.Wide asked) =
    IsStuckCase game leaves kind asked.question asked.stuck
IsSearchStop game leaves kind old new (AStop.Step wide) = ⊥
IsSearchStop game leaves kind old new (AStop.Endless i var dir named) = ⊥
IsSearchStop game leaves kind old new (AStop.TooLarge cells) = ⊥
IsSearchStop game leaves kind old new AStop.NoMemory = Unit {0}

-- why the bounds in a drawn equilibrium can't be had
abbrev pub IsBoundsStop : GameOf → Kind → Purse → Purse → DecideStop → Type 0
IsBoundsStop game kind old new AStop.Spent =
    (counted new ≡ new.limit) × HasMoreBestWork game old
IsBoundsStop game kind old new (AStop.Wide asked) =
    IsStuckCover game asked ⊎ IsStuckClaim game kind asked
IsBoundsStop game kind old new (AStop.Step wide) = IsWideClaim game kind wide
IsBoundsStop game kind old new (AStop.Endless i var dir named) =
    IsOpenByClaim game kind i var dir.items (map named_list named.items)
IsBoundsStop game kind old new (AStop.TooLarge cells) = ⊥
IsBoundsStop game kind old new AStop.NoMemory = Unit {0}

-- the stop of a decision whose bounds stopped so
abbrev pub stop_with : Vec (Vec Named) → CostStop → DecideStop
stop_with named ACost.Spent = AStop.Spent
stop_with named (ACost.Wide asked) = AStop.Wide asked
stop_with named (ACost.Step wide) = AStop.Step wide
stop_with named (ACost.Endless i var dir) = AStop.Endless i var dir named
stop_with named ACost.NoMemory = AStop.NoMemory

-- the player of whom it is open what it pays at least
abbrev pub open_player : CostStop → Option ℕ
open_player ACost.Spent = None
open_player (ACost.Wide asked) = None
open_player (ACost.Step wide) = None
open_player (ACost.Endless i var dir) = Some i
open_player ACost.NoMemory = None
