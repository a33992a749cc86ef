-- The work of deciding a game.
use Rattle.std.specs.Prelude.{◌≡◌, ℕ, ◌+◌, ◌<◌, ◌≤◌, List, ◌⊎◌}
use Rattle.zr_io.specs.declared.purse.Purse.{Purse}
use Rattle.zr_io.specs.Purses.{counted}
use Rattle.zr_game.specs.Named.{NamedOf}
use Rattle.zr_game.specs.Players.{GameOf}
use Rattle.zr_game.specs.declared.kind.Kind.{Kind}
use Rattle.zr_tree.specs.Trees.{TreeOf}
use Rattle.zr_best.specs.Works.{AreOpenTrees, all_units}
use Rattle.zr_comp.specs.OpenCases.{CaseWork, case_units}
use Rattle.zr_works.specs.Most.{AreAllBounded, most_work}
use Rattle.zr_refute.specs.Covered.{covered}
use Rattle.zr_decide.specs.NamedCovers.{AreNamedCovers}

-- the units of an open tree of cases over the leaves of named covers; or none
abbrev pub AreCaseUnits : GameOf → Kind → ℕ → Type 0
AreCaseUnits game kind n =
    (n ≡ 0)
    ⊎ ((trees : List TreeOf) × (named : List (List NamedOf)) × AreNamedCovers game trees named
    × (work : CaseWork game (covered game trees named) kind)
    × (n ≡ case_units (covered game trees named) work.tree))

-- open trees, one per player, for the covers; one of cases; and one per player for the bounds
pub record DecideWork (game : GameOf) (kind : Kind) : Type 0 where
  pub covers : List TreeOf
  pub covers_are : AreOpenTrees game covers
  pub cases : ℕ
  pub cases_are : AreCaseUnits game kind cases
  pub bounds : List TreeOf
  pub bounds_are : AreOpenTrees game bounds

-- their units together are so many
abbrev pub HasWork : GameOf → Kind → ℕ → Type 0
HasWork game kind n =
    (work : DecideWork game kind)
    × (n ≡ all_units work.covers + work.cases + all_units work.bounds)

-- there is more work than the purse had left
abbrev pub HasMoreDecideWork : GameOf → Kind → Purse → Type 0
HasMoreDecideWork game kind purse =
    (n : ℕ) × HasWork game kind n × (purse.limit < counted purse + n)

-- no more branches were spent than there is work, and no cuts
pub record SpendsDecideWork (game : GameOf) (kind : Kind) (old new : Purse) : Type 0 where
  pub limit : new.limit ≡ old.limit
  pub cuts : new.cuts ≡ old.cuts
  pub pivots : old.pivots ≤ new.pivots
  pub branches : old.branches ≤ new.branches
  pub units : ℕ
  pub work : HasWork game kind units
  pub units_are : new.branches ≤ old.branches + units

-- where all whole variables have both bounds, the purse had less left than the most work
abbrev pub IsBelowMostWork : GameOf → Purse → Type 0
IsBelowMostWork game purse = AreAllBounded game → purse.limit < counted purse + most_work game
