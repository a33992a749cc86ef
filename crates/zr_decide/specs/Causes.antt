-- Why there is no certificate.
use Rattle.std.specs.Prelude.{◌≡◌, ℕ, ◌-◌, ◌^◌, ◌<◌, List, Some, map, min, slice_get, ◌⊎◌, []}
use Rattle.zr_base.specs.Points.{PointOf}
use Rattle.zr_io.specs.declared.purse.Purse.{Purse}
use Rattle.zr_io.specs.Purses.{counted}
use Rattle.zr_game.specs.Forms.{IsPlayer}
use Rattle.zr_game.specs.Named.{NamedOf}
use Rattle.zr_game.specs.Players.{GameOf, PlayerOf}
use Rattle.zr_game.specs.Rays.{Direction}
use Rattle.zr_game.specs.declared.kind.Kind.{Kind}
use Rattle.zr_tree.specs.Trees.{TreeOf, Loose}
use Rattle.zr_asked.specs.declared.question.AskedLp.{AskedLp}
use Rattle.zr_asked.specs.Stuck.{IsPlainAim, IsStuckAsked}
use Rattle.zr_cases.specs.Trees.{CasesOf}
use Rattle.zr_cert.specs.Certs.{named_list}
use Rattle.zr_comp.specs.Answers.{IsSolution}
use Rattle.zr_comp.specs.Causes.{IsStuckCase}
use Rattle.zr_cover.specs.Covers.{HasNoLoose}
use Rattle.zr_refute.specs.Covered.{covered}
use Rattle.zr_refute.specs.Refuting.{RefutesUnder}
use Rattle.zr_system.specs.System.{cell_count}
use Rattle.zr_decide.specs.declared.stop.DecideStop.{DecideStop}
use Rattle.zr_decide.specs.declared.stop.DecideStop.TheVariants as AStop
use Rattle.zr_decide.specs.Decided.{AreDecidedCovers, IsDrawnWholeRay, cell_limit, decided_leaves}
use Rattle.zr_decide.specs.NamedCovers.{AreNamedCovers}
use Rattle.zr_decide.specs.Equilibria.{IsOpenByClaim, IsStuckClaim, IsWideClaim}
use Rattle.zr_decide.specs.Works.{HasMoreDecideWork}

-- a question about some player's points is stuck, whose aim is zero, or plus or minus one variable:
-- one of its cover, or one of what is named of it
abbrev pub IsStuckCover : GameOf → AskedLp → Type 0
IsStuckCover game asked =
    (i : ℕ) × (player : PlayerOf) × IsPlayer game i player
    × IsStuckAsked i player (IsPlainAim player) asked

-- a question of choices over the leaves of named covers is stuck
abbrev pub IsStuckChoice : GameOf → Kind → AskedLp → Type 0
IsStuckChoice game kind asked =
    (trees : List TreeOf) × (named : List (List NamedOf)) × AreNamedCovers game trees named
    × IsStuckCase game (covered game trees named) kind asked.question asked.stuck

-- the player is the first one whose cover is loose
pub record IsFirstLoose (trees : List TreeOf) (i : ℕ) : Type 0 where
  pub loose : slice_get trees i ≡ Some Loose
  pub first : (k : ℕ) (t : TreeOf) → k < i → slice_get trees k ≡ Some t → HasNoLoose t

-- the system over the leaves of named covers has a solution under a complete list of choices, so
-- that no refutation of it is right; the player is the first one whose cover is loose, and the ray
-- is one of its relaxation
pub record IsOpenBySystem (game : GameOf) (kind : Kind) (i var : ℕ) (dir : Direction)
    (named : List (List NamedOf)) : Type 0 where
  pub trees : List TreeOf
  pub covers : AreNamedCovers game trees named
  pub x : PointOf
  pub solution : IsSolution game (covered game trees named) kind x
  pub not_refuted : (t : CasesOf) → RefutesUnder game (covered game trees named) kind [] t → ⊥
  pub loose : IsFirstLoose trees i
  pub player : PlayerOf
  pub is_player : IsPlayer game i player
  pub ray : IsDrawnWholeRay player var dir

-- so many cells has the system over the leaves of decided covers with nothing named, up to the last
-- number of 128 bits, and that is above the limit
abbrev pub IsTooLarge : GameOf → ℕ → Type 0
IsTooLarge game cells =
    (trees : List TreeOf) × AreDecidedCovers game trees
    × (cells ≡ min (cell_count game (decided_leaves game trees)) (2 ^ 128 - 1))
    × (cell_limit < cells)

-- the purse is at its limit, and there is more work than it had left; a question is stuck; a step of
-- the costs in a drawn equilibrium is too wide; the system has a solution over leaves one of which
-- is loose, or it is open what a player pays at least against a drawn equilibrium; or the system has
-- too many cells
abbrev pub IsDecideCause : GameOf → Kind → Purse → Purse → DecideStop → Type 0
IsDecideCause game kind old new AStop.Spent =
    (counted new ≡ new.limit) × HasMoreDecideWork game kind old
IsDecideCause game kind old new (AStop.Wide asked) =
    IsStuckCover game asked ⊎ (IsStuckChoice game kind asked ⊎ IsStuckClaim game kind asked)
IsDecideCause game kind old new (AStop.Step wide) = IsWideClaim game kind wide
IsDecideCause game kind old new (AStop.Endless i var dir named) =
    IsOpenBySystem game kind i var dir.items (map named_list named.items)
    ⊎ IsOpenByClaim game kind i var dir.items (map named_list named.items)
IsDecideCause game kind old new (AStop.TooLarge cells) = IsTooLarge game cells
IsDecideCause game kind old new AStop.NoMemory = Unit {0}
