-- Why the search for a box tree stops without an answer, and what it spends.
use Rattle.std.specs.Prelude.{◌≡◌, ℕ, ◌+◌, ◌<◌, ◌≤◌, length, ◌⊎◌}
use Rattle.zr_base.specs.Fractions.{IsSame, whole}
use Rattle.zr_io.specs.declared.purse.Purse.{Purse}
use Rattle.zr_io.specs.Purses.{counted}
use Rattle.zr_game.specs.Players.{GameOf, PlayerOf}
use Rattle.zr_game.specs.Forms.{IsPlayer}
use Rattle.zr_game.specs.Means.{slope}
use Rattle.zr_game.specs.Profiles.{IsOfKind, IsProfile, Profile}
use Rattle.zr_game.specs.declared.kind.Kind.TheVariants.{Pure}
use Rattle.zr_simplex.specs.Programs.{numbers}
use Rattle.zr_asked.specs.declared.question.AskedLp.{AskedLp}
use Rattle.zr_asked.specs.Stuck.{Aims, IsPlainAim, IsStuckAsked}
use Rattle.zr_cases.specs.Trees.{BoxTreeOf}
use Rattle.zr_boxes.specs.Boxes.{root_box}
use Rattle.zr_box_search.specs.declared.answer.BoxStop.{BoxStop}
use Rattle.zr_box_search.specs.declared.answer.BoxStop.TheVariants as AStop
use Rattle.zr_box_search.specs.OpenBoxes.{HasUnits, IsOpenBox}

-- the slope of the player's cost at a pure profile
abbrev pub IsPureSlope : GameOf → PlayerOf → Aims
IsPureSlope game player aim =
    (profile : Profile) × IsProfile game profile × IsOfKind Pure profile
    × (length aim ≡ length player.vars)
    × ((v : ℕ) → v < length player.vars
    → IsSame (slope player profile v) (whole (numbers aim v)))

-- what may be asked: zero, plus or minus one variable, and the slope at a pure profile
abbrev pub MayAskIn : GameOf → PlayerOf → Aims
MayAskIn game player aim = IsPlainAim player aim ⊎ IsPureSlope game player aim

-- the kept question is such a one of a player, and is stuck
abbrev pub IsStuckBox : GameOf → AskedLp → Type 0
IsStuckBox game asked =
    (i : ℕ) × (player : PlayerOf) × IsPlayer game i player
    × IsStuckAsked i player (MayAskIn game player) asked

-- an open box tree, with its units of work
pub record BoxWork (game : GameOf) : Type 0 where
  pub tree : BoxTreeOf
  pub open_is : IsOpenBox game (root_box game) tree
  pub units_of : ℕ
  pub units_are : HasUnits game (root_box game) tree units_of

-- there is more work than the purse had left
abbrev pub HasMoreBoxWork : GameOf → Purse → Type 0
HasMoreBoxWork game purse =
    (work : BoxWork game) × (purse.limit < counted purse + work.units_of)

-- the purse is at its limit, and there is more work than it had left; or a question is stuck
abbrev pub IsBoxCause : GameOf → Purse → Purse → BoxStop → Type 0
IsBoxCause game old new AStop.Spent = (counted new ≡ new.limit) × HasMoreBoxWork game old
IsBoxCause game old new (AStop.Wide asked) = IsStuckBox game asked
IsBoxCause game old new AStop.NoMemory = Unit {0}

-- no more branches were spent than an open box tree has units of work, and no cuts
pub record SpendsBoxWork (game : GameOf) (old new : Purse) : Type 0 where
  pub limit : new.limit ≡ old.limit
  pub cuts : new.cuts ≡ old.cuts
  pub pivots : old.pivots ≤ new.pivots
  pub branches : old.branches ≤ new.branches
  pub work : BoxWork game
  pub units_are : new.branches ≤ old.branches + work.units_of
