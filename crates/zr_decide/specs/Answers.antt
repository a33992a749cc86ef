-- What is known of each answer of a decision.
use Rattle.std.specs.Prelude.{◌≡◌, ◌⊎◌, ℕ, ◌<◌, List, Result, Ok, Err, map}
use Rattle.zr_game.specs.Forms.{IsPlayer}
use Rattle.zr_game.specs.Named.{NamedOf}
use Rattle.zr_game.specs.Players.{GameOf, PlayerOf}
use Rattle.zr_game.specs.Rays.{HasWholeRay}
use Rattle.zr_tree.specs.Trees.{TreeOf, preorder}
use Rattle.zr_asked.specs.declared.question.AskedLp.{AskedLp}
use Rattle.zr_box_search.specs.Answers.{HasPureEquilibrium}
use Rattle.zr_box_search.specs.Causes.{BoxWork, IsStuckBox}
use Rattle.zr_box_search.specs.Whole.{HasOpenPlayer}
use Rattle.zr_cert.specs.Certs.{BoxVerdict, CoverVerdict, EmptyVerdict, ProfileVerdict, VerdictOf}
use Rattle.zr_cert.specs.Listed.{cert_of}
use Rattle.zr_cert.specs.declared.cert.Cert.{Cert}
use Rattle.zr_decide.specs.declared.stop.DecideStop.{DecideStop}
use Rattle.zr_decide.specs.declared.stop.DecideStop.TheVariants as AStop
use Rattle.zr_decide.specs.NamedCovers.{AreNamedCovers}

-- ---- the limit of cells

-- there are decided covers over whose leaves the system hasn't too many cells
abbrev pub HasNamedCovers : GameOf → Type 0
HasNamedCovers game =
    (trees : List TreeOf) × (named : List (List NamedOf)) × AreNamedCovers game trees named

-- so it is where a profile is shown; and the covers and names of a refutation are such ones
abbrev pub IsVerdictWithin : GameOf → VerdictOf → Type 0
IsVerdictWithin game (ProfileVerdict mixtures bounds) = HasNamedCovers game
IsVerdictWithin game (CoverVerdict covers named proof) =
    (trees : List TreeOf) × (map preorder trees ≡ covers) × AreNamedCovers game trees named
IsVerdictWithin game (EmptyVerdict i nodes) = Unit {0}
IsVerdictWithin game (BoxVerdict nodes) = Unit {0}

-- so it is where a step of a cost is too wide, or the game stays open
abbrev pub IsStopWithin : GameOf → DecideStop → Type 0
IsStopWithin game AStop.Spent = Unit {0}
IsStopWithin game (AStop.Wide asked) = Unit {0}
IsStopWithin game (AStop.Step wide) = HasNamedCovers game
IsStopWithin game (AStop.Endless i var dir named) = HasNamedCovers game
IsStopWithin game (AStop.TooLarge cells) = Unit {0}
IsStopWithin game AStop.NoMemory = Unit {0}

abbrev pub IsWithin : GameOf → Result Cert DecideStop → Type 0
IsWithin game (Ok cert) = IsVerdictWithin game (cert_of cert).verdict
IsWithin game (Err stop) = IsStopWithin game stop

-- ---- boxes

-- the search for a box tree with a new purse of this limit may end without one: none is searched for
-- this game, some pure profile is an equilibrium, there is more work than the limit, or a question
-- is stuck
abbrev pub MayLackBoxes : GameOf → ℕ → Type 0
MayLackBoxes game limit =
    HasOpenPlayer game ⊎ (HasPureEquilibrium game
    ⊎ (((work : BoxWork game) × (limit < work.units_of))
    ⊎ ((asked : AskedLp) × IsStuckBox game asked)))

abbrev pub IsBoxVerdict : VerdictOf → Type 0
IsBoxVerdict (ProfileVerdict mixtures bounds) = ⊥
IsBoxVerdict (CoverVerdict covers named proof) = ⊥
IsBoxVerdict (EmptyVerdict i nodes) = ⊥
IsBoxVerdict (BoxVerdict nodes) = Unit {0}

-- a box tree, or want of memory
abbrev pub IsByBoxes : Result Cert DecideStop → Type 0
IsByBoxes (Ok cert) = IsBoxVerdict (cert_of cert).verdict
IsByBoxes (Err stop) = stop ≡ AStop.NoMemory

-- ---- rays

abbrev pub HasNoWholeRay : GameOf → Type 0
HasNoWholeRay game = (i : ℕ) (player : PlayerOf) → IsPlayer game i player → HasWholeRay player → ⊥

abbrev pub IsEndless : Result Cert DecideStop → Type 0
IsEndless (Ok cert) = ⊥
IsEndless (Err AStop.Spent) = ⊥
IsEndless (Err (AStop.Wide asked)) = ⊥
IsEndless (Err (AStop.Step wide)) = ⊥
IsEndless (Err (AStop.Endless i var dir named)) = Unit {0}
IsEndless (Err (AStop.TooLarge cells)) = ⊥
IsEndless (Err AStop.NoMemory) = ⊥
