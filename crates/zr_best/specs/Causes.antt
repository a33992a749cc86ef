-- Why there are no answers.
use Rattle.std.specs.Prelude.{◌≡◌, ℕ, ℤ, pos, List}
use Rattle.zr_base.specs.Fractions.{Fraction, whole}
use Rattle.zr_io.specs.declared.purse.Purse.{Purse}
use Rattle.zr_io.specs.Purses.{counted}
use Rattle.zr_lin.specs.declared.stuck.Stuck.{Stuck}
use Rattle.zr_game.specs.Players.{GameOf, PlayerOf}
use Rattle.zr_game.specs.Forms.{IsPlayer}
use Rattle.zr_game.specs.Profiles.{Profile}
use Rattle.zr_game.specs.Rays.{ChangesWhole, Direction}
use Rattle.zr_asked.specs.declared.question.AskedLp.{AskedLp}
use Rattle.zr_asked.specs.Stuck.{IsStuckAsked}
use Rattle.zr_bnb.specs.Causes.{HasMoreWork as HasMoreOwnWork, IsLeastOpen}
use Rattle.zr_cert.specs.Certs.{MixtureOf, profile_with}
use Rattle.zr_best.specs.declared.stop.BestStop.{BestStop}
use Rattle.zr_best.specs.declared.stop.BestStop.TheVariants as AStop
use Rattle.zr_best.specs.Aims.{IsSlopeAim, IsWideAnswer, IsWideBestStep, MayAskAlong}
use Rattle.zr_best.specs.Works.{HasMoreBestWork}

-- a question about player i's points is stuck, whose aim may be asked along its slope
abbrev pub IsStuckAlong : ℕ → PlayerOf → Profile → AskedLp → Type 0
IsStuckAlong i player profile asked = IsStuckAsked i player (MayAskAlong player profile) asked

-- a ray of the relaxation changes the whole variable, and the least value along the slope is open
pub record IsOpenAlong (player : PlayerOf) (profile : Profile) (var : ℕ) (dir : Direction)
    : Type 0 where
  pub changes : ChangesWhole player dir var
  pub aim : List ℤ
  pub is_aim : IsSlopeAim player profile (whole (pos 0)) aim
  pub least_open : IsLeastOpen player aim

-- why player i has no answer
abbrev pub IsAnswerCause : GameOf → List MixtureOf → List Fraction → ℕ → PlayerOf → Purse → Purse
    → BestStop → Type 0
IsAnswerCause game mixtures means i player old new AStop.Spent =
    (counted new ≡ new.limit) × HasMoreOwnWork player old
IsAnswerCause game mixtures means i player old new (AStop.Wide asked) =
    IsStuckAlong i player (profile_with mixtures) asked
IsAnswerCause game mixtures means i player old new (AStop.Step wide) =
    IsWideAnswer game player means wide
IsAnswerCause game mixtures means i player old new (AStop.Endless k var dir) =
    (k ≡ i) × IsOpenAlong player (profile_with mixtures) var dir.items
IsAnswerCause game mixtures means i player old new AStop.NoMemory = Unit {0}

-- the purse is at its limit, and there is more work than it had left; a question of some player is
-- stuck; a step is too wide; or the least value along a player's slope is open
abbrev pub IsBestCause : GameOf → List MixtureOf → Purse → Purse → BestStop → Type 0
IsBestCause game mixtures old new AStop.Spent = (counted new ≡ new.limit) × HasMoreBestWork game old
IsBestCause game mixtures old new (AStop.Wide asked) =
    (i : ℕ) × (player : PlayerOf) × IsPlayer game i player
    × IsStuckAlong i player (profile_with mixtures) asked
IsBestCause game mixtures old new (AStop.Step wide) = IsWideBestStep game mixtures wide
IsBestCause game mixtures old new (AStop.Endless i var dir) =
    (player : PlayerOf) × IsPlayer game i player
    × IsOpenAlong player (profile_with mixtures) var dir.items
IsBestCause game mixtures old new AStop.NoMemory = Unit {0}
