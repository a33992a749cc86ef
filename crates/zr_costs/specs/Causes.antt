-- Why there are no bounds.
use Rattle.std.specs.Prelude.{◌≡◌, ◌⊎◌, ℕ, ℤ, Ok, Err, List}
use Rattle.zr_base.specs.declared.step.Wide.{Wide}
use Rattle.zr_base.specs.Fractions.{Fraction}
use Rattle.zr_io.specs.declared.purse.Purse.{Purse}
use Rattle.zr_io.specs.Purses.{counted}
use Rattle.zr_game.specs.Forms.{IsPlayer}
use Rattle.zr_game.specs.Means.{along_slope, mean}
use Rattle.zr_game.specs.Players.{GameOf, PlayerOf}
use Rattle.zr_game.specs.Profiles.{Profile, strategy_of}
use Rattle.zr_game.specs.Rays.{ChangesWhole, Direction}
use Rattle.zr_asked.specs.declared.question.AskedLp.{AskedLp}
use Rattle.zr_asked.specs.Stuck.{Aims, IsPlainAim, IsStuckAsked}
use Rattle.zr_bnb.specs.Causes.{HasMoreWork as HasMoreOwnWork, IsLeastOpen}
use Rattle.zr_mix.specs.Values.{IsInLowestTerms}
use Rattle.zr_cert.specs.Certs.{MixtureOf, profile_with}
use Rattle.zr_check.specs.Bounds.{all_means, cost_steps}
use Rattle.zr_best.specs.Aims.{IsSlopeAim}
use Rattle.zr_best.specs.Works.{HasMoreBestWork}
use Rattle.zr_costs.specs.declared.stop.CostStop.{CostStop}
use Rattle.zr_costs.specs.declared.stop.CostStop.TheVariants as AStop

-- the slope of player i times the least common multiple of its denominators and that of the value
-- of the player's own mean along it
abbrev pub IsOwnAim : ℕ → PlayerOf → Profile → List ℤ → Type 0
IsOwnAim i player profile aim =
    (value : Fraction)
    × IsInLowestTerms value (along_slope player profile (mean (strategy_of profile i)))
    × IsSlopeAim player profile value aim

-- what may be asked: that aim; zero; and plus or minus one variable
abbrev pub MayAskOwn : ℕ → PlayerOf → Profile → Aims
MayAskOwn i player profile aim = IsOwnAim i player profile aim ⊎ IsPlainAim player aim

-- a question about player i's points is stuck, whose aim may be asked
abbrev pub IsStuckOwn : ℕ → PlayerOf → Profile → AskedLp → Type 0
IsStuckOwn i player profile asked = IsStuckAsked i player (MayAskOwn i player profile) asked

-- a ray of the relaxation changes the whole variable, and the least value along the aim is open
pub record IsOpenOwn (i : ℕ) (player : PlayerOf) (profile : Profile) (var : ℕ) (dir : Direction)
    : Type 0 where
  pub changes : ChangesWhole player dir var
  pub aim : List ℤ
  pub is_aim : IsOwnAim i player profile aim
  pub least_open : IsLeastOpen player aim

-- a step of the means is too wide, or one of some player's cost and claim at them
abbrev pub IsWideCostStep : GameOf → List MixtureOf → Wide → Type 0
IsWideCostStep game mixtures w =
    (all_means game mixtures ≡ Err w)
    ⊎ ((means : List Fraction) × (all_means game mixtures ≡ Ok means) × (i : ℕ)
    × (player : PlayerOf)
    × IsPlayer game i player × (cost_steps game player i means ≡ Err w))

-- why player i has no bound
abbrev pub IsBoundCause : GameOf → List MixtureOf → List Fraction → ℕ → PlayerOf → Purse → Purse
    → CostStop → Type 0
IsBoundCause game mixtures means i player old new AStop.Spent =
    (counted new ≡ new.limit) × HasMoreOwnWork player old
IsBoundCause game mixtures means i player old new (AStop.Wide asked) =
    IsStuckOwn i player (profile_with mixtures) asked
IsBoundCause game mixtures means i player old new (AStop.Step wide) =
    cost_steps game player i means ≡ Err wide
IsBoundCause game mixtures means i player old new (AStop.Endless k var dir) =
    (k ≡ i) × IsOpenOwn i player (profile_with mixtures) var dir.items
IsBoundCause game mixtures means i player old new AStop.NoMemory = Unit {0}

-- the purse is at its limit, and there is more work than it had left; a question of some player is
-- stuck; a step is too wide; or the least value along a player's aim is open
abbrev pub IsCostCause : GameOf → List MixtureOf → Purse → Purse → CostStop → Type 0
IsCostCause game mixtures old new AStop.Spent = (counted new ≡ new.limit) × HasMoreBestWork game old
IsCostCause game mixtures old new (AStop.Wide asked) =
    (i : ℕ) × (player : PlayerOf) × IsPlayer game i player
    × IsStuckOwn i player (profile_with mixtures) asked
IsCostCause game mixtures old new (AStop.Step wide) = IsWideCostStep game mixtures wide
IsCostCause game mixtures old new (AStop.Endless i var dir) =
    (player : PlayerOf) × IsPlayer game i player
    × IsOpenOwn i player (profile_with mixtures) var dir.items
IsCostCause game mixtures old new AStop.NoMemory = Unit {0}
