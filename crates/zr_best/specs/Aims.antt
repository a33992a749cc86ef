-- The aims along which a player's least cost is searched for, and the steps by which they and the
-- cost are made.
use Rattle.std.specs.Prelude.{◌≡◌, ℕ, ◌<◌, ℤ, pos, neg_ℤ, ◌⊎◌, Result, Ok, Err, List, length, map}
use Rattle.zr_base.specs.declared.step.Wide.{Wide}
use Rattle.zr_base.specs.Fractions.{Fraction, IsAtMost, whole}
use Rattle.zr_base.specs.Lowest.{add_of, div_of}
use Rattle.zr_base.specs.Made.{made_from}
use Rattle.zr_base.specs.Points.{PointOf, value_of}
use Rattle.zr_base.specs.Steps.{cross_of, ◌>>=◌}
use Rattle.zr_game.specs.Players.{GameOf, PlayerOf}
use Rattle.zr_game.specs.Feasible.{IsFeasible}
use Rattle.zr_game.specs.Forms.{IsPlayer}
use Rattle.zr_game.specs.Means.{along_slope, slope}
use Rattle.zr_game.specs.Profiles.{Profile}
use Rattle.zr_simplex.specs.Programs.{numbers}
use Rattle.zr_asked.specs.Stuck.{Aims, IsPlainAim}
use Rattle.zr_bnb.specs.Values.{IsLeastValue}
use Rattle.zr_mix.specs.Claims.{IsClaim}
use Rattle.zr_mix.specs.Steps.{claim_steps, rest_steps, slope_steps}
use Rattle.zr_mix.specs.Values.{AreInLowestTerms, IsInLowestTerms}
use Rattle.zr_cert.specs.Certs.{MixtureOf}
use Rattle.zr_check.specs.Bounds.{all_means}

-- ---- aims

-- the player's slope times the least common multiple of its denominators and that of a value
pub record IsSlopeAim (player : PlayerOf) (profile : Profile) (value : Fraction)
    (aim : List ℤ) : Type 0 where
  pub slopes : List Fraction
  pub by : ℤ
  pub left : List ℤ
  pub right : ℤ
  pub are_slopes : AreInLowestTerms slopes (length player.vars) (slope player profile)
  pub claim : IsClaim slopes value by left right
  pub aim_is : aim ≡ map neg_ℤ left

-- the least value along the player's slope, in lowest terms, which a feasible point has
pub record IsLeastAlong (player : PlayerOf) (profile : Profile) (value : Fraction)
    : Type 0 where
  pub point : PointOf
  pub feasible : IsFeasible player point
  pub value_is : IsInLowestTerms value (along_slope player profile (value_of point))
  pub least : (y : PointOf) → IsFeasible player y
      → IsAtMost value (along_slope player profile (value_of y))

-- what may be asked: the slope's aim with 0, and with the least value; zero; and plus or minus one
-- variable
abbrev pub MayAskAlong : PlayerOf → Profile → Aims
MayAskAlong player profile aim =
    IsSlopeAim player profile (whole (pos 0)) aim
    ⊎ (((value : Fraction) × IsLeastAlong player profile value
    × IsSlopeAim player profile value aim)
    ⊎ IsPlainAim player aim)

-- ---- steps

-- the player's slope at these means
abbrev pub slope_list : GameOf → PlayerOf → List Fraction → Result (List Fraction) Wide
slope_list game player means = made_from (slope_steps game player means) 0 (length player.vars)

-- the slope, and its claim with 0
abbrev pub slope_claim : GameOf → PlayerOf → List Fraction → Result (List ℤ × ℤ) Wide
slope_claim game player means = do
  slopes ← slope_list game player means
  claim_steps slopes (whole (pos 0))

-- the aim that was made of the slope: its claim with 0, with the sign turned, over `by`
pub record IsAimMade (game : GameOf) (player : PlayerOf) (means : List Fraction) (by : ℤ)
    (aim : List ℤ) : Type 0 where
  pub slopes : List Fraction
  pub are_slopes : slope_list game player means ≡ Ok slopes
  pub left : List ℤ
  pub right : ℤ
  pub made : claim_steps slopes (whole (pos 0)) ≡ Ok (left, right)
  pub claim : IsClaim slopes (whole (pos 0)) by left right
  pub aim_is : aim ≡ map neg_ℤ left

-- the cost of which the aim's least value is this: the value over `by`, and the rest
abbrev pub least_cost : GameOf → PlayerOf → List Fraction → ℤ → Fraction → Result Fraction Wide
least_cost game player means by least = do
  value ← div_of least (whole by)
  rest ← rest_steps game player means
  add_of value rest

-- a product of the least value's denominator and a number of the aim is too wide
abbrev pub IsWideAimProduct : PlayerOf → List ℤ → Fraction → Wide → Type 0
IsWideAimProduct player aim least w =
    (v : ℕ) × (v < length player.vars) × (cross_of (least.den, numbers aim v) (pos 0, pos 0) ≡ Err w)

-- a step is too wide once the aim's least value is found
pub record IsWideLeastCost (game : GameOf) (player : PlayerOf) (means : List Fraction) (w : Wide)
    : Type 0 where
  pub by : ℤ
  pub aim : List ℤ
  pub made : IsAimMade game player means by aim
  pub least : Fraction
  pub is_least : IsLeastValue player aim least
  pub wide : IsWideAimProduct player aim least w ⊎ (least_cost game player means by least ≡ Err w)

-- a step of the player's answer is too wide
abbrev pub IsWideAnswer : GameOf → PlayerOf → List Fraction → Wide → Type 0
IsWideAnswer game player means w =
    (slope_claim game player means ≡ Err w) ⊎ IsWideLeastCost game player means w

-- a step of the means, or of some player's answer at them, is too wide
abbrev pub IsWideBestStep : GameOf → List MixtureOf → Wide → Type 0
IsWideBestStep game mixtures w =
    (all_means game mixtures ≡ Err w)
    ⊎ ((means : List Fraction) × (all_means game mixtures ≡ Ok means) × (i : ℕ) × (player : PlayerOf)
    × IsPlayer game i player × IsWideAnswer game player means w)
