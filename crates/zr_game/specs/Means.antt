-- Means of strategies, and the slope of a player's cost at the other players' means.
use Rattle.std.specs.Prelude.{ℕ, ◌==◌, length}
use Rattle.std.specs.List.{filter}
use Rattle.zr_base.specs.Terms.{coef_at}
use Rattle.zr_base.specs.Fractions.{Fraction, whole, plus, times, over, sum_over, sum_below, IsAtMost}
use Rattle.zr_base.specs.Points.{PointOf, value_of}
use Rattle.zr_game.specs.Players.{GameOf, PlayerOf}
use Rattle.zr_game.specs.Forms.{IsPlayer}
use Rattle.zr_game.specs.Feasible.{IsFeasible}
use Rattle.zr_game.specs.Costs.{rest_at}
use Rattle.zr_game.specs.Profiles.{Profile, Strategy, weighted, total, strategy_of}

-- the mean of variable v
abbrev pub mean : Strategy → ℕ → Fraction
mean parts v = over (weighted parts (λ x. value_of x v)) (total parts)

-- the own number of v, plus the cross terms of v at the other players' means
abbrev pub slope : PlayerOf → Profile → ℕ → Fraction
slope player profile v =
    plus (whole (coef_at player.cost v))
    (sum_over (filter (λ t. t.own == v) player.cross)
    (λ t. times (whole t.coef) (mean (strategy_of profile t.player) t.var)))

-- the mean of variable v of player k
abbrev pub mean_at_place : Profile → ℕ × ℕ → Fraction
mean_at_place profile at = mean (strategy_of profile at.0) at.1

-- what the player's terms in the others' variables alone sum up to at the others' means
abbrev pub rest : PlayerOf → Profile → Fraction
rest player profile = rest_at player (mean_at_place profile)

-- the sum over the player's variables of slope times value
abbrev pub along_slope : PlayerOf → Profile → (ℕ → Fraction) → Fraction
along_slope player profile value =
    sum_below (length player.vars) (λ v. times (slope player profile v) (value v))

-- along the slope, no feasible point is below the player's own mean
abbrev pub IsBestAlongSlope : GameOf → Profile → Type 0
IsBestAlongSlope game profile =
    (i : ℕ) (player : PlayerOf) → IsPlayer game i player → (x : PointOf) → IsFeasible player x
    → IsAtMost (along_slope player profile (mean (strategy_of profile i)))
    (along_slope player profile (value_of x))
