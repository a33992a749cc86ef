-- A profile's claims as rows, which have to hold at each feasible point.
use Rattle.std.specs.Prelude.{ℕ, ℤ, List, length}
use Rattle.zr_base.specs.Fractions.{Fraction}
use Rattle.zr_base.specs.Points.{PointOf}
use Rattle.zr_game.specs.Players.{GameOf, PlayerOf}
use Rattle.zr_game.specs.Forms.{IsPlayer}
use Rattle.zr_game.specs.Feasible.{IsFeasible}
use Rattle.zr_game.specs.Leaves.{BoundHolds, bound_with}
use Rattle.zr_game.specs.Means.{along_slope, mean, slope}
use Rattle.zr_game.specs.Profiles.{Profile, strategy_of}
use Rattle.zr_mix.specs.Claims.{IsClaim}
use Rattle.zr_mix.specs.Values.{AreInLowestTerms, IsInLowestTerms}

-- the claim of player i in a profile: that of its slope and of its own cost along it, both in
-- lowest terms
pub record IsClaimOf (player : PlayerOf) (i : ℕ) (profile : Profile) (left : List ℤ)
    (right : ℤ) : Type 0 where
  pub slopes : List Fraction
  pub value : Fraction
  pub by : ℤ
  pub are_slopes : AreInLowestTerms slopes (length player.vars) (slope player profile)
  pub is_value : IsInLowestTerms value (along_slope player profile (mean (strategy_of profile i)))
  pub claim : IsClaim slopes value by left right

-- the claim holds at each feasible point
abbrev pub ClaimHolds : PlayerOf → List ℤ → ℤ → Type 0
ClaimHolds player left right = (x : PointOf) → IsFeasible player x
    → BoundHolds player x (bound_with left right)

-- each player has a claim that holds
abbrev pub HasClaims : GameOf → Profile → Type 0
HasClaims game profile =
    (i : ℕ) (player : PlayerOf) → IsPlayer game i player
    → (left : List ℤ) × (right : ℤ) × (IsClaimOf player i profile left right ×
    ClaimHolds player left right)
