-- Fractions in lowest terms, and the values that they have.
use Rattle.std.specs.Prelude.{◌≡◌, ℕ, ◌<◌, ◌==◌, pos, unsigned_abs, List, length, slice_index_or}
use Rattle.std.specs.Int.{IsGcd}
use Rattle.std.specs.List.{filter}
use Rattle.std.specs.Option.{ForSome}
use Rattle.zr_base.specs.Fractions.{Fraction, IsSame, plus, sum_over, times, whole}
use Rattle.zr_base.specs.Terms.{coef_at}
use Rattle.zr_base.specs.Lowest.{IsLowest}
use Rattle.zr_game.specs.Players.{GameOf, PlayerOf}
use Rattle.zr_game.specs.declared.player.CrossTerm.{CrossTerm}
use Rattle.zr_game.specs.declared.player.Other.{Other}
use Rattle.zr_game.specs.Forms.{IsPlayer}
use Rattle.zr_game.specs.Profiles.{Profile, strategy_of}
use Rattle.zr_game.specs.Means.{mean}
use Rattle.zr_mix.specs.Steps.{mean_in, place_of}

-- f is the value in lowest terms
pub record IsReduced (f value : Fraction) : Type 0 where
  pub lowest : IsLowest f
  pub same : IsSame f value

-- the same where f may have numbers of any size
pub record IsInLowestTerms (f value : Fraction) : Type 0 where
  pub coprime : IsGcd (unsigned_abs f.num) (unsigned_abs f.den) 1
  pub same : IsSame f value

-- item v of a list of fractions
abbrev pub item_of : List Fraction → ℕ → Fraction
item_of list v = slice_index_or list v (whole (pos 0))

-- the list has the values f 0, .., f (n - 1) in lowest terms
pub record AreReduced (list : List Fraction) (n : ℕ) (f : ℕ → Fraction) : Type 0 where
  pub len : length list ≡ n
  pub each : (v : ℕ) → v < n → IsReduced (item_of list v) (f v)

-- the same where the fractions may have numbers of any size
pub record AreInLowestTerms (list : List Fraction) (n : ℕ) (f : ℕ → Fraction) : Type 0 where
  pub len : length list ≡ n
  pub each : (v : ℕ) → v < n → IsInLowestTerms (item_of list v) (f v)

-- the list has the means of the profile, those of all players one after another
abbrev pub AreMeans : GameOf → Profile → List Fraction → Type 0
AreMeans game profile means =
    (k : ℕ) (player : PlayerOf) → IsPlayer game k player → (v : ℕ) → v < length player.vars
    → IsReduced (mean_in game means (k, v)) (mean (strategy_of profile k) v)

-- a cross term's number times the other variable's mean in the list
abbrev pub term_at : GameOf → List Fraction → CrossTerm → Fraction
term_at game means t = times (whole t.coef) (mean_in game means (t.player, t.var))

-- the slope of variable v at the means of the list: the own number, plus the cross terms
abbrev pub slope_at : GameOf → PlayerOf → List Fraction → ℕ → Fraction
slope_at game player means v =
    plus (whole (coef_at player.cost v)) (sum_over (filter (λ t. t.own == v) player.cross)
    (term_at game means))

-- the mean of the variable at the place is in the list
abbrev pub HasMean : GameOf → List Fraction → ℕ × ℕ → Type 0
HasMean game means at = (at.0 < length game) × (place_of game at.0 at.1 < length means)

-- the means that a term in the others' variables names are
abbrev pub HasMeans : GameOf → List Fraction → Other → Type 0
HasMeans game means t = HasMean game means t.first × ForSome t.second (HasMean game means)
