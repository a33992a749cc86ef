-- Pure profiles are compared by the costs at their points.
use Rattle.std.proofs.Common.{◌≡◌, ◌↔◌, ℕ, refl, sym, subst, ℤ, pos, ◌*ℤ◌, ◌<ℤ◌, List, slice_set, All}
use Rattle.zr_base.specs.Fractions.{Fraction, IsAtMost, IsSame, HaveSameCross, over}
use Rattle.zr_base.specs.Points.{PointOf, value_of}
use Rattle.zr_base.proofs.Divisors.{mul_positive}
use Rattle.zr_base.proofs.Ring.{spread}
use Rattle.zr_base.proofs.SameLaws.{order_same}
use Rattle.zr_base.proofs.Worth.{le_of_times, le_times}
use Rattle.zr_game.specs.Players.{GameOf, PlayerOf}
use Rattle.zr_game.specs.Forms.{IsPlayer}
use Rattle.zr_game.specs.Feasible.{IsFeasible}
use Rattle.zr_game.specs.Costs.{cost_of, point_of}
use Rattle.zr_game.specs.Profiles.{IsProfile, Profile, deviation, expected_cost, totals}
use Rattle.zr_game.specs.Equilibria.{IsEquilibrium}
use Rattle.zr_game.specs.PureProfiles.{IsStableAt, points_of}
use Rattle.zr_game.proofs.ByMeans.{totals_positive}
use Rattle.zr_game.proofs.MeanLaws.{deviation_valid, full}
use Rattle.zr_game.proofs.PureLaws.{IsOne, expected_is, points_of-deviation, pure_deviation, scaled}
use Rattle.zr_game.proofs.SamePoints.{cost_same}

-- a positive factor of both numbers changes no comparison
module _ (s t : ℤ) (f g : Fraction) (s_positive : (pos 0) <ℤ s) (t_positive : (pos 0) <ℤ t) where
  left_is : (s *ℤ f.num) *ℤ (g.den *ℤ t) ≡ (f.num *ℤ g.den) *ℤ (s *ℤ t)
  left_is = turn s f.num g.den t
    where
      turn : (a b c d : ℤ) → (a *ℤ b) *ℤ (c *ℤ d) ≡ (b *ℤ c) *ℤ (a *ℤ d)
      turn a b c d = simp spread refl

  right_is : (t *ℤ g.num) *ℤ (f.den *ℤ s) ≡ (g.num *ℤ f.den) *ℤ (s *ℤ t)
  right_is = turn t g.num f.den s
    where
      turn : (a b c d : ℤ) → (a *ℤ b) *ℤ (c *ℤ d) ≡ (b *ℤ c) *ℤ (d *ℤ a)
      turn a b c d = simp spread refl

  pub of_scaled : IsAtMost (over (scaled s f) s) (over (scaled t g) t) → IsAtMost f g
  of_scaled h =
      le_of_times (f.num *ℤ g.den) (g.num *ℤ f.den) (s *ℤ t)
      (mul_positive s t s_positive t_positive) (rw (← left_is, ← right_is) h)

  pub to_scaled : IsAtMost f g → IsAtMost (over (scaled s f) s) (over (scaled t g) t)
  to_scaled h =
      rw (left_is, right_is) (le_times (f.num *ℤ g.den) (g.num *ℤ f.den) (s *ℤ t)
      (mul_positive s t s_positive t_positive) h)

module _ (game : GameOf) (profile : Profile) (valid : IsProfile game profile)
    (pure : All IsOne profile) (i : ℕ) (player : PlayerOf) (is : IsPlayer game i player)
    (x : PointOf) (feasible : IsFeasible player x) where
  deviated : expected_cost player i (deviation profile i x) ≡ over
      (scaled (totals (deviation profile i x))
      (cost_of player i (slice_set (points_of profile) i x))) (totals (deviation profile i x))
  deviated =
      subst (λ points. expected_cost player i (deviation profile i x) ≡ over
      (scaled (totals (deviation profile i x)) (cost_of player i points))
      (totals (deviation profile i x))) (points_of-deviation profile i x)
      (expected_is player i (deviation profile i x) (pure_deviation profile i x pure))

  here_positive : (pos 0) <ℤ totals profile
  here_positive = totals_positive profile (full game profile valid)

  there_positive : (pos 0) <ℤ totals (deviation profile i x)
  there_positive =
      totals_positive (deviation profile i x)
      (full game (deviation profile i x)
      (deviation_valid game profile valid i player is x feasible))

  pub to_points : IsAtMost (expected_cost player i profile)
      (expected_cost player i (deviation profile i x))
      → IsAtMost (cost_of player i (points_of profile))
      (cost_of player i (slice_set (points_of profile) i x))
  to_points h =
      of_scaled (totals profile) (totals (deviation profile i x))
      (cost_of player i (points_of profile))
      (cost_of player i (slice_set (points_of profile) i x)) here_positive there_positive
      (subst (λ (f : Fraction). IsAtMost f
      (over
      (scaled (totals (deviation profile i x))
      (cost_of player i (slice_set (points_of profile) i x))) (totals (deviation profile i x))))
      (expected_is player i profile pure)
      (subst (λ (f : Fraction). IsAtMost (expected_cost player i profile) f) deviated h))

  pub of_points : IsAtMost (cost_of player i (points_of profile))
      (cost_of player i (slice_set (points_of profile) i x))
      → IsAtMost (expected_cost player i profile) (expected_cost player i (deviation profile i x))
  of_points h =
      let g = to_scaled (totals profile) (totals (deviation profile i x))
      (cost_of player i (points_of profile))
      (cost_of player i (slice_set (points_of profile) i x)) here_positive there_positive h in
      subst (λ (f : Fraction). IsAtMost (expected_cost player i profile) f) (sym deviated)
      (subst (λ (f : Fraction). IsAtMost f
      (over
      (scaled (totals (deviation profile i x))
      (cost_of player i (slice_set (points_of profile) i x))) (totals (deviation profile i x))))
      (sym (expected_is player i profile pure)) g)

pub pure_equilibria : (game : GameOf) (profile : Profile) → IsProfile game profile
    → All IsOne profile → IsEquilibrium game profile ↔ IsStableAt game (points_of profile)
pure_equilibria game profile valid pure = (
  λ e i player is x feasible. to_points game profile valid pure i player is x feasible
      (e.stable i player is x feasible),
  λ s. record {
    valid = valid;
    stable = λ i player is x feasible. of_points game profile valid pure i player is x feasible
        (s i player is x feasible);
  },
)

-- the points have the same values, player by player
pub record AreSame (points others : List PointOf) : Type 0 where
  pub dens : (k : ℕ) → (pos 0) <ℤ (point_of points k).den
  pub other_dens : (k : ℕ) → (pos 0) <ℤ (point_of others k).den
  pub values : (k v : ℕ)
      → HaveSameCross (value_of (point_of points k) v) (value_of (point_of others k) v)

pub costs_same : (player : PlayerOf) (i : ℕ) (a b : List PointOf) → AreSame a b
    → IsSame (cost_of player i a) (cost_of player i b)
costs_same player i a b s =
    cost_same player i a b (λ k v. record {
      left = s.dens k;
      right = s.other_dens k;
      cross = s.values k v;
    })

-- a cost's denominator is above zero
pub cost_den : (player : PlayerOf) (i : ℕ) (points : List PointOf)
    → ((k : ℕ) → (pos 0) <ℤ (point_of points k).den) → (pos 0) <ℤ (cost_of player i points).den
cost_den player i points h =
    (costs_same player i points points (record {
      dens = h;
      other_dens = h;
      values = λ k v. refl;
    })).left

-- costs at points of the same values are ordered alike
pub costs_ordered : (player : PlayerOf) (i : ℕ) (a b c d : List PointOf) → AreSame a c → AreSame b d
    → IsAtMost (cost_of player i a) (cost_of player i b)
    → IsAtMost (cost_of player i c) (cost_of player i d)
costs_ordered player i a b c d p q =
    order_same (cost_of player i a) (cost_of player i b) (cost_of player i c) (cost_of player i d)
    (costs_same player i a c p) (costs_same player i b d q)
