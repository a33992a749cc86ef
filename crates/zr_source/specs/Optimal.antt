-- When a leader's followers answer optimally, and when a point is feasible for a leader.
use Rattle.std.specs.Prelude.{◌≡◌, ℕ, ◌+◌, ◌==◌, pos, ◌<ℤ◌, ◌≤ℤ◌, length}
use Rattle.std.specs.List.{All, filter}
use Rattle.zr_base.specs.Fractions.{Fraction, IsAtMost, IsSame, plus, sum_below, sum_over, times, whole}
use Rattle.zr_base.specs.Points.{PointOf, num_of, value_of}
use Rattle.zr_base.specs.Rows.{RowHolds}
use Rattle.zr_base.specs.Terms.{coef_at}
use Rattle.zr_game.specs.Feasible.{IsFeasible}
use Rattle.zr_source.specs.Sources.{FollowerOf, IsOwn, LeaderOf}

-- the follower's number of variable j, plus the cross terms of j at the other variables
abbrev pub own_slope : FollowerOf → PointOf → ℕ → Fraction
own_slope follower x j =
    plus (whole (coef_at follower.cost j)) (sum_over (filter (λ t. t.0 == j) follower.cross)
    (λ t. times (whole t.2) (value_of x t.1)))

-- the sum over the follower's own variables of slope times value
abbrev pub follower_cost : FollowerOf → PointOf → Fraction
follower_cost follower x =
    sum_below follower.count (λ k. times (own_slope follower x (follower.first + k))
    (value_of x (follower.first + k)))

-- y is a choice that the follower has at x: all other variables are as at x, its own are at least
-- 0, and its rows hold
pub record IsChoice (follower : FollowerOf) (x y : PointOf) : Type 0 where
  pub point : (pos 0) <ℤ y.den
  pub len : length y.num ≡ length x.num
  pub others : (v : ℕ) → (IsOwn follower v → ⊥) → IsSame (value_of y v) (value_of x v)
  pub low : (v : ℕ) → IsOwn follower v → (pos 0) ≤ℤ num_of y v
  pub rows : All (RowHolds y) follower.rows

-- at a point, which has a denominator above zero, the follower's rows hold, and no choice that it
-- has costs it less
pub record IsOptimal (follower : FollowerOf) (x : PointOf) : Type 0 where
  pub point : (pos 0) <ℤ x.den
  pub rows : All (RowHolds x) follower.rows
  pub least : (y : PointOf) → IsChoice follower x y
      → IsAtMost (follower_cost follower x) (follower_cost follower y)

-- the point is feasible for the leader as a player, and each follower's answer is optimal
pub record IsLeaderFeasible (leader : LeaderOf) (x : PointOf) : Type 0 where
  pub base : IsFeasible leader.base x
  pub answers : All (λ follower. IsOptimal follower x) leader.followers
