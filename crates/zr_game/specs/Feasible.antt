-- Points of a player, and when they are feasible.
use Rattle.std.specs.Prelude.{◌≡◌, ℕ, ℤ, pos, ◌+ℤ◌, ◌*ℤ◌, ◌<ℤ◌, ◌≤ℤ◌, IsTrue, IfSome, List, length, slice_get, Some, ◌⊎◌}
use Rattle.std.specs.List.{All}
use Rattle.zr_base.specs.Sums.{sum_products}
use Rattle.zr_base.specs.Points.{PointOf, num_of}
use Rattle.zr_base.specs.Rows.{RowHolds, products}
use Rattle.zr_game.specs.Players.{PlayerOf, PairOf, VarOf}

-- the number divides evenly by the denominator
abbrev pub IsMultiple : ℤ → ℤ → Type 0
IsMultiple n d = (k : ℤ) × (n ≡ k *ℤ d)

-- a value n / d of a variable: within its bounds, where it has them, and whole where it has to be
pub record IsWithin (var : VarOf) (n d : ℤ) : Type 0 where
  pub low : IfSome var.low (λ low. (low *ℤ d) ≤ℤ n)
  pub high : IfSome var.up (λ up. n ≤ℤ (up *ℤ d))
  pub whole : IsTrue var.whole → IsMultiple n d

-- each variable is within its bounds
abbrev pub AreWithin : List VarOf → PointOf → Type 0
AreWithin vars x = (v : ℕ) (var : VarOf) → slice_get vars v ≡ Some var
    → IsWithin var (num_of x v) x.den

-- the sum of a pair's terms and its number, times the denominator
abbrev pub slack : PairOf → PointOf → ℤ
slack pair x = sum_products (products pair.coef x.num) +ℤ pair.add *ℤ x.den

-- the variable and the sum are at least 0, and one of them is 0
abbrev pub PairHolds : PointOf → PairOf → Type 0
PairHolds x pair =
    ((pos 0) ≤ℤ num_of x pair.var) × ((pos 0) ≤ℤ slack pair x)
    × ((num_of x pair.var ≡ pos 0) ⊎ (slack pair x ≡ pos 0))

-- the point is one of the player: it has a number per variable, and keeps all bounds, rows and
-- pairs
pub record IsFeasible (player : PlayerOf) (x : PointOf) : Type 0 where
  pub point : (pos 0) <ℤ x.den
  pub len : length x.num ≡ length player.vars
  pub bounds : AreWithin player.vars x
  pub rows : All (RowHolds x) player.rows
  pub pairs : All (PairHolds x) player.pairs
