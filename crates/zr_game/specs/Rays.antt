-- Directions along which a player's points go on without end.
use Rattle.std.specs.Prelude.{◌≡◌, ◌≢◌, ℕ, ℤ, pos, ◌+ℤ◌, ◌*ℤ◌, ◌≤ℤ◌, IfSome, List, length, map, slice_get, slice_index_or, Some, ◌⊎◌}
use Rattle.std.specs.List.{All, zip}
use Rattle.zr_base.specs.Sums.{sum_products}
use Rattle.zr_base.specs.Terms.{Terms}
use Rattle.zr_base.specs.Points.{PointOf, num_of}
use Rattle.zr_base.specs.Rows.{RowOf, products}
use Rattle.zr_game.specs.Players.{PairOf, PlayerOf, VarOf}
use Rattle.zr_game.specs.Feasible.{IsFeasible, slack}
use Rattle.zr_game.specs.Leaves.{HasPoint, IsWholeVar, root_leaf}

-- a direction has a whole number for each variable
abbrev pub Direction : Type 0
Direction = List ℤ

-- how much variable v changes along the direction
abbrev pub change_of : Direction → ℕ → ℤ
change_of dir v = slice_index_or dir v (pos 0)

-- how much the sum of terms changes
abbrev pub along : Terms → Direction → ℤ
along coef dir = sum_products (products coef dir)

-- a change that keeps a variable's bounds: it doesn't fall where there is a lower one, or rise
-- where there is an upper one
pub record KeepsBounds (var : VarOf) (change : ℤ) : Type 0 where
  pub low : IfSome var.low (λ low. (pos 0) ≤ℤ change)
  pub up : IfSome var.up (λ up. change ≤ℤ (pos 0))

abbrev pub KeepsAllBounds : List VarOf → Direction → Type 0
KeepsAllBounds vars dir = (v : ℕ) (var : VarOf) → slice_get vars v ≡ Some var
    → KeepsBounds var (change_of dir v)

-- the row's left side doesn't rise
abbrev pub KeepsRow : Direction → RowOf → Type 0
KeepsRow dir row = along row.coef dir ≤ℤ (pos 0)

-- the pair's sum doesn't fall; and the variable is 0 at the base and doesn't change, or the sum is
abbrev pub KeepsPair : PointOf → Direction → PairOf → Type 0
KeepsPair base dir pair =
    ((pos 0) ≤ℤ along pair.coef dir)
    × (((num_of base pair.var ≡ pos 0) × (change_of dir pair.var ≡ pos 0))
    ⊎ ((slack pair base ≡ pos 0) × (along pair.coef dir ≡ pos 0)))

-- from the base, which is feasible, the direction keeps all bounds, rows and pairs
pub record IsRay (player : PlayerOf) (base : PointOf) (dir : Direction) : Type 0 where
  pub base_is : IsFeasible player base
  pub len : length dir ≡ length player.vars
  pub bounds : KeepsAllBounds player.vars dir
  pub rows : All (KeepsRow dir) player.rows
  pub pairs : All (KeepsPair base dir) player.pairs

-- `base + t * dir`
abbrev pub moved : PointOf → Direction → ℕ → PointOf
moved base dir t = record {
  num = map (λ p. p.0 +ℤ (pos t *ℤ base.den) *ℤ p.1) (zip base.num dir);
  den = base.den;
}

-- each point to which the direction leads in whole steps is feasible
abbrev pub StaysFeasible : PlayerOf → PointOf → Direction → Type 0
StaysFeasible player base dir = (t : ℕ) → IsFeasible player (moved base dir t)

-- a ray of the relaxation, which has a point: the direction keeps all bounds and rows, and no
-- pair's sum falls
pub record IsRelaxedRay (player : PlayerOf) (dir : Direction) : Type 0 where
  pub some : HasPoint player (root_leaf player)
  pub len : length dir ≡ length player.vars
  pub bounds : KeepsAllBounds player.vars dir
  pub rows : All (KeepsRow dir) player.rows
  pub pairs : All (λ pair. (pos 0) ≤ℤ along pair.coef dir) player.pairs

-- such a ray that changes the whole variable v
abbrev pub ChangesWhole : PlayerOf → Direction → ℕ → Type 0
ChangesWhole player dir v =
    IsRelaxedRay player dir × IsWholeVar player v × (change_of dir v ≢ pos 0)

abbrev pub HasWholeRay : PlayerOf → Type 0
HasWholeRay player = (dir : Direction) × (v : ℕ) × ChangesWhole player dir v
