-- A point lies in a leaf where it meets all slots' rows, an absent slot's being `0 <= 0`.
use Rattle.std.proofs.Common.{◌≡◌, ℕ, zero, suc, ◌<◌, arith, refl, subst, ◌∙◌, ℤ, pos, ◌*ℤ◌, ◌≤ℤ◌, ◌<ℤ◌, false, Option, Some, None, List, [], ◌∷◌, length}
use Rattle.std.specs.Option.{is_some, option_map_or}
use Rattle.std.proofs.lemmas.Int.{ints}
use Rattle.zr_base.specs.Points.{PointOf, num_of}
use Rattle.zr_base.proofs.Dense.{sum_to_same, sum_to_zero}
use Rattle.zr_game.specs.Leaves.{Bound, slot_of}
use Rattle.zr_game.specs.Players.{GameOf}
use Rattle.zr_system.specs.Covers.{LiesIn}
use Rattle.zr_system.specs.Regions.{LeavesOf, all_slots, is_present, leaf_count, slot_count, slot_number, slot_right, var_count}
use Rattle.zr_convex.proofs.Dots.{dot}
use Rattle.zr_convex.proofs.Items.{IsIn, Union}

-- player i's leaves by their rows
abbrev pub union_of : GameOf → LeavesOf → ℕ → Union
union_of game leaves i = record {
  vars = var_count game i;
  leaves = leaf_count leaves i;
  slots = λ k. slot_count game leaves i k;
  coef = λ k s v. slot_number game leaves i k s v;
  le = λ k s. slot_right game leaves i k s;
}

slot_below : (xs : List (Option Bound)) (s : ℕ) (row : Bound) → slot_of xs s ≡ Some row
    → s < length xs
slot_below [] s row e = absurd cc
slot_below (x ∷ xs) zero row e = omega arith
slot_below (x ∷ xs) (suc s) row e = let h = slot_below xs s row e in omega (arith, h)

abbrev coef_of : Option Bound → ℕ → ℤ
coef_of o v = option_map_or (λ b. b.coef v) o (pos 0)

abbrev le_of : Option Bound → ℤ
le_of o = option_map_or (λ b. b.le) o (pos 0)

module _ (game : GameOf) (leaves : LeavesOf) (i k : ℕ) where
  pub in_of_lies : (x : PointOf) → LiesIn game leaves i k x → IsIn (union_of game leaves i) k x
  in_of_lies x l j h = by (slot_of (all_slots game leaves i k) j) refl
    where
      by : (o : Option Bound) → slot_of (all_slots game leaves i k) j ≡ o
          → (dot (var_count game i) (coef_of o) (num_of x)) ≤ℤ (le_of o *ℤ x.den)
      by None e =
          let z = sum_to_same (var_count game i) (λ v. pos 0 *ℤ num_of x v) (λ v. pos 0)
          (λ v p. omega (arith, ints)) ∙ sum_to_zero (var_count game i) in
          omega (arith, ints, z)
      by (Some row) e = l.rows j row e

  pub lies_of_in : (x : PointOf) → (pos 0) <ℤ x.den → length x.num ≡ var_count game i
      → IsIn (union_of game leaves i) k x → LiesIn game leaves i k x
  lies_of_in x positive len h = record {
    point = positive;
    len = len;
    rows = λ s row e. subst (λ (o : Option Bound). (dot (var_count game i) (coef_of o) (num_of x))
        ≤ℤ (le_of o *ℤ x.den)) e (h s (slot_below (all_slots game leaves i k) s row e));
  }

  -- an absent slot has zeros
  pub absent_number : (s v : ℕ) → is_present game leaves i k s ≡ false
      → slot_number game leaves i k s v ≡ pos 0
  absent_number s v e = by (slot_of (all_slots game leaves i k) s) e
    where
      by : (o : Option Bound) → is_some o ≡ false → coef_of o v ≡ pos 0
      by None e = refl
      by (Some row) e = absurd cc

  pub absent_right : (s : ℕ) → is_present game leaves i k s ≡ false
      → slot_right game leaves i k s ≡ pos 0
  absent_right s e = by (slot_of (all_slots game leaves i k) s) e
    where
      by : (o : Option Bound) → is_some o ≡ false → le_of o ≡ pos 0
      by None e = refl
      by (Some row) e = absurd cc
