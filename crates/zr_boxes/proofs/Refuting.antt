-- What the sums of a refutation say of it.
use Rattle.std.proofs.Common.{◌≡◌, ◌↔◌, ℕ, ◌+◌, ◌<◌, arith, refl, sym, ap, ◌∙◌, below_more, ℤ, pos, ◌+ℤ◌, ◌*ℤ◌, ◌<ℤ◌, Bool, true, ◌&&◌, IsTrue, Option, List, [], ◌∷◌, length, map, Result, Ok, Err, IsErr, ⊎_elim}
use Rattle.std.proofs.lemmas.Int.{ints}
use Rattle.zr_base.specs.declared.step.Wide.{Wide}
use Rattle.zr_base.specs.Sums.{sum_products}
use Rattle.zr_base.proofs.SumSteps.{sum_steps_exact}
use Rattle.zr_base.proofs.Telling.{both_true, true_both}
use Rattle.zr_game.specs.Players.{PlayerOf}
use Rattle.zr_game.specs.Leaves.{Bound, LeafOf, slots}
use Rattle.zr_tree.specs.Nodes.{Multipliers}
use Rattle.zr_tree.specs.Right.{ArePositive, ArePresent, left_of, right_of, slot_coef, slot_le}
use Rattle.zr_tree.specs.Steps.{left_steps, right_steps}
use Rattle.zr_tree.proofs.Combined.{product_of}
use Rattle.zr_boxes.specs.Visits.{ColumnsTell, RowsTell}

ok_err : {A : Type 0} (r : Result A Wide) (a : A) → r ≡ Ok a → IsErr r → ⊥
ok_err (Ok x) a e h = cc
ok_err (Err w) a e h = cc

left_sum : (rows : List (Option Bound)) (mult : Multipliers) (j : ℕ)
    → sum_products (map (product_of (λ k. slot_coef rows k j)) mult) ≡ left_of rows mult j
left_sum rows [] j = refl
left_sum rows (t ∷ ts) j = ap (λ a. t.1 *ℤ slot_coef rows t.0 j +ℤ a) (left_sum rows ts j)

right_sum : (rows : List (Option Bound)) (mult : Multipliers)
    → sum_products (map (product_of (slot_le rows)) mult) ≡ right_of rows mult
right_sum rows [] = refl
right_sum rows (t ∷ ts) = ap (λ a. t.1 *ℤ slot_le rows t.0 +ℤ a) (right_sum rows ts)

left_is : (rows : List (Option Bound)) (mult : Multipliers) (j : ℕ) (sum : ℤ)
    → left_steps rows mult j ≡ Ok sum → left_of rows mult j ≡ sum
left_is rows mult j sum e =
    let s = sum_steps_exact (pos 0) sum (map (product_of (λ k. slot_coef rows k j)) mult) e in
    let f = left_sum rows mult j in
    omega (arith, ints, s, f)

right_is : (rows : List (Option Bound)) (mult : Multipliers) (sum : ℤ)
    → right_steps rows mult ≡ Ok sum → right_of rows mult ≡ sum
right_is rows mult sum e =
    let s = sum_steps_exact (pos 0) sum (map (product_of (slot_le rows)) mult) e in
    let f = right_sum rows mult in
    omega (arith, ints, s, f)

-- the columns below n are summed, and `all` tells whether each sum is zero
pub record Columns (rows : List (Option Bound)) (mult : Multipliers) (n : ℕ) (all : Bool)
    : Type 0 where
  pub narrow : (j : ℕ) → j < n → IsErr (left_steps rows mult j) → ⊥
  pub told : IsTrue all ↔ ((j : ℕ) → j < n → left_of rows mult j ≡ pos 0)

module _ (rows : List (Option Bound)) (mult : Multipliers) where
  pub no_column : Columns rows mult 0 true
  no_column = record {
    narrow = λ j h. absurd (omega arith);
    told = (λ h j below. absurd (omega arith), λ h. refl);
  }

  pub one_column : (n : ℕ) (all : Bool) → Columns rows mult n all → (sum : ℤ)
      → left_steps rows mult n ≡ Ok sum → (zero : Bool) → (IsTrue zero ↔ (sum ≡ pos 0))
      → Columns rows mult (n + 1) (all && zero)
  one_column n all before sum made zero is =
      let value = left_is rows mult n sum made in
      record {
        narrow = λ j h. below_more (λ k. IsErr (left_steps rows mult k) → ⊥) n before.narrow
            (ok_err (left_steps rows mult n) sum made) j h;
        told = (
          λ h j below. below_more (λ k. left_of rows mult k ≡ pos 0) n
              (before.told.0 (both_true all zero h).0)
              (value ∙ is.0 (both_true all zero h).1) j below,
          λ h. true_both all zero (before.told.1 (λ j below. h j (omega arith)))
              (is.1 (sym value ∙ h n (omega arith))),
        );
      }

module _ (player : PlayerOf) (leaf : LeafOf) (mult : Multipliers)
    (present : ArePresent (slots player leaf) mult) (positive : ArePositive mult) where
  -- all sums are made
  pub made_tells : (zero below : Bool) (right : ℤ)
      → ColumnsTell (Ok zero) (length player.vars) (slots player leaf) mult
      → right_steps (slots player leaf) mult ≡ Ok right → (IsTrue below ↔ (right <ℤ (pos 0)))
      → RowsTell (Ok (zero && below)) player leaf mult
  made_tells zero below right lefts made is =
      let value = right_is (slots player leaf) mult right made in (
        λ w. ⊎_elim (λ s. lefts.0 s.0 s.1 s.2)
            (λ s. ok_err (right_steps (slots player leaf) mult) right made s) w.1,
        (
          λ h. let b = both_true zero below h in (
            present,
            positive,
            record {
              none = refl;
              left = lefts.1.0 b.0;
              right = rw value (is.0 b.1);
            },
          ),
          λ p. true_both zero below (lefts.1.1 p.2.left) (is.1 (rw value at p.2.right)),
        ),
      )
