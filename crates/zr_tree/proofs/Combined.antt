-- One slot more is added to a combination.
use Rattle.std.proofs.Common.{◌≡◌, ℕ, suc, ◌+◌, ◌<◌, arith, refl, sym, ap, subst, ◌∙◌, ℤ, pos, Option, None, List, [], ◌∷◌, ◌++◌, map, length, get_or, take, drop, All, Result, Ok, Err, IsErr, ◌⊎◌, ⊎_elim, inl, inr}
use Rattle.std.specs.Option.{option_map_or}
use Rattle.std.proofs.lemmas.List.{take_more, map-append}
use Rattle.zr_base.specs.declared.step.Wide.{Wide}
use Rattle.zr_base.specs.Steps.{IsNarrow}
use Rattle.zr_base.specs.Sums.{sum_step, sum_steps}
use Rattle.zr_base.proofs.SumSteps.{get_or_default, one_more, split_at, sum_steps_narrow, wide_within}
use Rattle.zr_game.specs.Leaves.{Bound, slot_of}
use Rattle.zr_tree.specs.Nodes.{Multipliers}
use Rattle.zr_tree.specs.Right.{slot_coef, slot_le}
use Rattle.zr_tree.specs.Combining.{AreAdded, HasWideColumn, HasWideStep, IsCombined}

pub err_in : {A : Type 0} (r : Result A Wide) → IsErr r → (w : Wide) × (r ≡ Err w)
err_in (Ok x) h = absurd cc
err_in (Err w) h = (w, refl)

pub is_err : {A : Type 0} (r : Result A Wide) (w : Wide) → r ≡ Err w → IsErr r
is_err r w e = subst (λ s. IsErr s) (sym e) refl

-- a slot that isn't present has only zeros
pub absent_coef : (rows : List (Option Bound)) (k : ℕ) → None ≡ slot_of rows k → (j : ℕ) → slot_coef rows k j ≡ pos 0
absent_coef rows k e j = ap (λ (o : Option Bound). option_map_or (λ b. b.coef j) o (pos 0)) (sym e)

pub absent_le : (rows : List (Option Bound)) (k : ℕ) → None ≡ slot_of rows k → slot_le rows k ≡ pos 0
absent_le rows k e = ap (λ (o : Option Bound). option_map_or (λ b. b.le) o (pos 0)) (sym e)

-- a multiplier with one of its slot's numbers
abbrev pub product_of : (ℕ → ℤ) → ℕ × ℤ → ℤ × ℤ
product_of f t = (t.1, f t.0)

pub combined_none : (rows : List (Option Bound)) (sums : List ℤ) → ((j : ℕ) → get_or sums j (pos 0) ≡ pos 0) → IsCombined rows [] sums (pos 0)
combined_none rows sums zeros = record { left = λ j h. ap Ok (sym (zeros j)); right = refl }

module _ (rows : List (Option Bound)) (mult : Multipliers) (i : ℕ) (below : i < length mult) where
  abbrev this : ℕ × ℤ
  this = get_or mult i (0, pos 0)

  products_more : (f : ℕ → ℤ) → map (product_of f) (take (i + 1) mult) ≡ map (product_of f) (take i mult) ++ (this.1, f this.0) ∷ []
  products_more f =
      ap (map (product_of f)) (take_more mult i (0, pos 0) below) ∙ map-append (product_of f) (take i mult) (this ∷ [])

  products_split : (f : ℕ → ℤ) → map (product_of f) mult ≡ map (product_of f) (take i mult) ++ (this.1, f this.0) ∷ map (product_of f) (drop (suc i) mult)
  products_split f =
      ap (map (product_of f)) (split_at mult i (0, pos 0) below) ∙ map-append (product_of f) (take i mult) (this ∷ drop (suc i) mult)

  module _ (sums : List ℤ) (le : ℤ) (combined : IsCombined rows (take i mult) sums le) where
    pub combined_more : (new : List ℤ) (sum : ℤ) → length new ≡ length sums → AreAdded sums (slot_coef rows this.0) this.1 new → sum_step le (this.1, slot_le rows this.0) ≡ Ok sum → IsCombined rows (take (i + 1) mult) new sum
    combined_more new sum len steps step = record {
      left = λ j h. let inside : j < length sums = omega (arith, len, h) in ap (sum_steps (pos 0)) (products_more (λ k. slot_coef rows k j)) ∙ one_more (map (product_of (λ k. slot_coef rows k j)) (take i mult)) (this.1, slot_coef rows this.0 j) (get_or sums j (pos 0)) (combined.left j inside) ∙ steps j inside;
      right = ap (sum_steps (pos 0)) (products_more (slot_le rows)) ∙ one_more (map (product_of (slot_le rows)) (take i mult)) (this.1, slot_le rows this.0) le combined.right ∙ step;
    }

    pub step_wide : HasWideColumn sums (slot_coef rows this.0) this.1 ⊎ IsErr (sum_step le (this.1, slot_le rows this.0)) → HasWideStep (length sums) rows mult
    step_wide h = ⊎_elim (λ (s : HasWideColumn sums (slot_coef rows this.0) this.1). at_column_of s) (λ (s : IsErr (sum_step le (this.1, slot_le rows this.0))). at_right s) h
      where
        at_column_of : HasWideColumn sums (slot_coef rows this.0) this.1 → HasWideStep (length sums) rows mult
        at_column_of s =
            let e = err_in (sum_step (get_or sums s.0 (pos 0)) (this.1, slot_coef rows this.0 s.0)) s.2 in
            inl (s.0, s.1, is_err (sum_steps (pos 0) (map (product_of (λ k. slot_coef rows k s.0)) mult)) e.0 (ap (sum_steps (pos 0)) (products_split (λ k. slot_coef rows k s.0)) ∙ wide_within (map (product_of (λ k. slot_coef rows k s.0)) (take i mult)) (map (product_of (λ k. slot_coef rows k s.0)) (drop (suc i) mult)) (this.1, slot_coef rows this.0 s.0) (get_or sums s.0 (pos 0)) e.0 (combined.left s.0 s.1) e.1))

        at_right : IsErr (sum_step le (this.1, slot_le rows this.0)) → HasWideStep (length sums) rows mult
        at_right s =
            let e = err_in (sum_step le (this.1, slot_le rows this.0)) s in
            inr (is_err (sum_steps (pos 0) (map (product_of (slot_le rows)) mult)) e.0 (ap (sum_steps (pos 0)) (products_split (slot_le rows)) ∙ wide_within (map (product_of (slot_le rows)) (take i mult)) (map (product_of (slot_le rows)) (drop (suc i) mult)) (this.1, slot_le rows this.0) le e.0 combined.right e.1))

module _ (rows : List (Option Bound)) (mult : Multipliers) (sums : List ℤ) (le : ℤ) (combined : IsCombined rows mult sums le) where
  pub sums_narrow : All IsNarrow sums
  sums_narrow k d h =
      rw (get_or_default sums k d (pos 0) h) (sum_steps_narrow (pos 0) (get_or sums k (pos 0)) (map (product_of (λ n. slot_coef rows n k)) mult) (omega arith) (combined.left k h))

  pub le_narrow : IsNarrow le
  le_narrow = sum_steps_narrow (pos 0) le (map (product_of (slot_le rows)) mult) (omega arith) combined.right
