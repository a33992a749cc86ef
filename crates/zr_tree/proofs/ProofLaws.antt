-- What the sums of a leaf's proof say of it.
use Rattle.std.proofs.Common.{◌≡◌, ◌↔◌, ℕ, zero, suc, ◌<◌, arith, refl, sym, ap, ◌∙◌, ℤ, pos, ◌+ℤ◌, ◌*ℤ◌, ◌<ℤ◌, ◌≤ℤ◌, Bool, false, ◌&&◌, IsTrue, Option, Some, None, List, [], ◌∷◌, map, length, get_or, Result, Ok, Err, IsErr, ◌⊎◌, ⊎_elim, inl, inr}
use Rattle.std.proofs.lemmas.Int.{ints}
use Rattle.zr_base.specs.declared.step.Wide.{Wide}
use Rattle.zr_base.specs.Steps.{cross_of}
use Rattle.zr_base.specs.Sums.{sum_products}
use Rattle.zr_base.specs.Tests.{first_wide, or_else, wide_in}
use Rattle.zr_base.proofs.SumSteps.{sum_steps_exact}
use Rattle.zr_base.proofs.Telling.{both_true, true_both}
use Rattle.zr_game.specs.Players.{PlayerOf}
use Rattle.zr_game.specs.Leaves.{Bound, LeafOf, bound_with, slots}
use Rattle.zr_tree.specs.Nodes.{Multipliers, ProofNode}
use Rattle.zr_tree.specs.Covers.{KeepsCover}
use Rattle.zr_tree.specs.CoverSteps.{IsWideForCover}
use Rattle.zr_tree.specs.Right.{ArePositive, ArePresent, IsProof, IsRefuting, IsScaled, left_of, right_of, slot_coef, slot_le}
use Rattle.zr_tree.specs.Steps.{IsWideProof, left_steps, right_steps}
use Rattle.zr_tree.specs.Combining.{HasWideStep, IsCombined}
use Rattle.zr_tree.specs.Visits.{EndTells, ProofTells}
use Rattle.zr_tree.proofs.Combined.{product_of}

ok_err : {A : Type 0} (r : Result A Wide) (a : A) → r ≡ Ok a → IsErr r → ⊥
ok_err (Ok x) a e h = cc
ok_err (Err w) a e h = cc

none_err : {A : Type 0} (r : Result A Wide) → wide_in r ≡ None → IsErr r → ⊥
none_err (Ok x) e h = cc
none_err (Err w) e h = cc

wide_err : {A : Type 0} (r : Result A Wide) (w : Wide) → wide_in r ≡ Some w → IsErr r
wide_err (Ok x) w e = absurd cc
wide_err (Err v) w e = refl

-- no step is wide along a list
none_both : (a b : Option Wide) → or_else a b ≡ None → (a ≡ None) × (b ≡ None)
none_both None b e = (refl, e)
none_both (Some w) b e = absurd cc

none_at : (f : ℤ → Option Wide) (xs : List ℤ) → first_wide f xs ≡ None → (j : ℕ) → j < length xs → f (get_or xs j (pos 0)) ≡ None
none_at f [] e j h = absurd (omega (arith, h))
none_at f (x ∷ xs) e zero h = (none_both (f x) (first_wide f xs) e).0
none_at f (x ∷ xs) e (suc j) h = none_at f xs (none_both (f x) (first_wide f xs) e).1 j (omega (arith, h))

-- the step that is wide stands somewhere in the list
one_wide : (a b : Option Wide) (w : Wide) → or_else a b ≡ Some w → (a ≡ Some w) ⊎ (b ≡ Some w)
one_wide None b w e = inr e
one_wide (Some v) b w e = inl e

wide_at : (f : ℤ → Option Wide) (xs : List ℤ) (w : Wide) → first_wide f xs ≡ Some w → (j : ℕ) × (j < length xs) × (f (get_or xs j (pos 0)) ≡ Some w)
wide_at f [] w e = absurd cc
wide_at f (x ∷ xs) w e =
    ⊎_elim (λ (s : f x ≡ Some w). (zero, omega arith, s)) (λ (s : first_wide f xs ≡ Some w). let r = wide_at f xs w s in (suc r.0, omega (arith, r.1), r.2)) (one_wide (f x) (first_wide f xs) w e)

left_is : (rows : List (Option Bound)) (mult : Multipliers) (j : ℕ) → sum_products (map (product_of (λ k. slot_coef rows k j)) mult) ≡ left_of rows mult j
left_is rows [] j = refl
left_is rows (t ∷ ts) j = ap (λ a. t.1 *ℤ slot_coef rows t.0 j +ℤ a) (left_is rows ts j)

right_is : (rows : List (Option Bound)) (mult : Multipliers) → sum_products (map (product_of (slot_le rows)) mult) ≡ right_of rows mult
right_is rows [] = refl
right_is rows (t ∷ ts) = ap (λ a. t.1 *ℤ slot_le rows t.0 +ℤ a) (right_is rows ts)

-- a scale of the row's numbers
abbrev pub scaled_wide : ℤ → ℤ → Option Wide
scaled_wide scale c = wide_in (cross_of (scale, c) (pos 0, pos 0))

module _ (player : PlayerOf) (coef : List ℤ) (le : ℤ) (leaf : LeafOf) (scale : ℤ) (mult : Multipliers) where
  abbrev rows : List (Option Bound)
  rows = slots player leaf

  abbrev bound : Bound
  bound = bound_with coef le

  pub absent_tells : (ArePresent rows mult → ⊥) → ProofTells (Ok false) player bound leaf scale mult
  absent_tells none = (λ w. none w.0, (λ h. absurd cc, λ h. absurd (none h.0)))

  module _ (present : ArePresent rows mult) (same : length coef ≡ length player.vars) where
    pub step_tells : HasWideStep (length player.vars) rows mult → IsWideProof player bound leaf scale mult
    step_tells h = (present, ⊎_elim (λ s. inl s) (λ s. inr (inl s)) h)

    pub left_tells : (w : Wide) → first_wide (scaled_wide scale) coef ≡ Some w → IsWideProof player bound leaf scale mult
    left_tells w e =
        let s = wide_at (scaled_wide scale) coef w e in
        (present, inr (inr (inl (s.0, omega (arith, s.1, same), wide_err (cross_of (scale, get_or coef s.0 (pos 0)) (pos 0, pos 0)) w s.2))))

    pub right_tells : (w : Wide) → scaled_wide scale le ≡ Some w → IsWideProof player bound leaf scale mult
    right_tells w e =
        (present, inr (inr (inr (wide_err (cross_of (scale, le) (pos 0, pos 0)) w e))))

    module _ (sums : List ℤ) (right : ℤ) (combined : IsCombined rows mult sums right) (places : length sums ≡ length player.vars) (positive : ArePositive mult) where
      left_sum : (j : ℕ) → j < length player.vars → left_of rows mult j ≡ get_or sums j (pos 0)
      left_sum j h =
          let e = sum_steps_exact (pos 0) (get_or sums j (pos 0)) (map (product_of (λ k. slot_coef rows k j)) mult) (combined.left j (omega (arith, h, places))) in
          let f = left_is rows mult j in
          omega (arith, ints, e, f)

      right_sum : right_of rows mult ≡ right
      right_sum =
          let e = sum_steps_exact (pos 0) right (map (product_of (slot_le rows)) mult) combined.right in
          let f = right_is rows mult in
          omega (arith, ints, e, f)

      narrow : first_wide (scaled_wide scale) coef ≡ None → scaled_wide scale le ≡ None → IsWideProof player bound leaf scale mult → ⊥
      narrow e f w =
          ⊎_elim (λ s. ok_err (left_steps rows mult s.0) (get_or sums s.0 (pos 0)) (combined.left s.0 (omega (arith, s.1, places))) s.2) (λ s. ⊎_elim (λ u. ok_err (right_steps rows mult) right combined.right u) (λ u. ⊎_elim (λ v. none_err (cross_of (scale, get_or coef v.0 (pos 0)) (pos 0, pos 0)) (none_at (scaled_wide scale) coef e v.0 (omega (arith, v.1, same))) v.2) (λ v. none_err (cross_of (scale, le) (pos 0, pos 0)) f v) u) s) w.1

      zero_times : (c : ℤ) → scale ≡ pos 0 → scale *ℤ c ≡ pos 0
      zero_times c e = ap (λ a. a *ℤ c) e ∙ omega (arith, ints)

      pub proof_tells : (a b : Bool) → (first_wide (scaled_wide scale) coef ≡ None) × (IsTrue a ↔ ((j : ℕ) → j < length coef → get_or sums j (pos 0) ≡ scale *ℤ get_or coef j (pos 0))) → (scaled_wide scale le ≡ None) × (IsTrue b ↔ (((pos 1 ≤ℤ scale) × (right ≤ℤ (scale *ℤ le))) ⊎ ((scale ≡ pos 0) × (right <ℤ (pos 0))))) → ProofTells (Ok (a && b)) player bound leaf scale mult
      proof_tells a b left below = (narrow left.0 below.0, (λ h. there (both_true a b h), λ p. back p))
        where
          there : IsTrue a × IsTrue b → IsProof player bound leaf scale mult
          there h =
              let l = left.1.0 h.0 in
              (present, positive, ⊎_elim (λ (s : (pos 1 ≤ℤ scale) × (right ≤ℤ (scale *ℤ le))). inl (record { positive = s.0; left = λ j q. left_sum j q ∙ l j (omega (arith, q, same)); right = rw right_sum s.1 })) (λ (s : (scale ≡ pos 0) × (right <ℤ (pos 0))). inr (record { none = s.0; left = λ j q. left_sum j q ∙ l j (omega (arith, q, same)) ∙ zero_times (get_or coef j (pos 0)) s.0; right = rw right_sum s.1 })) (below.1.0 h.1))

          back : IsProof player bound leaf scale mult → IsTrue (a && b)
          back p =
              ⊎_elim (λ (s : IsScaled player bound scale rows mult). true_both a b (left.1.1 (λ j q. let r : j < length player.vars = omega (arith, q, same) in sym (left_sum j r) ∙ s.left j r)) (below.1.1 (inl (s.positive, rw right_sum at s.right)))) (λ (s : IsRefuting player scale rows mult). true_both a b (left.1.1 (λ j q. let r : j < length player.vars = omega (arith, q, same) in sym (left_sum j r) ∙ s.left j r ∙ sym (zero_times (get_or coef j (pos 0)) s.none))) (below.1.1 (inr (s.none, rw right_sum at s.right)))) p.2

-- the same for a cover
module _ (player : PlayerOf) (leaf : LeafOf) (scale : ℤ) (mult : Multipliers)
    (present : ArePresent (slots player leaf) mult) (positive : ArePositive mult)
    (sums : List ℤ) (right : ℤ) (combined : IsCombined (slots player leaf) mult sums right)
    (places : length sums ≡ length player.vars) where
  left_made : (j : ℕ) → j < length player.vars
      → left_of (slots player leaf) mult j ≡ get_or sums j (pos 0)
  left_made j h =
      let e = sum_steps_exact (pos 0) (get_or sums j (pos 0))
      (map (product_of (λ k. slot_coef (slots player leaf) k j)) mult)
      (combined.left j (omega (arith, h, places))) in
      let f = left_is (slots player leaf) mult j in
      omega (arith, ints, e, f)

  right_made : right_of (slots player leaf) mult ≡ right
  right_made =
      let e = sum_steps_exact (pos 0) right (map (product_of (slot_le (slots player leaf))) mult)
      combined.right in
      let f = right_is (slots player leaf) mult in
      omega (arith, ints, e, f)

  none_wide : HasWideStep (length player.vars) (slots player leaf) mult → ⊥
  none_wide w =
      ⊎_elim (λ s. ok_err (left_steps (slots player leaf) mult s.0) (get_or sums s.0 (pos 0))
      (combined.left s.0 (omega (arith, s.1, places))) s.2)
      (λ s. ok_err (right_steps (slots player leaf) mult) right combined.right s) w

  pub refuted_tells : (zeros below : Bool)
      → (IsTrue zeros ↔ ((j : ℕ) → j < length sums → get_or sums j (pos 0) ≡ pos 0))
      → (IsTrue below ↔ ((scale ≡ pos 0) × (right <ℤ (pos 0))))
      → EndTells (Ok (zeros && below)) (KeepsCover player) (IsWideForCover player) leaf
      (ProofNode scale mult)
  refuted_tells zeros below lefts rights = (
    λ w. none_wide w.1,
    (
      λ h. let b = both_true zeros below h in (
        present,
        positive,
        record {
          none = (rights.0 b.1).0;
          left = λ j q. left_made j q ∙ lefts.0 b.0 j (omega (arith, q, places));
          right = rw right_made (rights.0 b.1).1;
        },
      ),
      λ p. true_both zeros below
          (lefts.1 (λ j q. let r : j < length player.vars = omega (arith, q, places) in
          sym (left_made j r) ∙ p.2.left j r))
          (rights.1 (p.2.none, rw right_made at p.2.right)),
    ),
  )
