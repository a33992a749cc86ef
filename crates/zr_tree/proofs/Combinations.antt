-- What a combination of slots that hold says.
use Rattle.std.proofs.Common.{ℕ, zero, suc, ◌+◌, ◌^◌, arith, ap, ◌∙◌, ℤ, pos, negsuc, ◌+ℤ◌, ◌*ℤ◌, ◌<ℤ◌, ◌≤ℤ◌, Option, Some, None, IsSome, List, [], ◌∷◌, length}
use Rattle.std.specs.Option.{option_map_or}
use Rattle.std.proofs.lemmas.Int.{ints}
use Rattle.std.proofs.Math.IntN.{*ℤ_comm}
use Rattle.zr_base.specs.Points.{PointOf, num_of}
use Rattle.zr_base.specs.Steps.{IsNarrow}
use Rattle.zr_base.specs.Sums.{sum_to}
use Rattle.zr_base.specs.Terms.{AscendWith}
use Rattle.zr_base.proofs.Ring.{mul_assoc, mul-add_right, le-mul_right, lt-mul_right}
use Rattle.zr_base.proofs.Dense.{sum_to_same, sum_to_zero, sum_to-add, sum_to-mul}
use Rattle.zr_base.proofs.Worth.{Each, le_times, le_of_times}
use Rattle.zr_game.specs.Players.{PlayerOf}
use Rattle.zr_game.specs.Leaves.{Bound, BoundHolds, slot_of}
use Rattle.zr_tree.specs.Nodes.{Multipliers}
use Rattle.zr_tree.specs.Right.{ArePositive, ArePresent, IsRefuting, IsScaled, left_of, right_of}
use Rattle.zr_game.proofs.Holding.{SlotHolds}

-- the form of multipliers says that they are positive
pub positive_if : (low : ℕ) (mult : Multipliers) → AscendWith (λ z. ((pos 1) ≤ℤ z) × IsNarrow z) low (2 ^ 32) mult → ArePositive mult
positive_if low [] form = tt
positive_if low (t ∷ ts) form = (form.2.0, positive_if (t.0 + 1) ts form.3)

times_le : (m a b : ℤ) → (pos 1) ≤ℤ m → a ≤ℤ b → (m *ℤ a) ≤ℤ (m *ℤ b)
times_le (pos n) a b p h =
    let r = le-mul_right a b n h in omega (arith, ints, r, *ℤ_comm (pos n) a, *ℤ_comm (pos n) b)
times_le (negsuc n) a b p h = absurd (omega (arith, ints, p))

module _ (player : PlayerOf) (x : PointOf) where
  slot_holds : (rows : List (Option Bound)) (k : ℕ) → Each (SlotHolds player x) rows → SlotHolds player x (slot_of rows k)
  slot_holds [] k all = tt
  slot_holds (row ∷ rows) zero all = all.0
  slot_holds (row ∷ rows) (suc k) all = slot_holds rows k all.1

  abbrev columns : ℕ
  columns = length player.vars

  one_slot : (m : ℤ) (o : Option Bound) → (pos 1) ≤ℤ m → IsSome o → SlotHolds player x o → sum_to columns (λ j. (m *ℤ option_map_or (λ b. b.coef j) o (pos 0)) *ℤ num_of x j) ≤ℤ ((m *ℤ option_map_or (λ b. b.le) o (pos 0)) *ℤ x.den)
  one_slot m None p some h = absurd cc
  one_slot m (Some b) p some h =
      let e = sum_to_same columns (λ j. (m *ℤ b.coef j) *ℤ num_of x j) (λ j. m *ℤ (b.coef j *ℤ num_of x j)) (λ j q. mul_assoc m (b.coef j) (num_of x j)) ∙ sum_to-mul columns m (λ j. b.coef j *ℤ num_of x j) in
      let f = mul_assoc m b.le x.den in
      rw (e, f) (times_le m (sum_to columns (λ j. b.coef j *ℤ num_of x j)) (b.le *ℤ x.den) p h)

  pub combined : (rows : List (Option Bound)) (mult : Multipliers) → Each (SlotHolds player x) rows → ArePositive mult → ArePresent rows mult → sum_to columns (λ j. left_of rows mult j *ℤ num_of x j) ≤ℤ (right_of rows mult *ℤ x.den)
  combined rows [] all above present =
      let z = sum_to_same columns (λ j. pos 0 *ℤ num_of x j) (λ j. pos 0) (λ j h. omega (arith, ints)) ∙ sum_to_zero columns in
      rw z (omega (arith, ints))
  combined rows (t ∷ ts) all above present =
      let first = one_slot t.1 (slot_of rows t.0) above.0 present.0 (slot_holds rows t.0 all) in
      let rest = combined rows ts all above.1 present.1 in
      let f = λ (j : ℕ). t.1 *ℤ option_map_or (λ b. b.coef j) (slot_of rows t.0) (pos 0) in
      let e = sum_to_same columns (λ j. (f j +ℤ left_of rows ts j) *ℤ num_of x j) (λ j. f j *ℤ num_of x j +ℤ left_of rows ts j *ℤ num_of x j) (λ j h. mul-add_right (f j) (left_of rows ts j) (num_of x j)) ∙ sum_to-add columns (λ j. f j *ℤ num_of x j) (λ j. left_of rows ts j *ℤ num_of x j) in
      let r = mul-add_right (t.1 *ℤ option_map_or (λ b. b.le) (slot_of rows t.0) (pos 0)) (right_of rows ts) x.den in
      rw (e, r) (omega (arith, ints, first, rest))

  negative_times : (r d : ℤ) → (pos 0) <ℤ d → r <ℤ (pos 0) → (r *ℤ d) <ℤ (pos 0)
  negative_times r (pos n) positive h =
      let l = lt-mul_right r (pos 0) n (omega (arith, ints, positive)) h in omega (arith, ints, l)
  negative_times r (negsuc n) positive h = absurd positive.lt

  module _ (positive : (pos 0) <ℤ x.den) (rows : List (Option Bound)) (mult : Multipliers) (all : Each (SlotHolds player x) rows) (above : ArePositive mult) (present : ArePresent rows mult) where
    pub scaled : (bound : Bound) (scale : ℤ) → IsScaled player bound scale rows mult → BoundHolds player x bound
    scaled bound scale s =
        let c = combined rows mult all above present in
        let e = sum_to_same columns (λ j. left_of rows mult j *ℤ num_of x j) (λ j. scale *ℤ (bound.coef j *ℤ num_of x j)) (λ j h. ap (λ a. a *ℤ num_of x j) (s.left j h) ∙ mul_assoc scale (bound.coef j) (num_of x j)) ∙ sum_to-mul columns scale (λ j. bound.coef j *ℤ num_of x j) in
        let w = le_times (right_of rows mult) (scale *ℤ bound.le) x.den positive s.right in
        let f = mul_assoc scale bound.le x.den in
        cancel_left scale (sum_to columns (λ j. bound.coef j *ℤ num_of x j)) (bound.le *ℤ x.den) s.positive (omega (arith, ints, rw e at c, w, f))
      where
        cancel_left : (k a b : ℤ) → (pos 1) ≤ℤ k → (k *ℤ a) ≤ℤ (k *ℤ b) → a ≤ℤ b
        cancel_left k a b p h = le_of_times a b k (omega (arith, ints, p)) (rw (*ℤ_comm a k, *ℤ_comm b k) h)

    pub refuting : (scale : ℤ) → IsRefuting player scale rows mult → ⊥
    refuting scale s =
        let c = combined rows mult all above present in
        let z = sum_to_same columns (λ j. left_of rows mult j *ℤ num_of x j) (λ j. pos 0) (λ j h. ap (λ a. a *ℤ num_of x j) (s.left j h) ∙ omega (arith, ints)) ∙ sum_to_zero columns in
        let n = negative_times (right_of rows mult) x.den positive s.right in
        omega (arith, ints, rw z at c, n)
