-- Where a linear cost has a least value over rows, multipliers show it.
use Rattle.std.proofs.Common.{◌≡◌, ◌≢◌, ℕ, suc, ◌<◌, arith, sym, ap, ◌∙◌, ℤ, pos, ◌+ℤ◌, ◌*ℤ◌, ◌≤ℤ◌, ◌<ℤ◌, true, false, ◌⊎◌, ⊎_elim, inl, inr, if◌then◌else◌, ◌==◌}
use Rattle.std.proofs.lemmas.Int.{ints}
use Rattle.std.proofs.lemmas.Bool.{cases_eq}
use Rattle.std.proofs.lemmas.Bool.Decides.{nat_tests}
use Rattle.std.proofs.Math.IntN.{*ℤ_comm}
use Rattle.zr_base.specs.Sums.{sum_to}
use Rattle.zr_base.proofs.Dense.{sum_to-mul, sum_to_same, sum_to_zero}
use Rattle.zr_base.proofs.Ring.{spread}
use Rattle.zr_lin.specs.DenseRows.{DenseRow, HasDenseSolution}
use Rattle.zr_lin.proofs.Multipliers.{HasWeights, solution_or_weights}
use Rattle.zr_convex.proofs.Dots.{by_columns, dot, dot_mul, sum_to_le}
use Rattle.zr_convex.proofs.Orders.{cancelled, nonneg_mul, scaled}

-- multipliers that show that the cost g is at least least
pub record AreDuals (vars slots : ℕ) (coef : ℕ → ℕ → ℤ) (le : ℕ → ℤ) (g : ℕ → ℤ) (least : ℤ)
    (q : ℤ) (y : ℕ → ℤ) : Type 0 where
  pub nonneg : (j : ℕ) → j < slots → (pos 0) ≤ℤ y j
  pub pull : (v : ℕ) → v < vars → q *ℤ g v +ℤ dot slots (λ j. coef j v) y ≡ pos 0
  pub gain : (q *ℤ least +ℤ dot slots (λ j. (le j)) y) ≤ℤ (pos 0)

module _ (vars slots : ℕ) (coef : ℕ → ℕ → ℤ) (le : ℕ → ℤ) (g : ℕ → ℤ) (least : ℤ) where
  -- the slots, and at last the row of a smaller cost
  abbrev table : ℕ → DenseRow
  table k = record {
    coef = λ v. if k == slots then g v else coef k v;
    le = if k == slots then least else le k;
    strict = k == slots;
  }

  at_last : (a b : ℤ) → (if slots == slots then a else b) ≡ a
  at_last a b = grind (arith, nat_tests)

  before : (k : ℕ) (a b : ℤ) → k < slots → (if k == slots then a else b) ≡ b
  before k a b h = grind (arith, nat_tests)

  last_is : (slots == slots) ≡ true
  last_is = grind (arith, nat_tests)

  before_is : (k : ℕ) → k < slots → (k == slots) ≡ false
  before_is k h = grind (arith, nat_tests)

  only_last : (k : ℕ) → (k == slots) ≡ true → k ≡ slots
  only_last k e = grind (arith, nat_tests)

  -- a weighted sum over the table's rows
  split_sum : (w : ℕ → ℕ) (f : ℕ → ℤ) (c : ℤ)
      → sum_to (suc slots) (λ k. pos (w k) *ℤ (if k == slots then c else f k)) ≡ dot slots f
      (λ j. pos (w j)) +ℤ pos (w slots) *ℤ c
  split_sum w f c =
      let front = sum_to_same slots (λ k. pos (w k) *ℤ (if k == slots then c else f k))
      (λ k. f k *ℤ pos (w k)) (λ k h. ap (λ x. pos (w k) *ℤ x) (before k c (f k) h)
      ∙ *ℤ_comm (pos (w k)) (f k)) in
      let last : pos (w slots) *ℤ (if slots == slots then c else f slots) ≡ pos (w slots) *ℤ c = ap
      (λ x. pos (w slots) *ℤ x) (at_last c (f slots)) in
      omega (arith, ints, front, last)

  module _ (p : ℕ → ℤ) (d : ℤ) (positive : (pos 0) <ℤ d)
      (inside : (j : ℕ) → j < slots → (dot vars (coef j) p ≤ℤ (le j *ℤ d))) where
    -- multiples of the slots alone don't refute, since a point meets them
    meets : (w : ℕ → ℕ) → ((v : ℕ) → v < vars → dot slots (λ j. coef j v) (λ j. pos (w j)) ≡ pos 0)
        → (dot slots (λ j. (le j)) (λ j. pos (w j)) <ℤ (pos 0)) → ⊥
    meets w flat negative =
        let left = by_columns vars slots (λ j. (coef j)) (λ j. pos (w j)) p
        ∙ sum_to_same vars (λ v. dot slots (λ j. coef j v) (λ j. pos (w j)) *ℤ p v)
        (λ v. pos 0) (λ v h. ap (λ x. x *ℤ p v) (flat v h) ∙ omega (arith, ints))
        ∙ sum_to_zero vars in
        let right = sum_to_same slots (λ j. pos (w j) *ℤ ((le j) *ℤ d))
        (λ j. d *ℤ ((le j) *ℤ pos (w j))) (λ j h. simp spread)
        ∙ sum_to-mul slots d (λ j. (le j) *ℤ pos (w j)) in
        let most = sum_to_le slots (λ j. pos (w j) *ℤ dot vars (coef j) p)
        (λ j. pos (w j) *ℤ ((le j) *ℤ d)) (λ j h. scaled (pos (w j)) (dot vars (coef j) p)
        ((le j) *ℤ d) (omega (arith, ints)) (inside j h)) in
        clash _ (cancelled d (pos 0) (dot slots (λ j. (le j)) (λ j. pos (w j))) positive
        (above d _ _ _ left right most)) negative
      where
        above : (e a b c : ℤ) → a ≡ pos 0 → b ≡ c → a ≤ℤ b → (e *ℤ pos 0) ≤ℤ c
        above e a b c p q h = omega (arith, ints, p, q, h)

        clash : (z : ℤ) → (pos 0) ≤ℤ z → z <ℤ (pos 0) → ⊥
        clash z h k = omega (arith, ints, h, k)

    pub dual : ((x : ℕ → ℤ) (e : ℤ) → (pos 0) <ℤ e
        → ((j : ℕ) → j < slots → (dot vars (coef j) x ≤ℤ (le j *ℤ e)))
        → (least *ℤ e) ≤ℤ dot vars g x) → (q : ℤ) × ((pos 0) <ℤ q) × (y : ℕ → ℤ)
        × AreDuals vars slots coef le g least q y
    dual bound = chosen (solution_or_weights vars (suc slots) table)
      where
        chosen : HasDenseSolution vars (suc slots) table ⊎ HasWeights vars (suc slots) table
            → (q : ℤ) × ((pos 0) <ℤ q) × (y : ℕ → ℤ) × AreDuals vars slots coef le g least q y
        chosen (inl s) =
            let last = rw last_is at (s.2.1 slots (omega arith)) in
            let all = bound s.0 s.1 s.2.0 (λ j h. rw (before_is j h) at (s.2.1 j (omega arith))) in
            absurd (omega (arith, ints, last, all))
        chosen (inr r) = ⊎_elim (λ (z : r.0 slots ≡ 0). absurd
            (meets r.0 (λ v h. flat z v h) (below z))) (λ (c : r.0 slots ≢ 0). (
              pos (r.0 slots),
              omega (arith, ints, c),
              (λ j. pos (r.0 j)),
              record {
                nonneg = λ j h. omega (arith, ints);
                pull = λ v h. let e = sym (split_sum r.0 (λ k. coef k v) (g v)) ∙ r.1 v h in
                    omega (arith, ints, e);
                gain = at_most r.2;
              },
            )) (cases_eq (r.0 slots) 0)
          where
            right : sum_to (suc slots) (λ k. pos (r.0 k) *ℤ (if k == slots then least else (le k)))
                ≡ dot slots (λ j. (le j)) (λ j. pos (r.0 j)) +ℤ pos (r.0 slots) *ℤ least
            right = split_sum r.0 (λ k. (le k)) least

            flat : r.0 slots ≡ 0 → (v : ℕ) → v < vars
                → dot slots (λ j. coef j v) (λ j. pos (r.0 j)) ≡ pos 0
            flat z v h =
                let e = sym (split_sum r.0 (λ k. coef k v) (g v)) ∙ r.1 v h in
                let f : pos (r.0 slots) *ℤ g v ≡ pos 0 = ap (λ x. pos x *ℤ g v) z
                ∙ omega (arith, ints) in
                omega (arith, ints, e, f)

            below : r.0 slots ≡ 0 → dot slots (λ j. (le j)) (λ j. pos (r.0 j)) <ℤ (pos 0)
            below z =
                let f : pos (r.0 slots) *ℤ least ≡ pos 0 = ap (λ x. pos x *ℤ least) z
                ∙ omega (arith, ints) in
                ⊎_elim (λ (n : sum_to (suc slots) (λ k. pos (r.0 k) *ℤ
                (if k == slots then least else (le k))) <ℤ (pos 0)). omega
                (arith, ints, n, right, f)) (λ (e :
                (sum_to (suc slots) (λ k. pos (r.0 k) *ℤ
                (if k == slots then least else (le k))) ≡ pos 0)
                × ((k : ℕ) × (k < suc slots) × (0 < r.0 k) × ((k == slots) ≡ true))).
                let s = only_last e.1.0 e.1.3 in let w : r.0 e.1.0 ≡ r.0 slots = ap r.0 s in
                let u = e.1.2 in absurd (omega (arith, w, z, u))) r.2

            at_most : ((sum_to (suc slots) (λ k. pos (r.0 k) *ℤ
                (if k == slots then least else (le k))) <ℤ (pos 0))
                ⊎ ((sum_to (suc slots) (λ k. pos (r.0 k) *ℤ (if k == slots then least else (le k)))
                ≡ pos 0) × ((k : ℕ) × (k < suc slots) × (0 < r.0 k) × ((k == slots) ≡ true))))
                → (pos (r.0 slots) *ℤ least +ℤ dot slots (λ j. (le j)) (λ j. pos (r.0 j))) ≤ℤ
                (pos 0)
            at_most (inl n) = omega (arith, ints, n, right)
            at_most (inr e) = let z = e.0 in omega (arith, ints, z, right)

-- multipliers times a number
pub dual_scaled : (vars slots : ℕ) (coef : ℕ → ℕ → ℤ) (le : ℕ → ℤ) (g : ℕ → ℤ) (least q m : ℤ)
    (y : ℕ → ℤ) → (pos 0) <ℤ m → AreDuals vars slots coef le g least q y
    → AreDuals vars slots coef le g least (q *ℤ m) (λ j. m *ℤ y j)
dual_scaled vars slots coef le g least q m y p d = record {
  nonneg = λ j h. nonneg_mul m (y j) (omega (arith, ints, p)) (d.nonneg j h);
  pull = λ v h. let e = dot_mul slots (λ j. coef j v) m y in
      let f = ap (λ x. m *ℤ x) (d.pull v h) in by_m q m (g v) (dot slots (λ j. coef j v) y) _ e ∙ f
      ∙ omega (arith, ints);
  gain = let e = dot_mul slots (λ j. (le j)) m y in
      let f = scaled m (q *ℤ least +ℤ dot slots (λ j. (le j)) y) (pos 0) (omega (arith, ints, p))
      d.gain in rw (by_m q m least (dot slots (λ j. (le j)) y) _ e) (omega (arith, ints, f));
}
  where
    by_m : (q m g a b : ℤ) → b ≡ m *ℤ a → (q *ℤ m) *ℤ g +ℤ b ≡ m *ℤ (q *ℤ g +ℤ a)
    by_m q m g a b e = rw e (simp spread)
