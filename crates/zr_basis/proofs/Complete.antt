-- What solves the equations of a basis solves the program's.
use Rattle.std.proofs.Common.{◌≡◌, ◌≢◌, ℕ, zero, suc, ◌+◌, ◌-◌, ◌<◌, ◌≤◌, arith, refl, sym, ap, ap₂, ◌∙◌, ℤ, pos, ◌+ℤ◌, ◌-ℤ◌, ◌*ℤ◌, ◌<ℤ◌, ◌⊎◌, inl, inr, ⊎_elim}
use Rattle.std.proofs.lemmas.Int.{ints}
use Rattle.std.proofs.lemmas.Bool.{cases_eq}
use Rattle.zr_base.proofs.Ring.{spread, mul-add_left, mul_assoc}
use Rattle.zr_base.proofs.Divisors.{cancel}
use Rattle.zr_base.specs.Sums.{sum_to}
use Rattle.zr_base.proofs.Dense.{sum_to_same, sum_to-add, sum_to-mul}
use Rattle.zr_basis.specs.Programs.{Program, aim_at}
use Rattle.zr_basis.specs.BasicForms.{value_column, right_column, CombinesEquations, HoldsAt, AreSlacks, IsBasicForm}
use Rattle.zr_basis.proofs.Signs.{side, zero_times}
use Rattle.zr_basis.proofs.Sums.{sum_to-append, sum_to-swap, sum_to-all_zero, sum_to-single, sum_to-sub, sum_to-mul_right}
use Rattle.zr_basis.proofs.Unique.{cleared, determined, mixed, mixed_sum, both_zero, crossed}

sub_times : (s v a x : ℤ) → (s -ℤ v *ℤ a) *ℤ x ≡ s *ℤ x -ℤ v *ℤ (a *ℤ x)
sub_times s v a x = simp spread (omega (arith, ints))

-- a combination holds wherever the program's equations do
module _ (p : Program) (e : ℕ → ℤ) (made : CombinesEquations p e) (x : ℕ → ℤ) (d : ℤ) (slacks : AreSlacks p x d) where
  left : ℕ → ℤ
  left r = sum_to p.columns (λ j. p.coef r j *ℤ x j)

  one_column : (j : ℕ) → j < p.columns → e j *ℤ x j ≡ sum_to p.rows (λ r. e (p.columns + r) *ℤ (p.coef r j *ℤ x j)) -ℤ e (value_column p) *ℤ (p.aim j *ℤ x j)
  one_column j h =
      let a = sum_to-mul_right p.rows (λ r. e (p.columns + r) *ℤ p.coef r j) (x j) in
      let b = sum_to_same p.rows (λ r. e (p.columns + r) *ℤ p.coef r j *ℤ x j) (λ r. e (p.columns + r) *ℤ (p.coef r j *ℤ x j)) (λ r k. simp spread refl) in
      let c = ap (λ z. z *ℤ x j) (made.columns j h) in
      let t = sub_times (sum_to p.rows (λ r. e (p.columns + r) *ℤ p.coef r j)) (e (value_column p)) (p.aim j) (x j) in
      c ∙ t ∙ ap (λ z. z -ℤ e (value_column p) *ℤ (p.aim j *ℤ x j)) (sym a ∙ b)

  structural : sum_to p.columns (λ j. e j *ℤ x j) ≡ sum_to p.rows (λ r. e (p.columns + r) *ℤ left r) -ℤ e (value_column p) *ℤ aim_at p x
  unfolding left
  structural =
      let n = p.columns in
      let v = e (value_column p) in
      sum_to_same n (λ j. e j *ℤ x j) (λ j. sum_to p.rows (λ r. e (n + r) *ℤ (p.coef r j *ℤ x j)) -ℤ v *ℤ (p.aim j *ℤ x j)) one_column
      ∙ sum_to-sub n (λ j. sum_to p.rows (λ r. e (n + r) *ℤ (p.coef r j *ℤ x j))) (λ j. v *ℤ (p.aim j *ℤ x j))
      ∙ ap₂ ◌-ℤ◌ (sum_to-swap n p.rows (λ j r. e (n + r) *ℤ (p.coef r j *ℤ x j)) ∙ sum_to_same p.rows (λ r. sum_to n (λ j. e (n + r) *ℤ (p.coef r j *ℤ x j))) (λ r. e (n + r) *ℤ left r) (λ r h. sum_to-mul n (e (n + r)) (λ j. p.coef r j *ℤ x j))) (sum_to-mul n v (λ j. p.aim j *ℤ x j))

  pub combination_holds : sum_to (p.columns + p.rows) (λ j. e j *ℤ x j) +ℤ e (value_column p) *ℤ aim_at p x ≡ e (right_column p) *ℤ d
  unfolding left
  combination_holds =
      let n = p.columns in
      let split = sum_to-append n p.rows (λ j. e j *ℤ x j) in
      let both = sum_to-add p.rows (λ r. e (n + r) *ℤ left r) (λ r. e (n + r) *ℤ x (n + r)) in
      let rows = sum_to_same p.rows (λ r. e (n + r) *ℤ left r +ℤ e (n + r) *ℤ x (n + r)) (λ r. e (n + r) *ℤ p.le r *ℤ d) (λ r h. sym (mul-add_left (e (n + r)) (left r) (x (n + r))) ∙ ap (λ z. e (n + r) *ℤ z) (slacks r h) ∙ sym (mul_assoc (e (n + r)) (p.le r) d)) in
      let right = sum_to-mul_right p.rows (λ r. e (n + r) *ℤ p.le r) d in
      let last = ap (λ z. z *ℤ d) made.right in
      omega (arith, ints, split, both, rows, right, last, structural)

-- the combination of the program's equations with these multipliers
module _ (p : Program) (y : ℕ → ℤ) where
  inner : (j : ℕ) → (j < right_column p) ⊎ (right_column p ≤ j) → ℤ
  inner j (inl b) = y (j - p.columns)
  inner j (inr b) = sum_to p.rows (λ r. y r *ℤ p.le r)

  outer : (j : ℕ) → (j < p.columns) ⊎ (p.columns ≤ j) → ℤ
  outer j (inl b) = sum_to p.rows (λ r. y r *ℤ p.coef r j) -ℤ y p.rows *ℤ p.aim j
  outer j (inr b) = inner j (side j (right_column p))

  pub combination_of : ℕ → ℤ
  combination_of j = outer j (side j p.columns)

  outer_left : (j : ℕ) (s : (j < p.columns) ⊎ (p.columns ≤ j)) → j < p.columns → outer j s ≡ sum_to p.rows (λ r. y r *ℤ p.coef r j) -ℤ y p.rows *ℤ p.aim j
  unfolding outer
  outer_left j (inl b) h = refl
  outer_left j (inr b) h = absurd (omega (arith, b, h))

  outer_right : (j : ℕ) (s : (j < p.columns) ⊎ (p.columns ≤ j)) → p.columns ≤ j → outer j s ≡ inner j (side j (right_column p))
  unfolding outer
  outer_right j (inl b) h = absurd (omega (arith, b, h))
  outer_right j (inr b) h = refl

  inner_slack : (j : ℕ) (s : (j < right_column p) ⊎ (right_column p ≤ j)) → j < right_column p → inner j s ≡ y (j - p.columns)
  unfolding inner
  inner_slack j (inl b) h = refl
  inner_slack j (inr b) h = absurd (omega (arith, b, h))

  inner_right : (j : ℕ) (s : (j < right_column p) ⊎ (right_column p ≤ j)) → right_column p ≤ j → inner j s ≡ sum_to p.rows (λ r. y r *ℤ p.le r)
  unfolding inner
  inner_right j (inl b) h = absurd (omega (arith, b, h))
  inner_right j (inr b) h = refl

  pub at_column : (j : ℕ) → j < p.columns → combination_of j ≡ sum_to p.rows (λ r. y r *ℤ p.coef r j) -ℤ y p.rows *ℤ p.aim j
  unfolding combination_of
  at_column j h = outer_left j (side j p.columns) h

  pub at_slack : (r : ℕ) → r ≤ p.rows → combination_of (p.columns + r) ≡ y r
  unfolding combination_of
  at_slack r h =
      let e : p.columns + r - p.columns ≡ r = omega arith in
      outer_right (p.columns + r) (side (p.columns + r) p.columns) (omega arith) ∙ inner_slack (p.columns + r) (side (p.columns + r) (right_column p)) (omega (arith, h)) ∙ ap y e

  pub at_right : combination_of (right_column p) ≡ sum_to p.rows (λ r. y r *ℤ p.le r)
  unfolding combination_of
  at_right =
      outer_right (right_column p) (side (right_column p) p.columns) (omega arith) ∙ inner_right (right_column p) (side (right_column p) (right_column p)) (omega arith)

  pub combines : CombinesEquations p combination_of
  combines = record {
    columns = λ j h. at_column j h ∙ ap₂ ◌-ℤ◌ (sum_to_same p.rows (λ r. y r *ℤ p.coef r j) (λ r. combination_of (p.columns + r) *ℤ p.coef r j) (λ r q. ap (λ z. z *ℤ p.coef r j) (sym (at_slack r (omega (arith, q)))))) (ap (λ z. z *ℤ p.aim j) (sym (at_slack p.rows (omega arith))));
    right = at_right ∙ sum_to_same p.rows (λ r. y r *ℤ p.le r) (λ r. combination_of (p.columns + r) *ℤ p.le r) (λ r q. ap (λ z. z *ℤ p.le r) (sym (at_slack r (omega (arith, q)))));
  }

-- 1 at i, 0 elsewhere
abbrev pub unit : ℕ → ℕ → ℤ
unit zero zero = pos 1
unit zero (suc j) = pos 0
unit (suc i) zero = pos 0
unit (suc i) (suc j) = unit i j

unit_same : (i : ℕ) → unit i i ≡ pos 1
unit_same zero = refl
unit_same (suc i) = unit_same i

unit_other : (i j : ℕ) → j ≢ i → unit i j ≡ pos 0
unit_other zero zero h = absurd (h refl)
unit_other zero (suc j) h = refl
unit_other (suc i) zero h = refl
unit_other (suc i) (suc j) h = unit_other i j (λ e. h (ap suc e))

unit_sum : (n i : ℕ) (f : ℕ → ℤ) → i < n → sum_to n (λ r. unit i r *ℤ f r) ≡ f i
unit_sum n i f h =
    sum_to-single n i (λ r. unit i r *ℤ f r) h (λ j q a. ap (λ z. z *ℤ f j) (unit_other i j a) ∙ zero_times (f j)) ∙ ap (λ z. z *ℤ f i) (unit_same i) ∙ omega (arith, ints)

took_off : (a b s t e f d : ℤ) → (pos 0) <ℤ a → a *ℤ s -ℤ b *ℤ t ≡ (a *ℤ e -ℤ b *ℤ f) *ℤ d → t ≡ f *ℤ d → s ≡ e *ℤ d
took_off a b s t e f d h first second =
    cancel s (e *ℤ d) a h (let u = simp spread at first in let v = ap (λ z. b *ℤ z) second in simp spread (omega (arith, ints, u, v)))

module _ (p : Program) (basis : ℕ → ℕ) (form : ℕ → ℕ → ℤ) (basic : IsBasicForm p basis form) (x : ℕ → ℤ) (d : ℤ) (holds : (i : ℕ) → i < p.rows → HoldsAt p (form i) x d) where
  -- a combination without the value, which is zero at the basis's columns from n on, holds
  holds_below : (n : ℕ) → n ≤ p.rows → (e : ℕ → ℤ) → CombinesEquations p e → ((i : ℕ) → n ≤ i → i ≤ p.rows → e (basis i) ≡ pos 0) → HoldsAt p e x d
  holds_below zero h e combination none =
      let nought : (j : ℕ) → j ≤ right_column p → e j ≡ pos 0 = determined p basis form basic e combination (λ i q. none i (omega arith) q) in
      let left = sum_to-all_zero (value_column p) (λ j. e j *ℤ x j) (λ j q. ap (λ z. z *ℤ x j) (nought j (omega (arith, q))) ∙ zero_times (x j)) in
      left ∙ sym (ap (λ z. z *ℤ d) (nought (right_column p) (omega arith)) ∙ zero_times d)
  holds_below (suc n) h e combination none =
      let f = form n in
      let a = f (basis n) in
      let b = e (basis n) in
      let less = holds_below n (omega (arith, h)) (cleared f (basis n) e) (mixed p e f a b combination (basic.combination n (omega (arith, h)))) (λ i q r. ⊎_elim (λ (s : i ≡ n). rw s (crossed (form n (basis n)) (e (basis n)))) (λ (c : i ≢ n). both_zero a b (e (basis i)) (f (basis i)) (none i (omega (arith, q, c)) r) (basic.other n i (omega (arith, h)) r (λ s. c (sym s)))) (cases_eq i n)) in
      took_off a b (sum_to (value_column p) (λ j. e j *ℤ x j)) (sum_to (value_column p) (λ j. f j *ℤ x j)) (e (right_column p)) (f (right_column p)) d (basic.own n (omega (arith, h))) (sym (mixed_sum (value_column p) e f x a b) ∙ less) (holds n (omega (arith, h)))

  row_holds : (r : ℕ) → r < p.rows → HoldsAt p (combination_of p (unit r)) x d
  row_holds r h = holds_below p.rows (omega arith) (combination_of p (unit r)) (combines p (unit r)) (λ i q b. let s : i ≡ p.rows = omega (arith, q, b) in ap (λ z. combination_of p (unit r) (basis z)) s ∙ ap (combination_of p (unit r)) basic.value ∙ at_slack p (unit r) p.rows (omega arith) ∙ unit_other r p.rows (λ t. omega (arith, t, h)))

  coefficient : (s c v m : ℤ) → s ≡ c → v ≡ pos 0 → s -ℤ v *ℤ m ≡ c
  coefficient s c v m e z = let t = ap (λ q. q *ℤ m) z in let u = zero_times m in omega (arith, ints, e, t, u)

  pub complete : AreSlacks p x d
  complete r h =
      let y = unit r in
      let e = combination_of p y in
      let split = sum_to-append p.columns p.rows (λ j. e j *ℤ x j) in
      let own : (j : ℕ) → j < p.columns → e j ≡ p.coef r j = λ j q. at_column p y j q ∙ coefficient (sum_to p.rows (λ k. y k *ℤ p.coef k j)) (p.coef r j) (y p.rows) (p.aim j) (unit_sum p.rows r (λ k. p.coef k j) h) (unit_other r p.rows (λ t. omega (arith, t, h))) in
      let first = sum_to_same p.columns (λ j. e j *ℤ x j) (λ j. p.coef r j *ℤ x j) (λ j q. ap (λ z. z *ℤ x j) (own j q)) in
      let second = sum_to_same p.rows (λ k. e (p.columns + k) *ℤ x (p.columns + k)) (λ k. y k *ℤ x (p.columns + k)) (λ k q. ap (λ z. z *ℤ x (p.columns + k)) (at_slack p y k (omega (arith, q)))) ∙ unit_sum p.rows r (λ k. x (p.columns + k)) h in
      let right = ap (λ z. z *ℤ d) (at_right p y ∙ unit_sum p.rows r p.le h) in
      let all = row_holds r h in
      omega (arith, ints, split, first, second, right, all)
