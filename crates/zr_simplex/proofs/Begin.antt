-- The equations at the start are a basic form.
use Rattle.std.proofs.Common.{◌≡◌, ◌≢◌, ℕ, ◌+◌, ◌<◌, ◌≤◌, arith, sym, ◌∙◌, ℤ, pos, neg_ℤ, ◌-ℤ◌, ◌*ℤ◌, ⊎_elim}
use Rattle.std.proofs.Math.Nat.{le_of_dvd, pos_of_dvd_of_pos}
use Rattle.std.proofs.lemmas.Bool.{cases_eq}
use Rattle.std.proofs.lemmas.Int.{ints}
use Rattle.std.specs.Int.{◌∣◌}
use Rattle.zr_base.specs.Sums.{sum_to}
use Rattle.zr_basis.specs.Programs.{Program}
use Rattle.zr_basis.specs.BasicForms.{CombinesEquations, IsPrimitive, IsBasicForm}
use Rattle.zr_simplex.specs.RowSteps.{IsFirstEquation}
use Rattle.zr_basis.proofs.Sums.{sum_to-all_zero, sum_to-single}

one_if : (d : ℕ) → d ∣ 1 → d ≡ 1
one_if d h =
    let positive : 0 < 1 = omega arith in
    let least : 0 < d = pos_of_dvd_of_pos h positive in
    omega (arith, le_of_dvd positive h)

primitive_by_one : (width own : ℕ) (e : ℕ → ℤ) → own < width → e own ≡ pos 1 → IsPrimitive width e
primitive_by_one width own e below one d all =
    let h = all own below in
    one_if d (rw one at h)

times_one : (z a : ℤ) → z ≡ pos 1 → z *ℤ a ≡ a
times_one z a e = rw e (omega (arith, ints))

times_zero : (z a : ℤ) → z ≡ pos 0 → z *ℤ a ≡ pos 0
times_zero z a e = rw e (omega (arith, ints))

row_case : (e s v a : ℤ) → s ≡ e → v ≡ pos 0 → e ≡ s -ℤ v *ℤ a
row_case e s v a p q =
    let m = times_zero v a q in
    omega (arith, ints, p, m)

aim_case : (e s v a : ℤ) → s ≡ pos 0 → v ≡ pos 1 → e ≡ neg_ℤ a → e ≡ s -ℤ v *ℤ a
aim_case e s v a p q r =
    let m = times_one v a q in
    omega (arith, ints, p, m, r)

-- one row
module _ (p : Program) (i : ℕ) (h : i < p.rows) (e : ℕ → ℤ) (start : IsFirstEquation p.columns (p.columns + p.rows) (p.columns + i) (p.coef i) (p.le i) e) where
  -- only its own slack stands in it
  own_slack : (a : ℕ → ℤ) → sum_to p.rows (λ r. e (p.columns + r) *ℤ a r) ≡ a i
  own_slack a =
      sum_to-single p.rows i (λ r. e (p.columns + r) *ℤ a r) h (λ r q apart. times_zero (e (p.columns + r)) (a r) (start.zeros (p.columns + r) (omega arith) (omega arith) (λ s. apart (omega (arith, s))))) ∙ times_one (e (p.columns + i)) (a i) start.one

  pub row_combination : CombinesEquations p e
  row_combination = record {
    columns = λ j q. row_case (e j) (sum_to p.rows (λ r. e (p.columns + r) *ℤ p.coef r j)) (e (p.columns + p.rows)) (p.aim j) (own_slack (λ r. p.coef r j) ∙ sym (start.coefs j q)) (start.zeros (p.columns + p.rows) (omega arith) (omega arith) (λ s. let b : i < p.rows = h in omega (arith, s, b)));
    right = start.right ∙ sym (own_slack p.le);
  }

module _ (p : Program) (form : ℕ → ℕ → ℤ) (start : (i : ℕ) → i < p.rows → IsFirstEquation p.columns (p.columns + p.rows) (p.columns + i) (p.coef i) (p.le i) (form i)) (last : IsFirstEquation p.columns (p.columns + p.rows) (p.columns + p.rows) (λ j. neg_ℤ (p.aim j)) (pos 0) (form p.rows)) where
  no_slack : (a : ℕ → ℤ) → sum_to p.rows (λ r. form p.rows (p.columns + r) *ℤ a r) ≡ pos 0
  no_slack a =
      sum_to-all_zero p.rows (λ r. form p.rows (p.columns + r) *ℤ a r) (λ r q. times_zero (form p.rows (p.columns + r)) (a r) (last.zeros (p.columns + r) (omega arith) (omega arith) (λ e. omega (arith, e, q))))

  aim_combination : CombinesEquations p (form p.rows)
  aim_combination = record {
    columns = λ j q. aim_case (form p.rows j) (sum_to p.rows (λ r. form p.rows (p.columns + r) *ℤ p.coef r j)) (form p.rows (p.columns + p.rows)) (p.aim j) (no_slack (λ r. p.coef r j)) last.one (last.coefs j q);
    right = last.right ∙ sym (no_slack p.le);
  }

  one_at : (i : ℕ) → i ≤ p.rows → form i (p.columns + i) ≡ pos 1
  one_at i h = ⊎_elim (λ (e : i ≡ p.rows). rw e last.one) (λ (a : i ≢ p.rows). (start i (omega arith)).one) (cases_eq i p.rows)

  zero_at : (i k : ℕ) → i ≤ p.rows → k ≤ p.rows → i ≢ k → form i (p.columns + k) ≡ pos 0
  zero_at i k h q apart = ⊎_elim (λ (e : i ≡ p.rows). rw e (last.zeros (p.columns + k) (omega arith) (omega arith) (λ s. apart (omega (arith, s, e))))) (λ (a : i ≢ p.rows). (start i (omega arith)).zeros (p.columns + k) (omega arith) (omega arith) (λ s. apart (omega (arith, s)))) (cases_eq i p.rows)

  pub start_form : (basis : ℕ → ℕ) → ((i : ℕ) → i ≤ p.rows → basis i ≡ p.columns + i) → IsBasicForm p basis form
  start_form basis is = record {
    columns = λ i h. rw (is i (omega arith)) (omega arith);
    value = is p.rows (omega arith);
    combination = λ i h. ⊎_elim (λ (e : i ≡ p.rows). rw e aim_combination) (λ (a : i ≢ p.rows). let q : i < p.rows = omega arith in row_combination p i q (form i) (start i q)) (cases_eq i p.rows);
    own = λ i h. rw (is i h, one_at i h) (omega (arith, ints));
    other = λ i k h q apart. rw (is k q) (zero_at i k h q apart);
    primitive = λ i h. primitive_by_one (p.columns + p.rows + 2) (p.columns + i) (form i) (omega arith) (one_at i h);
  }
