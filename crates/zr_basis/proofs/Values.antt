-- What the basic form of a basis says of its basic solution and of its basic directions.
use Rattle.std.proofs.Common.{◌≡◌, ◌≢◌, ℕ, ◌+◌, ◌<◌, ◌≤◌, arith, sym, ap, ◌∙◌, ℤ, pos, neg_ℤ, ◌+ℤ◌, ◌*ℤ◌, ◌<ℤ◌, ◌≤ℤ◌, ⊎_elim}
use Rattle.std.proofs.lemmas.Int.{ints}
use Rattle.std.proofs.lemmas.Bool.{cases_eq}
use Rattle.zr_base.proofs.Ring.{neg-mul_left}
use Rattle.zr_base.proofs.Divisors.{mul_positive}
use Rattle.zr_basis.specs.Programs.{Program, aim_at}
use Rattle.zr_basis.specs.BasicForms.{value_column, right_column, AreSlacks, IsBasicForm, IsBasicSolution, IsBasicDirection}
use Rattle.zr_basis.proofs.Signs.{nonnegative_mul, nonnegative_factor, negative_factor}
use Rattle.zr_basis.proofs.Sums.{sum_to-all_zero, sum_to-single, sum_to-double}
use Rattle.zr_basis.proofs.Complete.{combination_holds, complete}
use Rattle.zr_basis.proofs.Solved.{in_basis}

-- the columns off the basis and those on it
module _ (p : Program) (basis : ℕ → ℕ) (form : ℕ → ℕ → ℤ) (basic : IsBasicForm p basis form) where
  own_value : (pos 0) <ℤ form p.rows (value_column p)
  own_value = rw (← basic.value) (basic.own p.rows (omega arith))

  module _ (x : ℕ → ℤ) (d : ℤ) (solution : IsBasicSolution p basis form x d) where
    off_own : (i : ℕ) → i ≤ p.rows → (j : ℕ) → j < p.columns + p.rows → j ≢ basis i → form i j *ℤ x j ≡ pos 0
    off_own i h j q apart = ⊎_elim (λ (f : (k : ℕ) × (k < p.rows) × (j ≡ basis k)). on f) (λ (out : (k : ℕ) → k < p.rows → j ≢ basis k). ap (λ z. form i j *ℤ z) (solution.off j q out) ∙ omega (arith, ints)) (in_basis basis p.rows j)
      where
        on : ((k : ℕ) × (k < p.rows) × (j ≡ basis k)) → form i j *ℤ x j ≡ pos 0
        on f =
            let z = basic.other i f.0 h (omega (arith, f.1)) (λ e. apart (f.2 ∙ ap basis (sym e))) in
            ap (λ c. form i c *ℤ x j) f.2 ∙ ap (λ z. z *ℤ x j) z ∙ omega (arith, ints)

    pub solution_slacks : AreSlacks p x d
    solution_slacks =
        complete p basis form basic x d (λ i h. sum_to-single (p.columns + p.rows) (basis i) (λ j. form i j *ℤ x j) (basic.columns i h) (off_own i (omega arith)) ∙ solution.on i h)

    -- the value's equation gives the aim's value
    pub solution_value : form p.rows (value_column p) *ℤ aim_at p x ≡ form p.rows (right_column p) *ℤ d
    solution_value =
        let all = combination_holds p (form p.rows) (basic.combination p.rows (omega arith)) x d solution_slacks in
        let none = sum_to-all_zero (p.columns + p.rows) (λ j. form p.rows j *ℤ x j) (λ j h. off_own p.rows (omega arith) j h (λ e. let v = basic.value in omega (arith, v, e))) in
        omega (arith, ints, all, none)

    -- it isn't negative where no right side is
    pub solution_nonnegative : ((i : ℕ) → i < p.rows → (pos 0) ≤ℤ form i (right_column p)) → (j : ℕ) → j < p.columns + p.rows → (pos 0) ≤ℤ x j
    solution_nonnegative rights j q = ⊎_elim (λ (f : (k : ℕ) × (k < p.rows) × (j ≡ basis k)). on f) (λ (out : (k : ℕ) → k < p.rows → j ≢ basis k). rw (solution.off j q out) (omega (arith, ints))) (in_basis basis p.rows j)
      where
        on : ((k : ℕ) × (k < p.rows) × (j ≡ basis k)) → (pos 0) ≤ℤ x j
        on f = rw f.2 (nonnegative_factor (form f.0 (basis f.0)) (x (basis f.0)) (basic.own f.0 (omega (arith, f.1))) (rw (solution.on f.0 f.1) (nonnegative_mul (form f.0 (right_column p)) d (rights f.0 f.1) (let up = solution.positive in omega (arith, ints, up)))))

  -- column col isn't in the basis, and x raises it
  module _ (col : ℕ) (free : (k : ℕ) → k < p.rows → col ≢ basis k) (below : col < p.columns + p.rows) (x : ℕ → ℤ) (d : ℤ) (direction : IsBasicDirection p basis form col x d) where
    off_both : (i : ℕ) → i ≤ p.rows → (j : ℕ) → j < p.columns + p.rows → j ≢ basis i → j ≢ col → form i j *ℤ x j ≡ pos 0
    off_both i h j q apart other = ⊎_elim (λ (f : (k : ℕ) × (k < p.rows) × (j ≡ basis k)). on f) (λ (out : (k : ℕ) → k < p.rows → j ≢ basis k). ap (λ z. form i j *ℤ z) (direction.off j q other out) ∙ omega (arith, ints)) (in_basis basis p.rows j)
      where
        on : ((k : ℕ) × (k < p.rows) × (j ≡ basis k)) → form i j *ℤ x j ≡ pos 0
        on f =
            let z = basic.other i f.0 h (omega (arith, f.1)) (λ e. apart (f.2 ∙ ap basis (sym e))) in
            ap (λ c. form i c *ℤ x j) f.2 ∙ ap (λ z. z *ℤ x j) z ∙ omega (arith, ints)

    level : (a y b : ℤ) → a *ℤ y ≡ neg_ℤ b *ℤ d → a *ℤ y +ℤ b *ℤ d ≡ pos 0
    level a y b e = let n = neg-mul_left b d in omega (arith, ints, e, n)

    pub direction_slacks : AreSlacks p x (pos 0)
    direction_slacks =
        complete p basis form basic x (pos 0) (λ i h. sum_to-double (p.columns + p.rows) (basis i) col (λ j. form i j *ℤ x j) (basic.columns i h) below (λ e. free i h (sym e)) (off_both i (omega arith)) ∙ ap (λ z. form i (basis i) *ℤ x (basis i) +ℤ form i col *ℤ z) direction.raised ∙ level (form i (basis i)) (x (basis i)) (form i col) (direction.on i h) ∙ omega (arith, ints))

    -- how the aim's value changes along it, by the value's equation
    pub direction_aim : form p.rows (value_column p) *ℤ aim_at p x ≡ neg_ℤ (form p.rows col) *ℤ d
    direction_aim =
        let all = combination_holds p (form p.rows) (basic.combination p.rows (omega arith)) x (pos 0) direction_slacks in
        let one = sum_to-single (p.columns + p.rows) col (λ j. form p.rows j *ℤ x j) below (λ j h other. off_both p.rows (omega arith) j h (λ e. let v = basic.value in omega (arith, v, e)) other) in
        let at = ap (λ z. form p.rows col *ℤ z) direction.raised in
        let n = neg-mul_left (form p.rows col) d in
        omega (arith, ints, all, one, at, n)

    -- the aim falls along it where the value's equation is above zero at the column
    pub direction_value : (pos 0) <ℤ form p.rows col → aim_at p x <ℤ (pos 0)
    direction_value above =
        let up = mul_positive (form p.rows col) d above direction.positive in
        let n = neg-mul_left (form p.rows col) d in
        let aim = direction_aim in
        negative_factor (form p.rows (value_column p)) (aim_at p x) own_value (omega (arith, ints, aim, up, n))

    -- it isn't negative where no equation of a row is above zero at the column
    pub direction_nonnegative : ((i : ℕ) → i < p.rows → form i col ≤ℤ (pos 0)) → (j : ℕ) → j < p.columns + p.rows → (pos 0) ≤ℤ x j
    direction_nonnegative under j q = ⊎_elim (λ (f : (k : ℕ) × (k < p.rows) × (j ≡ basis k)). on f) (λ (out : (k : ℕ) → k < p.rows → j ≢ basis k). ⊎_elim (λ (e : j ≡ col). rw (e, direction.raised) (let up = direction.positive in omega (arith, ints, up))) (λ (other : j ≢ col). rw (direction.off j q other out) (omega (arith, ints))) (cases_eq j col)) (in_basis basis p.rows j)
      where
        on : ((k : ℕ) × (k < p.rows) × (j ≡ basis k)) → (pos 0) ≤ℤ x j
        on f = rw f.2 (nonnegative_factor (form f.0 (basis f.0)) (x (basis f.0)) (basic.own f.0 (omega (arith, f.1))) (rw (direction.on f.0 f.1) (nonnegative_mul (neg_ℤ (form f.0 col)) d (let u = under f.0 f.1 in omega (arith, ints, u)) (let up = direction.positive in omega (arith, ints, up)))))

  -- a column where the value's equation isn't zero is off the basis
  pub free_if : (col : ℕ) → form p.rows col ≢ pos 0 → (k : ℕ) → k < p.rows → col ≢ basis k
  free_if col apart k h e = apart (ap (form p.rows) e ∙ basic.other p.rows k (omega arith) (omega arith) (λ s. let q : k < p.rows = h in omega (arith, s, q)))
