-- What meets the rows meets their combinations, and nothing meets a contradiction.
use Rattle.std.proofs.Common.{◌≡◌, ℕ, ◌+◌, ◌<◌, arith, refl, ap, ◌∙◌, ℤ, pos, ◌+ℤ◌, ◌*ℤ◌, ◌≤ℤ◌, ◌<ℤ◌, true, [], ◌∷◌, ⊎_elim}
use Rattle.std.proofs.lemmas.Int.{ints}
use Rattle.zr_base.proofs.Ring.{spread}
use Rattle.zr_base.proofs.Dense.{sum_to_same, sum_to_zero, sum_to-add, sum_to-mul}
use Rattle.zr_base.specs.Sums.{sum_to}
use Rattle.zr_base.specs.Terms.{Terms, AscendWith}
use Rattle.zr_lin.specs.DenseRows.{DenseRow, DenseHolds, DenseSolves, HasNoDenseSolution, HasRefutation, IsContradiction, AreMultipliers, combination}
use Rattle.zr_lin.proofs.Below.{below-add, below-mul, below-mul_right, not_below}

-- the value of zeros
pub value_zero : (n : ℕ) (f p : ℕ → ℤ) → ((j : ℕ) → j < n → f j ≡ pos 0) → sum_to n (λ j. f j *ℤ p j) ≡ pos 0
value_zero n f p zero =
    sum_to_same n (λ j. f j *ℤ p j) (λ j. pos 0) (λ j h. ap (λ x. x *ℤ p j) (zero j h) ∙ omega (arith, ints)) ∙ sum_to_zero n

-- the value of a multiple of one row and another
pub value_more : (n : ℕ) (m : ℤ) (f g p : ℕ → ℤ) → sum_to n (λ j. (m *ℤ f j +ℤ g j) *ℤ p j) ≡ m *ℤ sum_to n (λ j. f j *ℤ p j) +ℤ sum_to n (λ j. g j *ℤ p j)
value_more n m f g p =
    sum_to_same n (λ j. (m *ℤ f j +ℤ g j) *ℤ p j) (λ j. m *ℤ (f j *ℤ p j) +ℤ g j *ℤ p j) (λ j h. simp spread) ∙ sum_to-add n (λ j. m *ℤ (f j *ℤ p j)) (λ j. g j *ℤ p j) ∙ ap (λ x. x +ℤ sum_to n (λ j. g j *ℤ p j)) (sum_to-mul n m (λ j. f j *ℤ p j))

module _ (columns count : ℕ) (row : ℕ → DenseRow) (p : ℕ → ℤ) (d : ℤ) (hold : (k : ℕ) → k < count → DenseHolds columns p d (row k)) where
  holds_from : (low : ℕ) (mult : Terms) → AscendWith (λ z. (pos 1) ≤ℤ z) low count mult → DenseHolds columns p d (combination row mult)
  holds_from low [] a = let z = value_zero columns (λ j. pos 0) p (λ j h. refl) in omega (arith, ints, z)
  holds_from low (t ∷ ts) a =
      let this = row t.0 in
      let others = combination row ts in
      let first = below-mul this.strict t.1 (sum_to columns (λ j. this.coef j *ℤ p j)) (this.le *ℤ d) a.2 (hold t.0 a.1) in
      let rest = holds_from (t.0 + 1) ts a.3 in
      let right : t.1 *ℤ (this.le *ℤ d) +ℤ others.le *ℤ d ≡ (t.1 *ℤ this.le +ℤ others.le) *ℤ d = simp spread in
      rw (value_more columns t.1 this.coef others.coef p, ← right) (below-add this.strict others.strict (t.1 *ℤ sum_to columns (λ j. this.coef j *ℤ p j)) (t.1 *ℤ (this.le *ℤ d)) (sum_to columns (λ j. others.coef j *ℤ p j)) (others.le *ℤ d) first rest)

pub combination_holds : (columns count : ℕ) (row : ℕ → DenseRow) (p : ℕ → ℤ) (d : ℤ) → DenseSolves columns count row p d → (mult : Terms) → AreMultipliers count mult → DenseHolds columns p d (combination row mult)
combination_holds columns count row p d solves mult good = holds_from columns count row p d solves.1 0 mult good

zero_right : (d : ℤ) → (pos 0) <ℤ (pos 0 *ℤ d) → ⊥
zero_right d h = omega (arith, ints)

pub contradiction_fails : (columns : ℕ) (row : DenseRow) (p : ℕ → ℤ) (d : ℤ) → (pos 0) <ℤ d → IsContradiction columns row → DenseHolds columns p d row → ⊥
contradiction_fails columns row p d positive contradiction holds =
    let below = rw (value_zero columns row.coef p contradiction.0) at holds in
    ⊎_elim (λ (negative : row.le <ℤ (pos 0)). not_below row.strict (row.le *ℤ d) (negative_side negative) below) (λ (even : (row.le ≡ pos 0) × (row.strict ≡ true)). zero_right d (rw (even.0, even.1) at below)) contradiction.1
  where
    negative_side : row.le <ℤ (pos 0) → (row.le *ℤ d) <ℤ (pos 0)
    negative_side negative =
        let r = below-mul_right true row.le (pos 0) d positive negative in
        omega (arith, ints, r)

-- refuted rows have no solution
pub refutation_excludes : (columns count : ℕ) (row : ℕ → DenseRow) → HasRefutation columns count row → HasNoDenseSolution columns count row
refutation_excludes columns count row r p d solves =
    contradiction_fails columns (combination row r.0) p d solves.0 r.2 (combination_holds columns count row p d solves r.0 r.1)
