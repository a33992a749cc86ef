-- Points whose numerators and denominator are multiplied by the same number.
use Rattle.std.proofs.Common.{◌≡◌, ℕ, arith, sym, ap, ◌∙◌, ℤ, pos, ◌+ℤ◌, ◌*ℤ◌, ◌<ℤ◌, Bool, [], ◌∷◌, ◌↔◌}
use Rattle.std.proofs.Math.IntN.{*ℤ_comm}
use Rattle.std.proofs.lemmas.Int.{ints}
use Rattle.zr_base.proofs.Ring.{spread, mul_assoc}
use Rattle.zr_base.proofs.Dense.{sum_to_same, sum_to-mul}
use Rattle.zr_base.specs.Sums.{sum_to}
use Rattle.zr_base.specs.Terms.{Terms, value_at}
use Rattle.zr_lin.specs.DenseRows.{DenseRow, DenseHolds, IsBelow}
use Rattle.zr_lin.specs.Ineqs.{IneqOf, IneqHolds}
use Rattle.zr_lin.proofs.Below.{below-mul_right, below_of_mul_right}

-- both sides times e
scaled : (s : Bool) (a b le d e : ℤ) → (pos 0) <ℤ e → b ≡ a *ℤ e → IsBelow s a (le *ℤ d) ↔ IsBelow s b (le *ℤ (d *ℤ e))
scaled s a b le d e positive same =
    let right : le *ℤ (d *ℤ e) ≡ (le *ℤ d) *ℤ e = sym (mul_assoc le d e) in
    (λ h. rw (same, right) (below-mul_right s a (le *ℤ d) e positive h), λ h. below_of_mul_right s a (le *ℤ d) e positive (rw (same, right) at h))

sum_scaled : (n : ℕ) (f p : ℕ → ℤ) (e : ℤ) → sum_to n (λ j. f j *ℤ (p j *ℤ e)) ≡ sum_to n (λ j. f j *ℤ p j) *ℤ e
sum_scaled n f p e =
    sum_to_same n (λ j. f j *ℤ (p j *ℤ e)) (λ j. e *ℤ (f j *ℤ p j)) (λ j h. simp spread) ∙ sum_to-mul n e (λ j. f j *ℤ p j) ∙ *ℤ_comm e (sum_to n (λ j. f j *ℤ p j))

value_scaled : (ts : Terms) (p : ℕ → ℤ) (e : ℤ) → value_at ts (λ j. p j *ℤ e) ≡ value_at ts p *ℤ e
value_scaled [] p e = omega (arith, ints)
value_scaled (t ∷ ts) p e = ap (λ x. t.1 *ℤ (p t.0 *ℤ e) +ℤ x) (value_scaled ts p e) ∙ simp spread

pub dense_scaled : (columns : ℕ) (row : DenseRow) (p : ℕ → ℤ) (d e : ℤ) → (pos 0) <ℤ e → DenseHolds columns p d row ↔ DenseHolds columns (λ j. p j *ℤ e) (d *ℤ e) row
dense_scaled columns row p d e positive =
    scaled row.strict (sum_to columns (λ j. row.coef j *ℤ p j)) (sum_to columns (λ j. row.coef j *ℤ (p j *ℤ e))) row.le d e positive (sum_scaled columns row.coef p e)

pub ineq_scaled : (row : IneqOf) (p : ℕ → ℤ) (d e : ℤ) → (pos 0) <ℤ e → IneqHolds p d row ↔ IneqHolds (λ j. p j *ℤ e) (d *ℤ e) row
ineq_scaled row p d e positive =
    scaled row.strict (value_at row.coef p) (value_at row.coef (λ j. p j *ℤ e)) row.le d e positive (value_scaled row.coef p e)
