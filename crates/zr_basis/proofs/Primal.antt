-- The lexicographic rule of the primal method keeps the rows' vectors positive, and the value's vector falls.
use Rattle.std.proofs.Common.{◌≡◌, ◌≢◌, ℕ, zero, suc, ◌+◌, ◌<◌, ◌≤◌, arith, sym, ap, ◌∙◌, ℤ, pos, neg_ℤ, ◌+ℤ◌, ◌-ℤ◌, ◌*ℤ◌, ◌<ℤ◌, ◌≤ℤ◌, ◌⊎◌, ⊎_elim}
use Rattle.std.proofs.lemmas.Int.{ints}
use Rattle.std.proofs.lemmas.Bool.{cases_eq}
use Rattle.std.proofs.Math.IntN.{*ℤ_comm}
use Rattle.zr_base.proofs.Ring.{spread}
use Rattle.zr_base.proofs.Divisors.{mul_positive}
use Rattle.zr_basis.specs.Programs.{Program}
use Rattle.zr_basis.specs.BasicForms.{value_column, right_column, IsBasicForm}
use Rattle.zr_basis.specs.Bases.{Exchanges}
use Rattle.zr_basis.specs.Vectors.{IsLeading}
use Rattle.zr_basis.specs.Stages.{Stage, IsFeasibleForm}
use Rattle.zr_basis.specs.Primal.{place, vector, AreVectorsPositive, IsPrimalDue, Drops}
use Rattle.zr_basis.proofs.Signs.{sign, side, zero_factor, above_apart, times_zero}
use Rattle.zr_basis.proofs.Vectors.{IsNought, in_proportion, leading_sum, same_leading, three_ways, times_leading}
use Rattle.zr_basis.proofs.Unique.{determined}
use Rattle.zr_basis.proofs.Turned.{turned, turned_own, own_after, own_here}

-- at a basis with no right side below zero the vectors that are read by it are positive
pub positive_at_start : (p : Program) (basis : ℕ → ℕ) (form : ℕ → ℕ → ℤ) → IsBasicForm p basis form → IsFeasibleForm p form → AreVectorsPositive p basis form
positive_at_start p basis form basic feasible i h = ⊎_elim (λ (a : (pos 0) <ℤ form i (right_column p)). (0, omega arith, (λ j q. absurd (omega arith)), a)) (λ (r : (form i (right_column p) ≡ pos 0) ⊎ (form i (right_column p) <ℤ (pos 0))). ⊎_elim (λ (z : form i (right_column p) ≡ pos 0). (suc i, omega arith, before z, basic.own i (omega arith))) (λ (n : form i (right_column p) <ℤ (pos 0)). absurd (let f = feasible i h in omega (arith, ints, f, n))) r) (sign (form i (right_column p)))
  where
    before : form i (right_column p) ≡ pos 0 → (j : ℕ) → j < suc i → vector p basis (form i) j ≡ pos 0
    before z zero q = z
    before z (suc m) q = basic.other i m (omega arith) (omega arith) (λ (s : i ≡ m). omega arith)

pub leading_first : (n : ℕ) (v : ℕ → ℤ) → IsLeading n v → (pos 0) ≤ℤ v 0
leading_first n v lead = ⊎_elim (λ (h : 0 < lead.0). let z = lead.2 0 h in omega (arith, ints, z)) (λ (h : lead.0 ≤ 0). let e : lead.0 ≡ 0 = omega arith in let z = ap v e in let a = lead.3 in omega (arith, ints, z, a)) (side 0 lead.0)

-- no right side is below zero where the vectors are positive
pub feasible_if : (p : Program) (start : ℕ → ℕ) (form : ℕ → ℕ → ℤ) → AreVectorsPositive p start form → IsFeasibleForm p form
feasible_if p start form positive i h = leading_first (p.rows + 1) (vector p start (form i)) (positive i h)

apart_negated : (x f g : ℤ) → (pos 0) <ℤ x → neg_ℤ (x *ℤ f -ℤ g) ≡ g -ℤ x *ℤ f
apart_negated x f g h = omega (arith, ints)

with_negated : (fr f fi r : ℤ) → fr *ℤ f -ℤ fi *ℤ r ≡ fr *ℤ f +ℤ neg_ℤ fi *ℤ r
with_negated fr f fi r = simp spread (omega (arith, ints))

swapped : (fr f fi r : ℤ) → r *ℤ fi -ℤ f *ℤ fr ≡ neg_ℤ (fr *ℤ f -ℤ fi *ℤ r)
swapped fr f fi r = let a = *ℤ_comm r fi in let b = *ℤ_comm f fr in omega (arith, ints, a, b)

fallen : (own fr m a f fv r : ℤ) → (own *ℤ fr) *ℤ m ≡ a *ℤ (fr *ℤ f -ℤ fv *ℤ r) → fr *ℤ (f *ℤ a -ℤ m *ℤ own) ≡ (a *ℤ fv) *ℤ r
fallen own fr m a f fv r e = let g = simp spread at e in simp spread (omega (arith, ints, g))

module _ (p : Program) (s : Stage p) (basis : ℕ → ℕ) (form : ℕ → ℕ → ℤ) (basic : IsBasicForm p basis form) (positive : AreVectorsPositive p s.basis form) (row col : ℕ) (due : IsPrimalDue p s.basis form row col) (next : ℕ → ℕ) (exchange : Exchanges basis row col next) (made : ℕ → ℕ → ℤ) (after : IsBasicForm p next made) where
  inside : (k : ℕ) → k < p.rows + 1 → place p s.basis k ≤ right_column p
  inside zero h = omega arith
  inside (suc i) h = let q = s.basic.columns i (omega arith) in omega (arith, q)

  value_place : basis p.rows ≡ value_column p
  value_place = basic.value

  -- the vector of a row isn't zero
  apart : (i : ℕ) → i < p.rows → IsNought (p.rows + 1) (vector p s.basis (made i)) → ⊥
  apart i h none = above_apart (made i (next i)) (after.own i (omega arith)) (determined p s.basis s.form s.basic (made i) (after.combination i (omega arith)) at (next i) (let q = after.columns i h in omega (arith, q)))
    where
      at : (m : ℕ) → m ≤ p.rows → made i (s.basis m) ≡ pos 0
      at m q = ⊎_elim (λ (b : m < p.rows). none (suc m) (omega arith)) (λ (b : p.rows ≤ m). let e : m ≡ p.rows = omega arith in ap (λ z. made i (s.basis z)) e ∙ ap (made i) (s.basic.value ∙ sym after.value) ∙ after.other i p.rows (omega arith) (omega arith) (λ (t : i ≡ p.rows). omega arith)) (side m p.rows)

  mix : ℕ → ℕ → ℤ
  mix i k = form row col *ℤ vector p s.basis (form i) k -ℤ form i col *ℤ vector p s.basis (form row) k

  at_mix : (i : ℕ) → i ≤ p.rows → i ≢ row → (k : ℕ) → k < p.rows + 1 → (form i (basis i) *ℤ form row col) *ℤ vector p s.basis (made i) k ≡ made i (basis i) *ℤ mix i k
  unfolding mix
  at_mix i h a k q = turned p basis form basic row col due.below due.column next exchange made after i h a (place p s.basis k) (inside k q)

  made_if : (i : ℕ) → i < p.rows → i ≢ row → IsLeading (p.rows + 1) (mix i) → IsLeading (p.rows + 1) (vector p s.basis (made i))
  made_if i h a lead =
      in_proportion (p.rows + 1) (vector p s.basis (made i)) (mix i) (form i (basis i) *ℤ form row col) (made i (basis i)) (mul_positive (form i (basis i)) (form row col) (basic.own i (omega arith)) due.above) (own_after p basis form basic row col due.below due.column next exchange made after i (omega arith) a) (at_mix i (omega arith) a) lead

  mix_leads : (i : ℕ) → i < p.rows → i ≢ row → IsLeading (p.rows + 1) (mix i)
  unfolding mix
  mix_leads i h a = ⊎_elim above (λ (r : (form i col ≡ pos 0) ⊎ (form i col <ℤ (pos 0))). ⊎_elim level under r) (sign (form i col))
    where
      first : IsLeading (p.rows + 1) (λ k. form row col *ℤ vector p s.basis (form i) k)
      first = times_leading (p.rows + 1) (form row col) (vector p s.basis (form i)) due.above (positive i h)

      under : form i col <ℤ (pos 0) → IsLeading (p.rows + 1) (mix i)
      under n = same_leading (p.rows + 1) (mix i) (λ k. form row col *ℤ vector p s.basis (form i) k +ℤ neg_ℤ (form i col) *ℤ vector p s.basis (form row) k) (λ k q. with_negated (form row col) (vector p s.basis (form i) k) (form i col) (vector p s.basis (form row) k)) (leading_sum (p.rows + 1) (λ k. form row col *ℤ vector p s.basis (form i) k) (λ k. neg_ℤ (form i col) *ℤ vector p s.basis (form row) k) first (times_leading (p.rows + 1) (neg_ℤ (form i col)) (vector p s.basis (form row)) (omega (arith, ints, n)) (positive row due.below)))

      level : form i col ≡ pos 0 → IsLeading (p.rows + 1) (mix i)
      level z = same_leading (p.rows + 1) (mix i) (λ k. form row col *ℤ vector p s.basis (form i) k) (λ k q. let t = ap (λ y. y *ℤ vector p s.basis (form row) k) z in omega (arith, ints, t)) first

      above : (pos 0) <ℤ form i col → IsLeading (p.rows + 1) (mix i)
      above b = ⊎_elim (λ (l : IsLeading (p.rows + 1) (mix i)). l) (λ (r : IsNought (p.rows + 1) (mix i) ⊎ IsLeading (p.rows + 1) (λ k. neg_ℤ (mix i k))). ⊎_elim (λ (none : IsNought (p.rows + 1) (mix i)). absurd (apart i h (λ k q. zero_factor (form i (basis i) *ℤ form row col) (vector p s.basis (made i) k) (mul_positive (form i (basis i)) (form row col) (basic.own i (omega arith)) due.above) (at_mix i (omega arith) a k q ∙ ap (λ z. made i (basis i) *ℤ z) (none k q) ∙ times_zero (made i (basis i)))))) (λ (l : IsLeading (p.rows + 1) (λ k. neg_ℤ (mix i k))). absurd (due.least i h b (same_leading (p.rows + 1) (λ k. vector p s.basis (form row) k *ℤ form i col -ℤ vector p s.basis (form i) k *ℤ form row col) (λ k. neg_ℤ (mix i k)) (λ k q. swapped (form row col) (vector p s.basis (form i) k) (form i col) (vector p s.basis (form row) k)) l))) r) (three_ways (p.rows + 1) (mix i))

  -- the rows' vectors stay positive
  pub primal_keeps : AreVectorsPositive p s.basis made
  primal_keeps i h = ⊎_elim (λ (e : i ≡ row). rw e here) (λ (a : i ≢ row). made_if i h a (mix_leads i h a)) (cases_eq i row)
    where
      here : IsLeading (p.rows + 1) (vector p s.basis (made row))
      here = in_proportion (p.rows + 1) (vector p s.basis (made row)) (vector p s.basis (form row)) (form row col) (made row col) due.above (own_here p basis form basic row col due.below due.column next exchange made after) (λ k q. turned_own p basis form basic row col due.below due.column next exchange made after (place p s.basis k) (inside k q)) (positive row due.below)

  -- the value's vector falls
  pub primal_drops : Drops p s.basis form made
  primal_drops = rw (← basic.value) (in_proportion (p.rows + 1) (λ k. vector p s.basis (form p.rows) k *ℤ made p.rows (basis p.rows) -ℤ vector p s.basis (made p.rows) k *ℤ form p.rows (basis p.rows)) (vector p s.basis (form row)) (form row col) (made p.rows (basis p.rows) *ℤ form p.rows col) due.above (mul_positive (made p.rows (basis p.rows)) (form p.rows col) (own_after p basis form basic row col due.below due.column next exchange made after p.rows (omega arith) last) due.falls) (λ k q. fallen (form p.rows (basis p.rows)) (form row col) (vector p s.basis (made p.rows) k) (made p.rows (basis p.rows)) (vector p s.basis (form p.rows) k) (form p.rows col) (vector p s.basis (form row) k) (turned p basis form basic row col due.below due.column next exchange made after p.rows (omega arith) last (place p s.basis k) (inside k q))) (positive row due.below))
    where
      last : p.rows ≢ row
      last e = let b = due.below in omega (arith, e, b)
