-- A pivot keeps the basic form.
use Rattle.std.proofs.Common.{◌≡◌, ◌≢◌, ℕ, zero, suc, ◌+◌, ◌<◌, ◌≤◌, arith, sym, ap, ◌∙◌, ℤ, pos, ◌+ℤ◌, ◌-ℤ◌, ◌*ℤ◌, ◌<ℤ◌, ⊎_elim}
use Rattle.std.proofs.lemmas.Int.{ints}
use Rattle.std.proofs.lemmas.Bool.{cases_eq}
use Rattle.zr_base.proofs.Ring.{spread}
use Rattle.zr_base.specs.Sums.{sum_to}
use Rattle.zr_basis.specs.Programs.{Program}
use Rattle.zr_simplex.proofs.Divide.{cancel_apart, zero_if}
use Rattle.zr_basis.specs.BasicForms.{value_column, right_column, CombinesEquations, IsBasicForm}
use Rattle.zr_simplex.specs.RowSteps.{IsQuotient, IsMixture, IsPivot}

step_sum : (s t u x y z a by less k : ℤ) → s *ℤ k ≡ by *ℤ t -ℤ less *ℤ u → x *ℤ k ≡ by *ℤ y -ℤ less *ℤ z → (s +ℤ x *ℤ a) *ℤ k ≡ by *ℤ (t +ℤ y *ℤ a) -ℤ less *ℤ (u +ℤ z *ℤ a)
step_sum s t u x y z a by less k e f =
    let g = simp spread at (ap (λ q. q *ℤ a) f) in
    let h = simp spread at e in
    simp spread (omega (arith, ints, g, h))

-- sums of numbers times weights go along
pub mixture_sum : (m : ℕ) (e f made a : ℕ → ℤ) (by less k : ℤ) → ((j : ℕ) → j < m → made j *ℤ k ≡ by *ℤ e j -ℤ less *ℤ f j) → sum_to m (λ j. made j *ℤ a j) *ℤ k ≡ by *ℤ sum_to m (λ j. e j *ℤ a j) -ℤ less *ℤ sum_to m (λ j. f j *ℤ a j)
mixture_sum zero e f made a by less k h = omega (arith, ints)
mixture_sum (suc m) e f made a by less k h =
    step_sum (sum_to m (λ j. made j *ℤ a j)) (sum_to m (λ j. e j *ℤ a j)) (sum_to m (λ j. f j *ℤ a j)) (made m) (e m) (f m) (a m) by less k (mixture_sum m e f made a by less k (λ j q. h j (omega arith))) (h m (omega arith))

mixed : (s t u x y z a by less k made e f : ℤ) → k ≢ pos 0 → s *ℤ k ≡ by *ℤ t -ℤ less *ℤ u → x *ℤ k ≡ by *ℤ y -ℤ less *ℤ z → made *ℤ k ≡ by *ℤ e -ℤ less *ℤ f → e ≡ t -ℤ y *ℤ a → f ≡ u -ℤ z *ℤ a → made ≡ s -ℤ x *ℤ a
mixed s t u x y z a by less k made e f apart p q h i j =
    cancel_apart made (s -ℤ x *ℤ a) k apart (let g = simp spread at (ap (λ v. v *ℤ a) q) in let l = simp spread at p in let m = simp spread at (rw (i, j) at h) in simp spread (omega (arith, ints, g, l, m)))

plain : (s t u k by less made e f : ℤ) → k ≢ pos 0 → s *ℤ k ≡ by *ℤ t -ℤ less *ℤ u → made *ℤ k ≡ by *ℤ e -ℤ less *ℤ f → e ≡ t → f ≡ u → made ≡ s
plain s t u k by less made e f apart p h i j = cancel_apart made s k apart (h ∙ rw (i, j) (sym p))

pub mixture_combination : (p : Program) (e f made : ℕ → ℤ) → IsMixture (p.columns + p.rows + 2) e f made → CombinesEquations p e → CombinesEquations p f → CombinesEquations p made
mixture_combination p e f made mix ce cf =
    let n = p.columns in
    let slack : (r : ℕ) → r < p.rows → made (n + r) *ℤ mix.over ≡ mix.by *ℤ e (n + r) -ℤ mix.less *ℤ f (n + r) = λ r h. mix.numbers (n + r) (omega arith) in
    record {
      columns = λ j h. mixed (sum_to p.rows (λ r. made (n + r) *ℤ p.coef r j)) (sum_to p.rows (λ r. e (n + r) *ℤ p.coef r j)) (sum_to p.rows (λ r. f (n + r) *ℤ p.coef r j)) (made (value_column p)) (e (value_column p)) (f (value_column p)) (p.aim j) mix.by mix.less mix.over (made j) (e j) (f j) mix.over_apart (mixture_sum p.rows (λ r. e (n + r)) (λ r. f (n + r)) (λ r. made (n + r)) (λ r. p.coef r j) mix.by mix.less mix.over slack) (mix.numbers (value_column p) (omega arith)) (mix.numbers j (omega arith)) (ce.columns j h) (cf.columns j h);
      right = plain (sum_to p.rows (λ r. made (n + r) *ℤ p.le r)) (sum_to p.rows (λ r. e (n + r) *ℤ p.le r)) (sum_to p.rows (λ r. f (n + r) *ℤ p.le r)) mix.over mix.by mix.less (made (right_column p)) (e (right_column p)) (f (right_column p)) mix.over_apart (mixture_sum p.rows (λ r. e (n + r)) (λ r. f (n + r)) (λ r. made (n + r)) p.le mix.by mix.less mix.over slack) (mix.numbers (right_column p) (omega arith)) ce.right cf.right;
    }

-- a quotient is a mixture with nothing taken off
abbrev pub quotient_mixture : (width : ℕ) (e made : ℕ → ℤ) → IsQuotient width e made → IsMixture width e e made
quotient_mixture width e made q = record {
  by = pos 1;
  less = pos 0;
  over = q.over;
  by_apart = λ e. cc;
  over_apart = q.over_apart;
  numbers = λ j h. q.numbers j h ∙ omega (arith, ints);
}

mixture_zero : (made by less k e f : ℤ) → k ≢ pos 0 → made *ℤ k ≡ by *ℤ e -ℤ less *ℤ f → e ≡ pos 0 → f ≡ pos 0 → made ≡ pos 0
mixture_zero made by less k e f apart h i j = zero_if made k apart (h ∙ rw (i, j) (omega (arith, ints)))

module _ (p : Program) (basis : ℕ → ℕ) (form : ℕ → ℕ → ℤ) (basic : IsBasicForm p basis form) (r col : ℕ) (row : r < p.rows) (below : col < p.columns + p.rows) (next : ℕ → ℕ) (here : next r ≡ col) (else : (i : ℕ) → i ≢ r → next i ≡ basis i) (made : ℕ → ℕ → ℤ) (pivot : IsPivot (p.rows + 1) (p.columns + p.rows + 2) basis form r col made) where
  in_width : (i : ℕ) → i ≤ p.rows → basis i < p.columns + p.rows + 2
  in_width i h = ⊎_elim (λ (e : i ≡ p.rows). let v = basic.value in rw e (omega (arith, v))) (λ (a : i ≢ p.rows). let c = basic.columns i (omega arith) in omega (arith, c)) (cases_eq i p.rows)

  new_combination : (i : ℕ) → i ≤ p.rows → CombinesEquations p (made i)
  new_combination i h = ⊎_elim (λ (e : i ≡ r). rw e (mixture_combination p (form r) (form r) (made r) (quotient_mixture (p.columns + p.rows + 2) (form r) (made r) pivot.pivoted) (basic.combination r (omega arith)) (basic.combination r (omega arith)))) (λ (a : i ≢ r). mixture_combination p (form i) (form r) (made i) (pivot.changed i (omega arith) a) (basic.combination i h) (basic.combination r (omega arith))) (cases_eq i r)

  new_own : (i : ℕ) → i ≤ p.rows → (pos 0) <ℤ made i (next i)
  new_own i h = ⊎_elim (λ (e : i ≡ r). rw (e, here) pivot.here) (λ (a : i ≢ r). rw (else i a) (pivot.own i (omega arith) a)) (cases_eq i r)

  new_other : (i k : ℕ) → i ≤ p.rows → k ≤ p.rows → i ≢ k → made i (next k) ≡ pos 0
  new_other i k h q apart = ⊎_elim (λ (e : k ≡ r). rw (e, here) (pivot.cleared i (omega arith) (λ s. apart (s ∙ sym e)))) (λ (a : k ≢ r). rw (else k a) (⊎_elim (λ (e : i ≡ r). rw e (at_pivot a)) (λ (b : i ≢ r). let m = pivot.changed i (omega arith) b in mixture_zero (made i (basis k)) m.by m.less m.over (form i (basis k)) (form r (basis k)) m.over_apart (m.numbers (basis k) (in_width k q)) (basic.other i k h q apart) (basic.other r k (omega arith) q (λ s. a (sym s)))) (cases_eq i r))) (cases_eq k r)
    where
      at_pivot : k ≢ r → made r (basis k) ≡ pos 0
      at_pivot a = zero_if (made r (basis k)) pivot.pivoted.over pivot.pivoted.over_apart (pivot.pivoted.numbers (basis k) (in_width k q) ∙ basic.other r k (omega arith) q (λ s. a (sym s)))

  pub pivot_keeps : IsBasicForm p next made
  pivot_keeps = record {
    columns = λ i h. ⊎_elim (λ (e : i ≡ r). rw (e, here) below) (λ (a : i ≢ r). rw (else i a) (basic.columns i h)) (cases_eq i r);
    value = else p.rows (λ e. let q : r < p.rows = row in omega (arith, e, q)) ∙ basic.value;
    combination = new_combination;
    own = new_own;
    other = new_other;
    primitive = λ i h. pivot.primitive i (omega arith);
  }
