-- What the form of a basis says of the form after an exchange.
use Rattle.std.proofs.Common.{◌≡◌, ◌≢◌, ℕ, ◌<◌, ◌≤◌, arith, refl, sym, ap, ◌∙◌, ℤ, pos, neg_ℤ, ◌-ℤ◌, ◌*ℤ◌, ◌<ℤ◌, ⊎_elim}
use Rattle.std.proofs.lemmas.Int.{ints}
use Rattle.std.proofs.lemmas.Bool.{cases_eq}
use Rattle.zr_base.proofs.Ring.{spread}
use Rattle.zr_base.proofs.Divisors.{cancel}
use Rattle.zr_basis.specs.Programs.{Program}
use Rattle.zr_basis.specs.BasicForms.{value_column, right_column, IsBasicForm}
use Rattle.zr_basis.specs.Bases.{Exchanges}
use Rattle.zr_basis.proofs.Signs.{times_zero}
use Rattle.zr_basis.proofs.Unique.{mixed, both_zero, crossed, equal_if, determined}

without : (o r i z a f : ℤ) → z ≡ pos 0 → o *ℤ (i *ℤ z -ℤ a *ℤ f) ≡ r → neg_ℤ (o *ℤ (a *ℤ f)) ≡ r
without o r i z a f h e =
    let t = ap (λ q. i *ℤ q) h in
    let u = times_zero i in
    let v : i *ℤ z -ℤ a *ℤ f ≡ neg_ℤ (a *ℤ f) = omega (arith, ints, t, u) in
    let w = ap (λ q. o *ℤ q) v in
    let x : o *ℤ neg_ℤ (a *ℤ f) ≡ neg_ℤ (o *ℤ (a *ℤ f)) = simp spread refl in
    sym x ∙ sym w ∙ e

turn : (o own a b m f fi fr r : ℤ) → (pos 0) <ℤ o → o *ℤ (own *ℤ m -ℤ a *ℤ f) ≡ (own *ℤ b) *ℤ r → neg_ℤ (o *ℤ (a *ℤ fi)) ≡ (own *ℤ b) *ℤ fr → (own *ℤ fr) *ℤ m ≡ a *ℤ (fr *ℤ f -ℤ fi *ℤ r)
turn o own a b m f fi fr r h first second =
    cancel ((own *ℤ fr) *ℤ m) (a *ℤ (fr *ℤ f -ℤ fi *ℤ r)) o h (let g = simp spread at (ap (λ z. z *ℤ fr) first) in let k = simp spread at (ap (λ z. z *ℤ r) second) in simp spread (omega (arith, ints, g, k)))

turn_own : (o c m f mc fr : ℤ) → (pos 0) <ℤ o → o *ℤ m ≡ c *ℤ f → o *ℤ mc ≡ c *ℤ fr → fr *ℤ m ≡ mc *ℤ f
turn_own o c m f mc fr h first second =
    cancel (fr *ℤ m) (mc *ℤ f) o h (let g = simp spread at (ap (λ z. z *ℤ fr) first) in let k = simp spread at (ap (λ z. z *ℤ f) second) in simp spread (omega (arith, ints, g, k)))

second_zero : (o own a b m f r : ℤ) → f ≡ pos 0 → m ≡ b → r ≡ o → o *ℤ (own *ℤ m -ℤ a *ℤ f) -ℤ (own *ℤ b) *ℤ r ≡ pos 0
second_zero o own a b m f r h i j =
    let t = times_zero a in
    let u = ap (λ z. a *ℤ z) h in
    let v : own *ℤ m -ℤ a *ℤ f ≡ own *ℤ m = omega (arith, ints, t, u) in
    rw (v, i, j) (crossed o (own *ℤ b))

module _ (p : Program) (basis : ℕ → ℕ) (form : ℕ → ℕ → ℤ) (basic : IsBasicForm p basis form) (row col : ℕ) (below : row < p.rows) (column : col < value_column p) (next : ℕ → ℕ) (exchange : Exchanges basis row col next) (made : ℕ → ℕ → ℤ) (after : IsBasicForm p next made) where
  -- where the basis stays, the new equation is zero at its columns but its own
  stays : (i m : ℕ) → i ≤ p.rows → m ≤ p.rows → m ≢ row → m ≢ i → made i (basis m) ≡ pos 0
  stays i m h q a b = ap (made i) (sym (exchange.1 m a)) ∙ after.other i m h q (λ s. b (sym s))

  gone : (i : ℕ) → i ≤ p.rows → i ≢ row → made i col ≡ pos 0
  gone i h a = ap (made i) (sym exchange.0) ∙ after.other i row h (omega arith) a

  -- the numbers of an equation that isn't the pivot's
  pub turned : (i : ℕ) → i ≤ p.rows → i ≢ row → (j : ℕ) → j ≤ right_column p → (form i (basis i) *ℤ form row col) *ℤ made i j ≡ made i (basis i) *ℤ (form row col *ℤ form i j -ℤ form i col *ℤ form row j)
  turned i h apart j b = turn (form row (basis row)) (form i (basis i)) (made i (basis i)) (made i (basis row)) (made i j) (form i j) (form i col) (form row col) (form row j) (basic.own row (omega arith)) (all j b) (without (form row (basis row)) ((form i (basis i) *ℤ made i (basis row)) *ℤ form row col) (form i (basis i)) (made i col) (made i (basis i)) (form i col) (gone i h apart) (all col (omega arith)))
    where
      at : (m : ℕ) → m ≤ p.rows → form row (basis row) *ℤ (form i (basis i) *ℤ made i (basis m) -ℤ made i (basis i) *ℤ form i (basis m)) -ℤ (form i (basis i) *ℤ made i (basis row)) *ℤ form row (basis m) ≡ pos 0
      at m q = ⊎_elim (λ (e : m ≡ row). second_zero (form row (basis row)) (form i (basis i)) (made i (basis i)) (made i (basis row)) (made i (basis m)) (form i (basis m)) (form row (basis m)) (basic.other i m h q (λ s. apart (s ∙ e))) (ap (λ z. made i (basis z)) e) (ap (λ z. form row (basis z)) e)) (λ (a : m ≢ row). both_zero (form row (basis row)) (form i (basis i) *ℤ made i (basis row)) (form i (basis i) *ℤ made i (basis m) -ℤ made i (basis i) *ℤ form i (basis m)) (form row (basis m)) (⊎_elim (λ (e : m ≡ i). rw e (crossed (form i (basis i)) (made i (basis i)))) (λ (c : m ≢ i). both_zero (form i (basis i)) (made i (basis i)) (made i (basis m)) (form i (basis m)) (stays i m h q a c) (basic.other i m h q (λ s. c (sym s)))) (cases_eq m i)) (basic.other row m (omega arith) q (λ s. a (sym s)))) (cases_eq m row)

      all : (k : ℕ) → k ≤ right_column p → form row (basis row) *ℤ (form i (basis i) *ℤ made i k -ℤ made i (basis i) *ℤ form i k) ≡ (form i (basis i) *ℤ made i (basis row)) *ℤ form row k
      all k q = equal_if (form row (basis row) *ℤ (form i (basis i) *ℤ made i k -ℤ made i (basis i) *ℤ form i k)) ((form i (basis i) *ℤ made i (basis row)) *ℤ form row k) (determined p basis form basic (λ c. form row (basis row) *ℤ (form i (basis i) *ℤ made i c -ℤ made i (basis i) *ℤ form i c) -ℤ (form i (basis i) *ℤ made i (basis row)) *ℤ form row c) (mixed p (λ c. form i (basis i) *ℤ made i c -ℤ made i (basis i) *ℤ form i c) (form row) (form row (basis row)) (form i (basis i) *ℤ made i (basis row)) (mixed p (made i) (form i) (form i (basis i)) (made i (basis i)) (after.combination i h) (basic.combination i h)) (basic.combination row (omega arith))) at k q)

  -- the numbers of the pivot's equation
  pub turned_own : (j : ℕ) → j ≤ right_column p → form row col *ℤ made row j ≡ made row col *ℤ form row j
  turned_own j b = turn_own (form row (basis row)) (made row (basis row)) (made row j) (form row j) (made row col) (form row col) (basic.own row (omega arith)) (all j b) (all col (omega arith))
    where
      at : (m : ℕ) → m ≤ p.rows → form row (basis row) *ℤ made row (basis m) -ℤ made row (basis row) *ℤ form row (basis m) ≡ pos 0
      at m q = ⊎_elim (λ (e : m ≡ row). rw e (crossed (form row (basis row)) (made row (basis row)))) (λ (a : m ≢ row). both_zero (form row (basis row)) (made row (basis row)) (made row (basis m)) (form row (basis m)) (stays row m (omega arith) q a a) (basic.other row m (omega arith) q (λ s. a (sym s)))) (cases_eq m row)

      all : (k : ℕ) → k ≤ right_column p → form row (basis row) *ℤ made row k ≡ made row (basis row) *ℤ form row k
      all k q = equal_if (form row (basis row) *ℤ made row k) (made row (basis row) *ℤ form row k) (determined p basis form basic (λ c. form row (basis row) *ℤ made row c -ℤ made row (basis row) *ℤ form row c) (mixed p (made row) (form row) (form row (basis row)) (made row (basis row)) (after.combination row (omega arith)) (basic.combination row (omega arith))) at k q)

  -- own numbers after the exchange
  pub own_after : (i : ℕ) → i ≤ p.rows → i ≢ row → (pos 0) <ℤ made i (basis i)
  own_after i h a = rw (← exchange.1 i a) (after.own i h)

  pub own_here : (pos 0) <ℤ made row col
  own_here = rw (← exchange.0) (after.own row (omega arith))
