-- Of the two columns of a free unknown one is zero in a basic solution.
use Rattle.std.proofs.Common.{◌≡◌, ◌≢◌, ℕ, zero, suc, ◌+◌, ◌<◌, ◌≤◌, arith, refl, sym, ap, subst, ◌∙◌, ℤ, pos, neg_ℤ, ◌*ℤ◌, Bool, true, List, length, ◌⊎◌, ⊎_elim, inl, inr}
use Rattle.std.proofs.lemmas.Bool.{cases_eq}
use Rattle.std.proofs.lemmas.Int.{ints}
use Rattle.zr_base.specs.Sums.{sum_to}
use Rattle.zr_base.specs.Points.{PointOf, num_of}
use Rattle.zr_base.proofs.Ring.{neg-mul_right}
use Rattle.zr_lin.specs.Ineqs.{IneqOf, row_at}
use Rattle.zr_basis.specs.Programs.{Program}
use Rattle.zr_simplex.specs.Programs.{program_of}
use Rattle.zr_simplex.specs.declared.program.Lp.{Lp}
use Rattle.zr_basis.specs.BasicForms.{IsBasicForm, value_column}
use Rattle.zr_simplex.specs.Answers.{IsBasicPoint}
use Rattle.zr_choices.specs.Parted.{parted_rows, place}
use Rattle.zr_choices.specs.Asking.{Asks}
use Rattle.zr_choices.proofs.Places.{place_below, second_below}
use Rattle.zr_choices.proofs.AskedRows.{first_of, second_of, last_apart, lp_count}

pub find : (n : ℕ) (f : ℕ → ℕ) (j : ℕ) → ((i : ℕ) × (i < n) × (j ≡ f i))
    ⊎ ((i : ℕ) → i < n → j ≢ f i)
find zero f j = inr (λ i h. absurd (omega arith))
find (suc n) f j =
    ⊎_elim (λ (s : (i : ℕ) × (i < n) × (j ≡ f i)). inl
    (s.0, (let q = s.1 in omega (arith, q)), s.2))
    (λ (none : (i : ℕ) → i < n → j ≢ f i). ⊎_elim (λ (e : j ≡ f n). inl (n, omega arith, e))
    (λ (c : j ≢ f n). inr (λ i h e. ⊎_elim (λ (s : i ≡ n). c (e ∙ ap f s))
    (λ (d : i ≢ n). none i (omega (arith, h, d)) e) (cases_eq i n))) (cases_eq j (f n)))
    (find n f j)

neg_sum : (n : ℕ) (e a b : ℕ → ℤ) → ((r : ℕ) → r < n → b r ≡ neg_ℤ (a r))
    → sum_to n (λ r. e r *ℤ b r) ≡ neg_ℤ (sum_to n (λ r. e r *ℤ a r))
neg_sum zero e a b h = refl
neg_sum (suc n) e a b h =
    let r = neg_sum n e a b (λ k p. h k (omega arith)) in
    let s = ap (λ z. e n *ℤ z) (h n (omega arith)) ∙ neg-mul_right (e n) (a n) in
    omega (arith, ints, r, s)

module _ (p : Program) (basis : ℕ → ℕ) (form : ℕ → ℕ → ℤ) (good : IsBasicForm p basis form)
    (j k : ℕ) (a : j < p.columns) (b : k < p.columns) (apart : j ≢ k)
    (opposite : (r : ℕ) → r < p.rows → p.coef r k ≡ neg_ℤ (p.coef r j))
    (aims : p.aim k ≡ neg_ℤ (p.aim j)) where
  turned : (i : ℕ) → i ≤ p.rows → form i k ≡ neg_ℤ (form i j)
  turned i h =
      let c = good.combination i h in
      let e = form i in
      let first = c.columns j a in
      let second = c.columns k b in
      let s = neg_sum p.rows (λ r. e (p.columns + r)) (λ r. p.coef r j)
      (λ r. p.coef r k) opposite in
      let m = ap (λ z. e (value_column p) *ℤ z) aims
      ∙ neg-mul_right (e (value_column p)) (p.aim j) in
      omega (arith, ints, first, second, s, m)

  not_both : (i l : ℕ) → i < p.rows → l < p.rows → j ≡ basis i → k ≡ basis l → ⊥
  not_both i l h g e f =
      let own = good.own i (omega (arith, h)) in
      let differ : i ≢ l = λ s. apart (e ∙ ap basis s ∙ sym f) in
      let other : form i k ≡ pos 0 = ap (form i) f
      ∙ good.other i l (omega (arith, h)) (omega (arith, g)) differ in
      let mine : form i j ≡ form i (basis i) = ap (form i) e in
      let t = turned i (omega (arith, h)) in
      omega (arith, ints, own, other, mine, t)

  pub one_is_zero : (x : PointOf) → IsBasicPoint p basis form x → (num_of x j ≡ pos 0)
      ⊎ (num_of x k ≡ pos 0)
  one_is_zero x of =
      ⊎_elim (λ (s : (i : ℕ) × (i < p.rows) × (j ≡ basis i)). ⊎_elim
      (λ (t : (i : ℕ) × (i < p.rows) × (k ≡ basis i)). absurd
      (not_both s.0 t.0 s.1 t.1 s.2 t.2)) (λ (off : (i : ℕ) → i < p.rows → k ≢ basis i). inr
      (of.same k b ∙ of.solution.off k (omega (arith, b)) off)) (find p.rows basis k))
      (λ (off : (i : ℕ) → i < p.rows → j ≢ basis i). inl
      (of.same j a ∙ of.solution.off j (omega (arith, a)) off)) (find p.rows basis j)

-- the two columns of a free unknown, in the program that asks
module _ (free : ℕ → Bool) (n : ℕ) (rows : List IneqOf) (lp : Lp) (asks : Asks free n rows lp)
    (j : ℕ) (h : j < n) (is : free j ≡ true) where
  asked_coef : (r c : ℕ) → (program_of lp).coef r c ≡ (row_at (parted_rows free n rows) r).coef c
  asked_coef r c = ap (λ (rs : List IneqOf). (row_at rs r).coef c) asks.parts

  halves : (r : ℕ) → r < length lp.rows.items → (program_of lp).coef r (place free j + 1)
      ≡ neg_ℤ ((program_of lp).coef r (place free j))
  halves r q =
      asked_coef r (place free j + 1) ∙ ⊎_elim (λ (e : r ≡ length rows). last e)
      (λ (c : r ≢ length rows). before (let m = lp_count free n rows lp asks in omega
      (arith, q, m, c))) (cases_eq r (length rows))
      ∙ sym (ap neg_ℤ (asked_coef r (place free j)))
    where
      before : r < length rows → (row_at (parted_rows free n rows) r).coef (place free j + 1)
          ≡ neg_ℤ ((row_at (parted_rows free n rows) r).coef (place free j))
      before b = second_of free n rows r b j h is ∙ ap neg_ℤ (sym (first_of free n rows r b j h))

      last : r ≡ length rows → (row_at (parted_rows free n rows) r).coef (place free j + 1)
          ≡ neg_ℤ ((row_at (parted_rows free n rows) r).coef (place free j))
      last e =
          let z = last_apart free n rows (place free j) (place_below free j n h) in
          let o = last_apart free n rows (place free j + 1) (second_below free j n h is) in
          subst (λ (m : ℕ). (row_at (parted_rows free n rows) m).coef (place free j + 1)
          ≡ neg_ℤ ((row_at (parted_rows free n rows) m).coef (place free j))) (sym e)
          (omega (arith, ints, z, o))

  pub half_is_zero : (basis : ℕ → ℕ) (form : ℕ → ℕ → ℤ) (x : PointOf)
      → IsBasicForm (program_of lp) basis form → IsBasicPoint (program_of lp) basis form x
      → (num_of x (place free j) ≡ pos 0) ⊎ (num_of x (place free j + 1) ≡ pos 0)
  half_is_zero basis form x good of =
      let s = second_below free j n h is in
      let w = asks.width in
      one_is_zero (program_of lp) basis form good (place free j) (place free j + 1)
      (omega (arith, s, w)) (omega (arith, s, w)) (λ e. omega (arith, e)) halves
      (let p = asks.aim (place free j) (omega (arith, s)) in let q = asks.aim
      (place free j + 1) s in omega (arith, ints, p, q)) x of
