-- The equations of a program, as those of a program with one row more.
use Rattle.std.proofs.Common.{◌≡◌, ◌≢◌, ℕ, suc, ◌+◌, ◌-◌, ◌<◌, ◌≤◌, arith, refl, sym, ap, subst, ◌∙◌, ⊎_elim, ℤ, pos, ◌+ℤ◌, ◌-ℤ◌, ◌*ℤ◌, ◌<ℤ◌}
use Rattle.std.proofs.lemmas.Bool.{cases_eq, cases_lt}
use Rattle.std.proofs.lemmas.Bool.Decides.{nat_tests}
use Rattle.std.proofs.lemmas.Int.{ints}
use Rattle.zr_base.specs.Sums.{sum_to}
use Rattle.zr_base.proofs.Dense.{sum_to_same}
use Rattle.zr_base.proofs.Divisors.{mul_positive}
use Rattle.zr_basis.specs.Programs.{Program}
use Rattle.zr_basis.specs.BasicForms.{CombinesEquations, IsBasicForm, IsPrimitive}
use Rattle.zr_simplex.specs.RowSteps.{IsMixture, IsFirstEquation}
use Rattle.zr_simplex.specs.Appends.{IsExpressed, IsTakenOff, extended, first_rows}
use Rattle.zr_simplex.proofs.Begin.{row_combination}
use Rattle.zr_simplex.proofs.Pivots.{mixture_combination}

-- made is e with the number `own` at the slack column that has come in
pub record Extends (slack : ℕ) (e : ℕ → ℤ) (own : ℤ) (made : ℕ → ℤ) : Type 0 where
  pub below : (j : ℕ) → j < slack → made j ≡ e j
  pub here : made slack ≡ own
  pub value : made (slack + 1) ≡ e slack
  pub right : made (slack + 2) ≡ e (slack + 1)

module _ (slack : ℕ) (e : ℕ → ℤ) (own : ℤ) where
  extended_below : (j : ℕ) → j < slack → extended slack e own j ≡ e j
  extended_below j h = grind (arith, nat_tests)

  extended_here : extended slack e own slack ≡ own
  extended_here = grind (arith, nat_tests)

  extended_after : (j k : ℕ) → slack < j → j ≡ k + 1 → extended slack e own j ≡ e k
  extended_after j k h is = let s : j - 1 ≡ k = omega arith in grind (arith, nat_tests, s)

  pub extends : Extends slack e own (extended slack e own)
  extends = record {
    below = extended_below;
    here = extended_here;
    value = extended_after (slack + 1) slack (omega arith) refl;
    right = extended_after (slack + 2) (slack + 1) (omega arith) (omega arith);
  }

  -- what holds at each kind of column
  pub by_column : (P : ℕ → Type 0) → ((j : ℕ) → j < slack → P j) → P slack → P (slack + 1) → P (slack + 2) → (j : ℕ) → j < slack + 3 → P j
  by_column P below here value right j h = ⊎_elim (λ (a : j < slack). below j a) (λ (a : slack ≤ j). ⊎_elim (λ (b : j ≡ slack). subst P (sym b) here) (λ (b : j ≢ slack). ⊎_elim (λ (c : j ≡ slack + 1). subst P (sym c) value) (λ (c : j ≢ slack + 1). let s : j ≡ slack + 2 = omega arith in subst P (sym s) right) (cases_eq j (slack + 1))) (cases_eq j slack)) (cases_lt j slack)

combined : (made e s t v w z aim c : ℤ) → made ≡ e → s ≡ t → v ≡ w → z ≡ pos 0 → e ≡ t -ℤ w *ℤ aim → made ≡ s +ℤ z *ℤ c -ℤ v *ℤ aim
combined made e s t v w z aim c a b d f g =
    let x = ap (λ y. y *ℤ aim) d in
    let y = ap (λ y. y *ℤ c) f in
    omega (arith, ints, a, b, g, x, y)

combined_right : (made e s t z c : ℤ) → made ≡ e → s ≡ t → z ≡ pos 0 → e ≡ t → made ≡ s +ℤ z *ℤ c
combined_right made e s t z c a b d f =
    let y = ap (λ y. y *ℤ c) d in
    omega (arith, ints, a, b, f, y)

module _ (q : Program) (m : ℕ) (more : q.rows ≡ suc m) where
  abbrev p : Program
  p = first_rows q m

  abbrev slack : ℕ
  slack = q.columns + m

  at_value : q.columns + suc m ≡ q.columns + m + 1
  at_value = omega arith

  at_right : q.columns + suc m + 1 ≡ q.columns + m + 2
  at_right = omega arith

  -- an equation of the program without the row combines those of the one with it
  pub old_combination : (e made : ℕ → ℤ) → CombinesEquations (first_rows q m) e → Extends (q.columns + m) e (pos 0) made → CombinesEquations q made
  old_combination e made comb ext =
      let n = q.columns in
      let same : (a : ℕ → ℤ) → sum_to m (λ r. made (n + r) *ℤ a r) ≡ sum_to m (λ r. e (n + r) *ℤ a r) = λ a. sum_to_same m (λ r. made (n + r) *ℤ a r) (λ r. e (n + r) *ℤ a r) (λ r h. ap (λ z. z *ℤ a r) (ext.below (n + r) (omega (arith, h)))) in
      rw more (record {
        columns = λ j h. combined (made j) (e j) (sum_to m (λ r. made (n + r) *ℤ q.coef r j)) (sum_to m (λ r. e (n + r) *ℤ q.coef r j)) (made (n + suc m)) (e (n + m)) (made (n + m)) (q.aim j) (q.coef m j) (ext.below j (omega (arith, h))) (same (λ r. q.coef r j)) (ap made at_value ∙ ext.value) ext.here (comb.columns j h);
        right = combined_right (made (n + suc m + 1)) (e (n + m + 1)) (sum_to m (λ r. made (n + r) *ℤ q.le r)) (sum_to m (λ r. e (n + r) *ℤ q.le r)) (made (n + m)) (q.le m) (ap made at_right ∙ ext.right) (same q.le) ext.here comb.right;
      })

  module _ (basis next : ℕ → ℕ) (form made : ℕ → ℕ → ℤ) (basic : IsBasicForm (first_rows q m) basis form) (same : (i : ℕ) → i ≤ m → next i ≡ basis i) (last : next (suc m) ≡ q.columns + m + 1) (rows : (i : ℕ) → i < m → Extends (q.columns + m) (form i) (pos 0) (made i)) (value : Extends (q.columns + m) (form m) (pos 0) (made (suc m))) (combination : CombinesEquations q (made m)) (own : (pos 0) <ℤ made m (q.columns + m)) (cleared : (k : ℕ) → k < m → made m (basis k) ≡ pos 0) (no_value : made m (q.columns + m + 1) ≡ pos 0) (primitive : IsPrimitive (q.columns + m + 3) (made m)) where
    in_old : (k : ℕ) → k < m → basis k < q.columns + m
    in_old k h = basic.columns k h

    primitive_old : (e f : ℕ → ℤ) → Extends (q.columns + m) e (pos 0) f → IsPrimitive (q.columns + m + 2) e → IsPrimitive (q.columns + m + 3) f
    primitive_old e f ext red d all =
        red d (λ j h. ⊎_elim (λ (a : j < q.columns + m). rw (← ext.below j a) (all j (omega arith))) (λ (a : q.columns + m ≤ j). ⊎_elim (λ (b : j ≡ q.columns + m). rw (b, ← ext.value) (all (q.columns + m + 1) (omega arith))) (λ (b : j ≢ q.columns + m). let s : j ≡ q.columns + m + 1 = omega arith in rw (s, ← ext.right) (all (q.columns + m + 2) (omega arith))) (cases_eq j (q.columns + m))) (cases_lt j (q.columns + m)))

    -- the number of an old equation at a column of the next basis
    old_zero : (e f : ℕ → ℤ) → Extends (q.columns + m) e (pos 0) f → (k : ℕ) → k ≤ suc m → (k < m → e (basis k) ≡ pos 0) → (k ≡ suc m → e (q.columns + m) ≡ pos 0) → f (next k) ≡ pos 0
    old_zero e f ext k h inner outer = ⊎_elim (λ (a : k < m). rw (same k (omega arith), ext.below (basis k) (in_old k a)) (inner a)) (λ (a : m ≤ k). ⊎_elim (λ (b : k ≡ m). rw (b, same m (omega arith), basic.value) ext.here) (λ (b : k ≢ m). let s : k ≡ suc m = omega arith in rw (s, last, ext.value) (outer s)) (cases_eq k m)) (cases_lt k m)

    row_zero : (i : ℕ) → i < m → (k : ℕ) → k ≤ suc m → i ≢ k → made i (next k) ≡ pos 0
    row_zero i h k q apart =
        old_zero (form i) (made i) (rows i h) k q (λ a. basic.other i k (omega arith) (omega arith) apart) (λ s. ap (form i) (sym basic.value) ∙ basic.other i m (omega arith) (omega arith) (λ e. omega (arith, e, h)))

    new_zero : (k : ℕ) → k ≤ suc m → m ≢ k → made m (next k) ≡ pos 0
    new_zero k h apart = ⊎_elim (λ (a : k < m). rw (same k (omega arith)) (cleared k a)) (λ (a : m ≤ k). let s : k ≡ suc m = omega (arith, apart) in rw (s, last) no_value) (cases_lt k m)

    value_zero : (k : ℕ) → k ≤ suc m → suc m ≢ k → made (suc m) (next k) ≡ pos 0
    value_zero k h apart =
        old_zero (form m) (made (suc m)) value k h (λ a. basic.other m k (omega arith) (omega arith) (λ e. omega (arith, e, a))) (λ s. absurd (apart (sym s)))

    -- what holds for the rows, for the new one, and for the value
    each : (P : ℕ → Type 0) → ((i : ℕ) → i < m → P i) → P m → P (suc m) → (i : ℕ) → i ≤ suc m → P i
    each P first new end i h = ⊎_elim (λ (a : i < m). first i a) (λ (a : m ≤ i). ⊎_elim (λ (b : i ≡ m). subst P (sym b) new) (λ (b : i ≢ m). let s : i ≡ suc m = omega arith in subst P (sym s) end) (cases_eq i m)) (cases_lt i m)

    columns_of : (i : ℕ) → i < suc m → next i < q.columns + suc m
    columns_of i h = ⊎_elim (λ (a : i < m). rw (same i (omega arith)) (let b = in_old i a in omega (arith, b))) (λ (a : m ≤ i). let s : i ≡ m = omega arith in rw (s, same m (omega arith)) (let v = basic.value in omega (arith, v))) (cases_lt i m)

    pub enlarged : IsBasicForm q next made
    enlarged =
        let long : q.columns + q.rows + 2 ≡ q.columns + m + 3 = omega (arith, more) in
        let combinations = each (λ i. CombinesEquations q (made i)) (λ i h. old_combination (form i) (made i) (basic.combination i (omega arith)) (rows i h)) combination (old_combination (form m) (made (suc m)) (basic.combination m (omega arith)) value) in
        let owns = each (λ i. (pos 0) <ℤ made i (next i)) (λ i h. rw (same i (omega arith), (rows i h).below (basis i) (in_old i h)) (basic.own i (omega arith))) (rw (same m (omega arith), basic.value) own) (rw (last, value.value, ← basic.value) (basic.own m (omega arith))) in
        let all_primitive = each (λ i. IsPrimitive (q.columns + m + 3) (made i)) (λ i h. primitive_old (form i) (made i) (rows i h) (basic.primitive i (omega arith))) primitive (primitive_old (form m) (made (suc m)) value (basic.primitive m (omega arith))) in
        record {
          columns = λ i h. let b = columns_of i (omega (arith, h, more)) in omega (arith, b, more);
          value = ap next more ∙ last ∙ omega (arith, more);
          combination = λ i h. combinations i (omega (arith, h, more));
          own = λ i h. owns i (omega (arith, h, more));
          other = λ i k h r apart. each (λ i. i ≢ k → made i (next k) ≡ pos 0) (λ i b. row_zero i b k (omega (arith, r, more))) (new_zero k (omega (arith, r, more))) (value_zero k (omega (arith, r, more))) i (omega (arith, h, more)) apart;
          primitive = λ i h. rw long (all_primitive i (omega (arith, h, more)));
        }

  -- the row itself over the columns of the program with it
  pub raw_start : (u : ℕ → ℤ) → IsFirstEquation q.columns (q.columns + m) (q.columns + m + 2) (q.coef m) (q.le m) u → IsFirstEquation q.columns (q.columns + q.rows) (q.columns + m) (q.coef m) (q.le m) (extended (q.columns + m) u (u (q.columns + m + 2)))
  raw_start u start =
      let ext = extends (q.columns + m) u (u (q.columns + m + 2)) in
      let made = extended (q.columns + m) u (u (q.columns + m + 2)) in
      let end : q.columns + q.rows + 1 ≡ q.columns + m + 2 = omega (arith, more) in
      record {
        coefs = λ j h. ext.below j (omega (arith, h)) ∙ start.coefs j h;
        one = ext.here ∙ start.one;
        right = ap made end ∙ ext.right ∙ start.right;
        zeros = λ j a b other. ⊎_elim (λ (c : j < q.columns + m). ext.below j c ∙ start.zeros j a (omega (arith, c)) (λ e. omega (arith, e, c))) (λ (c : q.columns + m ≤ j). let e : j ≡ q.columns + m + 1 = omega (arith, b, more, other) in ap made e ∙ ext.value ∙ start.zeros (q.columns + m) (omega arith) (omega arith) (λ s. omega (arith, s))) (cases_lt j (q.columns + m));
      }

  -- the row itself, before a column is cleared
  module _ (u : ℕ → ℤ) (start : IsFirstEquation q.columns (q.columns + q.rows) (q.columns + m) (q.coef m) (q.le m) (extended (q.columns + m) u (u (q.columns + m + 2)))) where
    in_rows : m < q.rows
    in_rows = omega (arith, more)

    pub expressed_first : (basis : ℕ → ℕ) (form : ℕ → ℕ → ℤ) → u (q.columns + m + 2) ≡ pos 1 → u (q.columns + m) ≡ pos 0 → IsExpressed q m 0 basis form u
    expressed_first basis form one value = record {
      combination = row_combination q m in_rows (extended (q.columns + m) u (u (q.columns + m + 2))) start;
      own = rw one (omega (arith, ints));
      value = value;
      cleared = λ k h. absurd (omega arith);
    }

  -- one column more is cleared
  module _ (basis : ℕ → ℕ) (form : ℕ → ℕ → ℤ) (basic : IsBasicForm (first_rows q m) basis form) (i : ℕ) (row : i < m) (u v : ℕ → ℤ) (expressed : IsExpressed q m i basis form u) (taken : IsTakenOff (q.columns + m + 2) (form i) u v) where
    abbrev before : ℕ → ℤ
    before = extended (q.columns + m) u (u (q.columns + m + 2))

    abbrev off : ℕ → ℤ
    off = extended (q.columns + m) (form i) (pos 0)

    abbrev after : ℕ → ℤ
    after = extended (q.columns + m) v (v (q.columns + m + 2))

    step : (j : ℕ) → j < q.columns + m + 3 → after j *ℤ pos 1 ≡ taken.by *ℤ before j -ℤ taken.less *ℤ off j
    step =
        let b = extends (q.columns + m) u (u (q.columns + m + 2)) in
        let o = extends (q.columns + m) (form i) (pos 0) in
        let a = extends (q.columns + m) v (v (q.columns + m + 2)) in
        by_column (q.columns + m) u (pos 0) (λ j. after j *ℤ pos 1 ≡ taken.by *ℤ before j -ℤ taken.less *ℤ off j) (λ j h. rw (a.below j h, b.below j h, o.below j h) (let t = taken.numbers j (omega arith) in omega (arith, ints, t))) (rw (a.here, b.here, o.here) (let t = taken.own in omega (arith, ints, t))) (rw (a.value, b.value, o.value) (let t = taken.numbers (q.columns + m) (omega arith) in omega (arith, ints, t))) (rw (a.right, b.right, o.right) (let t = taken.numbers (q.columns + m + 1) (omega arith) in omega (arith, ints, t)))

    mixture : IsMixture (q.columns + q.rows + 2) before off after
    mixture = record {
      by = taken.by;
      less = taken.less;
      over = pos 1;
      by_apart = λ e. (let a = taken.above in omega (arith, ints, a, e));
      over_apart = λ e. cc;
      numbers = λ j h. step j (omega (arith, h, more));
    }

    in_width : (k : ℕ) → k < m → basis k < q.columns + m + 2
    in_width k h = let b = basic.columns k h in omega (arith, b)

    zero_mix : (a c : ℤ) → a ≡ pos 0 → c ≡ pos 0 → taken.by *ℤ a -ℤ taken.less *ℤ c ≡ pos 0
    zero_mix a c e f = rw (e, f) (omega (arith, ints))

    pub expressed_more : v (basis i) ≡ pos 0 → IsExpressed q m (i + 1) basis form v
    expressed_more zero = record {
      combination = mixture_combination q before off after mixture expressed.combination (old_combination (form i) off (basic.combination i (omega arith)) (extends (q.columns + m) (form i) (pos 0)));
      own = rw taken.own (mul_positive taken.by (u (q.columns + m + 2)) taken.above expressed.own);
      value = taken.numbers (q.columns + m) (omega arith) ∙ zero_mix (u (q.columns + m)) (form i (q.columns + m)) expressed.value (ap (form i) (sym basic.value) ∙ basic.other i m (omega arith) (omega arith) (λ e. omega (arith, e, row)));
      cleared = λ k h. ⊎_elim (λ (e : k ≡ i). rw e zero) (λ (a : k ≢ i). taken.numbers (basis k) (in_width k (omega arith)) ∙ zero_mix (u (basis k)) (form i (basis k)) (expressed.cleared k (omega arith)) (basic.other i k (omega arith) (omega arith) (λ e. a (sym e)))) (cases_eq k i);
    }
