-- The columns of a basis determine its form.
use Rattle.std.proofs.Common.{◌≡◌, ◌≢◌, ℕ, zero, suc, ◌+◌, ◌-◌, ◌<◌, ◌≤◌, arith, refl, sym, ap, ◌∙◌, ℤ, pos, ◌+ℤ◌, ◌-ℤ◌, ◌*ℤ◌, ◌<ℤ◌, ◌⊎◌, inl, inr, ⊎_elim}
use Rattle.std.proofs.lemmas.Int.{ints}
use Rattle.std.proofs.lemmas.Bool.{cases_eq}
use Rattle.std.proofs.Math.IntN.{*ℤ_comm}
use Rattle.zr_base.proofs.Ring.{spread}
use Rattle.zr_base.specs.Sums.{sum_to}
use Rattle.zr_base.proofs.Dense.{sum_to_same, sum_to_zero}
use Rattle.zr_basis.specs.Programs.{Program}
use Rattle.zr_basis.specs.BasicForms.{value_column, right_column, CombinesEquations, IsBasicForm}
use Rattle.zr_basis.specs.Stages.{Determines}
use Rattle.zr_basis.proofs.Among.{HaveSameColumns}
use Rattle.zr_basis.proofs.Signs.{side, sign, above_apart, zero_beside, times_zero}

step : (s t u x y c a b : ℤ) → s ≡ a *ℤ t -ℤ b *ℤ u → s +ℤ (a *ℤ x -ℤ b *ℤ y) *ℤ c ≡ a *ℤ (t +ℤ x *ℤ c) -ℤ b *ℤ (u +ℤ y *ℤ c)
step s t u x y c a b e = simp spread (omega (arith, ints, e))

pub mixed_sum : (n : ℕ) (u v c : ℕ → ℤ) (a b : ℤ) → sum_to n (λ r. (a *ℤ u r -ℤ b *ℤ v r) *ℤ c r) ≡ a *ℤ sum_to n (λ r. u r *ℤ c r) -ℤ b *ℤ sum_to n (λ r. v r *ℤ c r)
mixed_sum zero u v c a b = omega (arith, ints)
mixed_sum (suc n) u v c a b =
    step (sum_to n (λ r. (a *ℤ u r -ℤ b *ℤ v r) *ℤ c r)) (sum_to n (λ r. u r *ℤ c r)) (sum_to n (λ r. v r *ℤ c r)) (u n) (v n) (c n) a b (mixed_sum n u v c a b)

mixed_column : (e f s t u ev fv m a b : ℤ) → e ≡ t -ℤ ev *ℤ m → f ≡ u -ℤ fv *ℤ m → s ≡ a *ℤ t -ℤ b *ℤ u → a *ℤ e -ℤ b *ℤ f ≡ s -ℤ (a *ℤ ev -ℤ b *ℤ fv) *ℤ m
mixed_column e f s t u ev fv m a b h i j = rw (h, i, j) (simp spread (omega (arith, ints)))

mixed_right : (e f s t u a b : ℤ) → e ≡ t → f ≡ u → s ≡ a *ℤ t -ℤ b *ℤ u → a *ℤ e -ℤ b *ℤ f ≡ s
mixed_right e f s t u a b h i j = rw (h, i, j) refl

-- multiples and differences of combinations are combinations
pub mixed : (p : Program) (e f : ℕ → ℤ) (a b : ℤ) → CombinesEquations p e → CombinesEquations p f → CombinesEquations p (λ j. a *ℤ e j -ℤ b *ℤ f j)
mixed p e f a b ce cf =
    let n = p.columns in
    record {
      columns = λ j h. mixed_column (e j) (f j) (sum_to p.rows (λ r. (a *ℤ e (n + r) -ℤ b *ℤ f (n + r)) *ℤ p.coef r j)) (sum_to p.rows (λ r. e (n + r) *ℤ p.coef r j)) (sum_to p.rows (λ r. f (n + r) *ℤ p.coef r j)) (e (value_column p)) (f (value_column p)) (p.aim j) a b (ce.columns j h) (cf.columns j h) (mixed_sum p.rows (λ r. e (n + r)) (λ r. f (n + r)) (λ r. p.coef r j) a b);
      right = mixed_right (e (right_column p)) (f (right_column p)) (sum_to p.rows (λ r. (a *ℤ e (n + r) -ℤ b *ℤ f (n + r)) *ℤ p.le r)) (sum_to p.rows (λ r. e (n + r) *ℤ p.le r)) (sum_to p.rows (λ r. f (n + r) *ℤ p.le r)) a b ce.right cf.right (mixed_sum p.rows (λ r. e (n + r)) (λ r. f (n + r)) p.le a b);
    }

all_zero : (n : ℕ) (u c : ℕ → ℤ) → ((r : ℕ) → r < n → u r ≡ pos 0) → sum_to n (λ r. u r *ℤ c r) ≡ pos 0
all_zero n u c none = sum_to_same n (λ r. u r *ℤ c r) (λ r. pos 0) (λ r h. ap (λ z. z *ℤ c r) (none r h) ∙ omega (arith, ints)) ∙ sum_to_zero n

-- the slacks and the value determine the equations
pub slacks_determine : (p : Program) (basis : ℕ → ℕ) → ((i : ℕ) → i ≤ p.rows → basis i ≡ p.columns + i) → Determines p basis
slacks_determine p basis slacks e combines none j h = ⊎_elim (λ (b : j < p.columns). left b) (λ (b : p.columns ≤ j). ⊎_elim (λ (c : j < right_column p). let d : j ≡ p.columns + (j - p.columns) = omega arith in ap e d ∙ at (j - p.columns) (omega arith)) (λ (c : right_column p ≤ j). let d : j ≡ right_column p = omega arith in ap e d ∙ combines.right ∙ all_zero p.rows (λ r. e (p.columns + r)) p.le (λ r q. at r (omega arith))) (side j (right_column p))) (side j p.columns)
  where
    at : (i : ℕ) → i ≤ p.rows → e (p.columns + i) ≡ pos 0
    at i q = ap e (sym (slacks i q)) ∙ none i q

    left : j < p.columns → e j ≡ pos 0
    left b =
        let s = all_zero p.rows (λ r. e (p.columns + r)) (λ r. p.coef r j) (λ r q. at r (omega arith)) in
        let v = ap (λ z. z *ℤ p.aim j) (at p.rows (omega arith)) in
        let c = combines.columns j b in
        omega (arith, ints, s, v, c)

pub both_zero : (a b x y : ℤ) → x ≡ pos 0 → y ≡ pos 0 → a *ℤ x -ℤ b *ℤ y ≡ pos 0
both_zero a b x y h i = rw (h, i) (omega (arith, ints))

pub crossed : (a x : ℤ) → a *ℤ x -ℤ x *ℤ a ≡ pos 0
crossed a x = let c = *ℤ_comm a x in omega (arith, ints, c)

take_second : (a b x y : ℤ) → x ≡ pos 0 → a *ℤ x -ℤ b *ℤ y ≡ pos 0 → b *ℤ y ≡ pos 0
take_second a b x y h e =
    let t = ap (λ z. a *ℤ z) h in
    let u = times_zero a in
    omega (arith, ints, t, u, e)

pub equal_if : (x y : ℤ) → x -ℤ y ≡ pos 0 → x ≡ y
equal_if x y e = omega (arith, ints, e)

zero_or : (z : ℤ) → (z ≡ pos 0) ⊎ (z ≢ pos 0)
zero_or z = ⊎_elim (λ (a : (pos 0) <ℤ z). inr (above_apart z a)) (λ (r : (z ≡ pos 0) ⊎ (z <ℤ (pos 0))).
    ⊎_elim (λ (e : z ≡ pos 0). inl e) (λ (b : z <ℤ (pos 0)). inr (λ e. omega (arith, ints, b, e))) r) (sign z)

-- one of the first n numbers isn't zero, or all are
apart_or : (n : ℕ) (f : ℕ → ℤ) → ((q : ℕ) × (q < n) × (f q ≢ pos 0)) ⊎ ((i : ℕ) → i < n → f i ≡ pos 0)
apart_or zero f = inr (λ i h. absurd (omega arith))
apart_or (suc n) f = ⊎_elim (λ (found : (q : ℕ) × (q < n) × (f q ≢ pos 0)).
    inl (found.0, omega (arith, found.1), found.2)) (λ (all : (i : ℕ) → i < n → f i ≡ pos 0).
    ⊎_elim (λ (z : f n ≡ pos 0). inr (λ i h. ⊎_elim (λ (s : i ≡ n). ap f s ∙ z)
    (λ (a : i ≢ n). all i (omega arith)) (cases_eq i n))) (λ (a : f n ≢ pos 0).
    inl (n, omega arith, a)) (zero_or (f n))) (apart_or n f)

-- the numbers but q, one after the other
abbrev but : ℕ → ℕ → ℕ
but zero i = suc i
but (suc q) zero = zero
but (suc q) (suc i) = suc (but q i)

but_apart : (q i : ℕ) → but q i ≢ q
but_apart zero i e = omega (arith, e)
but_apart (suc q) zero e = omega (arith, e)
but_apart (suc q) (suc i) e = but_apart q i (omega (arith, e))

but_below : (q i n : ℕ) → i < n → but q i < suc n
but_below zero i n h = omega (arith, h)
but_below (suc q) zero n h = omega arith
but_below (suc q) (suc i) zero h = absurd (omega (arith, h))
but_below (suc q) (suc i) (suc n) h = let b = but_below q i n (omega (arith, h)) in omega (arith, b)

but_once : (q i k : ℕ) → but q i ≡ but q k → i ≡ k
but_once zero i k e = omega (arith, e)
but_once (suc q) zero zero e = refl
but_once (suc q) zero (suc k) e = absurd (omega (arith, e))
but_once (suc q) (suc i) zero e = absurd (omega (arith, e))
but_once (suc q) (suc i) (suc k) e = ap suc (but_once q i k (omega (arith, e)))

product_apart : (a b : ℤ) → a ≢ pos 0 → b ≢ pos 0 → a *ℤ b ≢ pos 0
product_apart a b h q e = q (zero_beside b a h (*ℤ_comm b a ∙ e))

less_nothing : (a b x y : ℤ) → y ≡ pos 0 → a *ℤ x -ℤ b *ℤ y ≡ a *ℤ x
less_nothing a b x y h = let t = ap (λ z. b *ℤ z) h in let u = times_zero b in omega (arith, ints, t, u)

-- f, less so much of g that it is zero at s
abbrev pub cleared : (ℕ → ℤ) → ℕ → (ℕ → ℤ) → ℕ → ℤ
cleared g s f k = g s *ℤ f k -ℤ f s *ℤ g k

module _ (p : Program) where
  -- the multipliers of the rows from n on, and of the value, are zero
  abbrev IsUpTo : ℕ → (ℕ → ℤ) → Type 0
  IsUpTo n e = (r : ℕ) → n ≤ r → r ≤ p.rows → e (p.columns + r) ≡ pos 0

  -- g has an equation for each of n columns: it isn't zero there, and zero at the others
  record AreApart (n : ℕ) (columns : ℕ → ℕ) (g : ℕ → ℕ → ℤ) : Type 0 where
    inside : (i : ℕ) → i < n → columns i ≤ right_column p
    combination : (i : ℕ) → i < n → CombinesEquations p (g i)
    own : (i : ℕ) → i < n → g i (columns i) ≢ pos 0
    other : (i k : ℕ) → i < n → k < n → i ≢ k → g i (columns k) ≡ pos 0

  -- n equations of n columns, among combinations of n of the program's equations, leave none but zero that is zero at these columns
  abbrev LeaveNone : ℕ → Type 0
  LeaveNone n =
      (columns : ℕ → ℕ) (g : ℕ → ℕ → ℤ)
      → AreApart n columns g
      → ((i : ℕ) → i < n → IsUpTo n (g i))
      → (e : ℕ → ℤ)
      → CombinesEquations p e
      → IsUpTo n e
      → ((k : ℕ) → k < n → e (columns k) ≡ pos 0)
      → (j : ℕ)
      → j ≤ right_column p
      → e j ≡ pos 0

  one_more : (n : ℕ) → n ≤ p.rows → LeaveNone n → LeaveNone (suc n)
  one_more n bound before columns g apart low e combines up none j h = ⊎_elim with_pivot (λ (all : (i : ℕ) → i < suc n → g i (p.columns + n) ≡ pos 0). absurd (without all)) (apart_or (suc n) (λ i. g i (p.columns + n)))
    where
      lower : (f : ℕ → ℤ) → IsUpTo (suc n) f → f (p.columns + n) ≡ pos 0 → IsUpTo n f
      lower f above here r q b = ⊎_elim (λ (s : r ≡ n). ap (λ z. f (p.columns + z)) s ∙ here) (λ (a : r ≢ n). above r (omega (arith, q, a)) b) (cases_eq r n)

      without : ((i : ℕ) → i < suc n → g i (p.columns + n) ≡ pos 0) → ⊥
      without all = apart.own n (omega arith) (before columns g (record { inside = λ i q. apart.inside i (omega (arith, q)); combination = λ i q. apart.combination i (omega (arith, q)); own = λ i q. apart.own i (omega (arith, q)); other = λ i k q b. apart.other i k (omega (arith, q)) (omega (arith, b)) }) (λ i q. lower (g i) (low i (omega (arith, q))) (all i (omega (arith, q)))) (g n) (apart.combination n (omega arith)) (lower (g n) (low n (omega arith)) (all n (omega arith))) (λ k q. apart.other n k (omega arith) (omega (arith, q)) (λ (s : n ≡ k). omega (arith, s, q))) (columns n) (apart.inside n (omega arith)))

      with_pivot : (q : ℕ) × (q < suc n) × (g q (p.columns + n) ≢ pos 0) → e j ≡ pos 0
      with_pivot (q, inside, pivot) = zero_beside (e j) (g q s) pivot (*ℤ_comm (e j) (g q s) ∙ sym (take_off j) ∙ gone j h)
        where
          s : ℕ
          s = p.columns + n

          cleared_combines : (f : ℕ → ℤ) → CombinesEquations p f → CombinesEquations p (cleared (g q) s f)
          cleared_combines f c = mixed p f (g q) (g q s) (f s) c (apart.combination q inside)

          cleared_up : (f : ℕ → ℤ) → IsUpTo (suc n) f → IsUpTo n (cleared (g q) s f)
          cleared_up f above r a b = ⊎_elim (λ (t : r ≡ n). rw t (crossed (g q (p.columns + n)) (f (p.columns + n)))) (λ (t : r ≢ n). both_zero (g q s) (f s) (f (p.columns + r)) (g q (p.columns + r)) (above r (omega (arith, a, t)) b) (low q inside r (omega (arith, a, t)) b)) (cases_eq r n)

          at_other : (f : ℕ → ℤ) (k : ℕ) → g q k ≡ pos 0 → cleared (g q) s f k ≡ g q s *ℤ f k
          at_other f k z = less_nothing (g q s) (f s) (f k) (g q k) z

          zero_at : (i k : ℕ) → i < n → k < n → i ≢ k → cleared (g q) s (g (but q i)) (columns (but q k)) ≡ pos 0
          zero_at i k a b c = both_zero (g q s) (g (but q i) s) (g (but q i) (columns (but q k))) (g q (columns (but q k))) (apart.other (but q i) (but q k) (but_below q i n a) (but_below q k n b) (λ t. c (but_once q i k t))) (apart.other q (but q k) inside (but_below q k n b) (λ t. but_apart q k (sym t)))

          gone : (k : ℕ) → k ≤ right_column p → cleared (g q) s e k ≡ pos 0
          gone = before (λ i. columns (but q i)) (λ i. cleared (g q) s (g (but q i))) (record { inside = λ i a. apart.inside (but q i) (but_below q i n a); combination = λ i a. cleared_combines (g (but q i)) (apart.combination (but q i) (but_below q i n a)); own = λ i a z. product_apart (g q s) (g (but q i) (columns (but q i))) pivot (apart.own (but q i) (but_below q i n a)) (sym (at_other (g (but q i)) (columns (but q i)) (apart.other q (but q i) inside (but_below q i n a) (λ t. but_apart q i (sym t)))) ∙ z); other = λ i k a b c. zero_at i k a b c }) (λ i a. cleared_up (g (but q i)) (low (but q i) (but_below q i n a))) (cleared (g q) s e) (cleared_combines e combines) (cleared_up e up) (λ k a. both (columns (but q k)) (none (but q k) (but_below q k n a)) (apart.other q (but q k) inside (but_below q k n a) (λ t. but_apart q k (sym t))))
            where
              both : (k : ℕ) → e k ≡ pos 0 → g q k ≡ pos 0 → cleared (g q) s e k ≡ pos 0
              both k a b = both_zero (g q s) (e s) (e k) (g q k) a b

          here : e s ≡ pos 0
          here = zero_beside (e s) (g q (columns q)) (apart.own q inside) (take_second (g q s) (e s) (e (columns q)) (g q (columns q)) (none q inside) (gone (columns q) (apart.inside q inside)))

          take_off : (k : ℕ) → cleared (g q) s e k ≡ g q s *ℤ e k
          take_off k = let t = ap (λ z. z *ℤ g q k) here in omega (arith, ints, t)

  none_left : (n : ℕ) → n ≤ p.rows + 1 → LeaveNone n
  none_left zero bound = λ columns g apart low e combines up none. slacks_determine p (λ i. p.columns + i) (λ i q. refl) e combines (λ i q. up i (omega arith) q)
  none_left (suc n) bound = one_more n (omega (arith, bound)) (none_left n (omega (arith, bound)))

-- the columns of a basis determine the equations
pub determined : (p : Program) (basis : ℕ → ℕ) (form : ℕ → ℕ → ℤ) → IsBasicForm p basis form → Determines p basis
determined p basis form basic e combines none = none_left p (p.rows + 1) (omega arith) basis form (record { inside = λ i h. inside i h; combination = λ i h. basic.combination i (omega (arith, h)); own = λ i h. above_apart (form i (basis i)) (basic.own i (omega (arith, h))); other = λ i k h q. basic.other i k (omega (arith, h)) (omega (arith, q)) }) (λ i h r a b. absurd (omega (arith, a, b))) e combines (λ r a b. absurd (omega (arith, a, b))) (λ k h. none k (omega (arith, h)))
  where
    inside : (i : ℕ) → i < p.rows + 1 → basis i ≤ right_column p
    inside i h = ⊎_elim (λ (s : i ≡ p.rows). let v = ap basis s ∙ basic.value in omega (arith, v)) (λ (a : i ≢ p.rows). let c = basic.columns i (omega (arith, h, a)) in omega (arith, c)) (cases_eq i p.rows)

-- equations of the same column of two bases with the same columns are in proportion
pub in_proportion : (p : Program) (basis other : ℕ → ℕ) (form made : ℕ → ℕ → ℤ) → IsBasicForm p basis form → IsBasicForm p other made → HaveSameColumns p basis other → (i k : ℕ) → i ≤ p.rows → k ≤ p.rows → basis i ≡ other k → (j : ℕ) → j ≤ right_column p → made k (other k) *ℤ form i j ≡ form i (basis i) *ℤ made k j
in_proportion p basis other form made basic second same i k h q e j b = equal_if (made k (other k) *ℤ form i j) (form i (basis i) *ℤ made k j) (determined p basis form basic (λ c. made k (other k) *ℤ form i c -ℤ form i (basis i) *ℤ made k c) (mixed p (form i) (made k) (made k (other k)) (form i (basis i)) (basic.combination i h) (second.combination k q)) at j b)
  where
    here : made k (other k) *ℤ form i (basis i) -ℤ form i (basis i) *ℤ made k (basis i) ≡ pos 0
    here = rw e (crossed (made k (other k)) (form i (other k)))

    at : (m : ℕ) → m ≤ p.rows → made k (other k) *ℤ form i (basis m) -ℤ form i (basis i) *ℤ made k (basis m) ≡ pos 0
    at m l = ⊎_elim (λ (s : m ≡ i). rw s here) (λ (a : m ≢ i). both_zero (made k (other k)) (form i (basis i)) (form i (basis m)) (made k (basis m)) (basic.other i m h l (λ s. a (sym s))) (elsewhere m l a)) (cases_eq m i)
      where
        elsewhere : (m : ℕ) → m ≤ p.rows → m ≢ i → made k (basis m) ≡ pos 0
        elsewhere m l a =
            let o = same.0 m l in
            let apart : k ≢ o.0 = λ s. let own = basic.own i h in let none = basic.other i m h l (λ t. a (sym t)) in let t : basis m ≡ basis i = o.2 ∙ ap other (sym s) ∙ sym e in let u = ap (form i) t in omega (arith, ints, own, none, u) in
            ap (made k) o.2 ∙ second.other k o.0 q o.1 apart
