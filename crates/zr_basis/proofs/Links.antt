-- The dual rule goes by the numbers of the form.
use Rattle.std.proofs.Common.{◌≡◌, ◌≢◌, ℕ, suc, ◌<◌, ◌≤◌, arith, refl, sym, ap, subst, ◌∙◌, ℤ, pos, neg_ℤ, ◌-ℤ◌, ◌*ℤ◌, ◌<ℤ◌, ⊎_elim}
use Rattle.std.proofs.lemmas.Int.{ints}
use Rattle.std.proofs.lemmas.Bool.{cases_eq}
use Rattle.zr_base.proofs.Ring.{spread}
use Rattle.zr_base.proofs.Divisors.{mul_positive}
use Rattle.zr_basis.specs.Programs.{Program}
use Rattle.zr_basis.specs.BasicForms.{value_column, IsFree, IsBasicForm, IsBasicDirection}
use Rattle.zr_basis.specs.Orders.{Order, IsOrder, entry_at, in_order}
use Rattle.zr_basis.specs.Vectors.{IsLeading, IsLower}
use Rattle.zr_basis.specs.Dual.{IsDualDue, IsComparison, IsDualDueByNumbers}
use Rattle.zr_basis.proofs.Signs.{zero_factor, above_factor, times_zero}
use Rattle.zr_basis.proofs.Solved.{in_basis, direction}
use Rattle.zr_basis.proofs.Ordered.{direction_on, entry_before}

-- vectors whose numbers are in a proportion each
pub alike_leading : (n : ℕ) (u v : ℕ → ℤ) → ((k : ℕ) → k < n → (a : ℤ) × (b : ℤ) × ((pos 0) <ℤ a) × ((pos 0) <ℤ b) × (a *ℤ u k ≡ b *ℤ v k)) → IsLeading n v → IsLeading n u
alike_leading n u v each (k, h, before, above) = (k, h, (λ j q. zero_at j (before j q) (each j (omega arith))), above_at (each k h))
  where
    zero_at : (j : ℕ) → v j ≡ pos 0 → (a : ℤ) × (b : ℤ) × ((pos 0) <ℤ a) × ((pos 0) <ℤ b) × (a *ℤ u j ≡ b *ℤ v j) → u j ≡ pos 0
    zero_at j z (a, b, p, q, e) = zero_factor a (u j) p (e ∙ ap (λ y. b *ℤ y) z ∙ times_zero b)

    above_at : (a : ℤ) × (b : ℤ) × ((pos 0) <ℤ a) × ((pos 0) <ℤ b) × (a *ℤ u k ≡ b *ℤ v k) → (pos 0) <ℤ u k
    above_at (a, b, p, q, e) =
        above_factor a (u k) p (let m = mul_positive b (v k) q above in omega (arith, ints, e, m))

compared_on : (own x y fl fk d e rk rl : ℤ) → own *ℤ x ≡ neg_ℤ fl *ℤ d → own *ℤ y ≡ neg_ℤ fk *ℤ e → own *ℤ (x *ℤ (e *ℤ neg_ℤ rk) -ℤ y *ℤ (d *ℤ neg_ℤ rl)) ≡ (d *ℤ e) *ℤ (fl *ℤ rk -ℤ fk *ℤ rl)
compared_on own x y fl fk d e rk rl first second =
    let u = simp spread at (ap (λ z. z *ℤ (e *ℤ rk)) first) in
    let v = simp spread at (ap (λ z. z *ℤ (d *ℤ rl)) second) in
    simp spread (omega (arith, ints, u, v))

compared_first : (x y d e rk rl : ℤ) → x ≡ pos 0 → y ≡ e → pos 1 *ℤ (x *ℤ (e *ℤ neg_ℤ rk) -ℤ y *ℤ (d *ℤ neg_ℤ rl)) ≡ (d *ℤ e) *ℤ rl
compared_first x y d e rk rl h i =
    let z : pos 0 *ℤ (e *ℤ neg_ℤ rk) ≡ pos 0 = omega (arith, ints) in
    let t : (d *ℤ e) *ℤ rl ≡ neg_ℤ (e *ℤ (d *ℤ neg_ℤ rl)) = simp spread (omega (arith, ints)) in
    rw (h, i, t) (omega (arith, ints, z))

compared_second : (x y d e rk rl : ℤ) → x ≡ d → y ≡ pos 0 → pos 1 *ℤ (x *ℤ (e *ℤ neg_ℤ rk) -ℤ y *ℤ (d *ℤ neg_ℤ rl)) ≡ (d *ℤ e) *ℤ neg_ℤ rk
compared_second x y d e rk rl h i =
    let z : pos 0 *ℤ (d *ℤ neg_ℤ rl) ≡ pos 0 = omega (arith, ints) in
    let t : (d *ℤ e) *ℤ neg_ℤ rk ≡ d *ℤ (e *ℤ neg_ℤ rk) = simp spread refl in
    rw (h, i, t) (omega (arith, ints, z))

compared_off : (x y d e rk rl : ℤ) → x ≡ pos 0 → y ≡ pos 0 → pos 1 *ℤ (x *ℤ (e *ℤ neg_ℤ rk) -ℤ y *ℤ (d *ℤ neg_ℤ rl)) ≡ (d *ℤ e) *ℤ pos 0
compared_off x y d e rk rl h i =
    let z : pos 0 *ℤ (d *ℤ neg_ℤ rl) ≡ pos 0 = omega (arith, ints) in
    let t : pos 0 *ℤ (e *ℤ neg_ℤ rk) ≡ pos 0 = omega (arith, ints) in
    let s : (d *ℤ e) *ℤ pos 0 ≡ pos 0 = omega (arith, ints) in
    rw (h, i) (omega (arith, ints, z, t, s))

module _ (p : Program) (order : Order) (ordered : IsOrder p order) (basis : ℕ → ℕ) (form : ℕ → ℕ → ℤ) (basic : IsBasicForm p basis form) (row k l : ℕ) (apart : k ≢ l) (free_k : IsFree p basis k) (free_l : IsFree p basis l) (c : ℕ → ℤ) (compares : IsComparison p basis form row k l c) (y : ℕ → ℤ) (e : ℤ) (ray_k : IsBasicDirection p basis form k y e) (x : ℕ → ℤ) (d : ℤ) (ray_l : IsBasicDirection p basis form l x d) where
  gap : ℕ → ℤ
  gap j = entry_at p x j *ℤ (e *ℤ neg_ℤ (form row k)) -ℤ entry_at p y j *ℤ (d *ℤ neg_ℤ (form row l))

  both : (pos 0) <ℤ (d *ℤ e)
  both = mul_positive d e ray_l.positive ray_k.positive

  compared : (j : ℕ) → j ≤ value_column p → (a : ℤ) × (b : ℤ) × ((pos 0) <ℤ a) × ((pos 0) <ℤ b) × (a *ℤ gap j ≡ b *ℤ c j)
  unfolding gap
  compared j h = ⊎_elim (λ (g : (i : ℕ) × (i < suc p.rows) × (j ≡ basis i)). rw g.2 (form g.0 (basis g.0), d *ℤ e, basic.own g.0 (omega (arith, g.1)), both, compared_on (form g.0 (basis g.0)) (entry_at p x (basis g.0)) (entry_at p y (basis g.0)) (form g.0 l) (form g.0 k) d e (form row k) (form row l) (direction_on p basis form basic l free_l x d ray_l g.0 (omega (arith, g.1))) (direction_on p basis form basic k free_k y e ray_k g.0 (omega (arith, g.1))) ∙ ap (λ z. (d *ℤ e) *ℤ z) (sym (compares.on g.0 (omega (arith, g.1)))))) (λ (out : (i : ℕ) → i < suc p.rows → j ≢ basis i). off j (before out) (λ i q. out i (omega (arith, q)))) (in_basis basis (suc p.rows) j)
    where
      before : ((i : ℕ) → i < suc p.rows → j ≢ basis i) → j < value_column p
      before out = ⊎_elim (λ (s : j ≡ value_column p). absurd (out p.rows (omega arith) (s ∙ sym basic.value))) (λ (a : j ≢ value_column p). omega (arith, h, a)) (cases_eq j (value_column p))

      off : (j : ℕ) → j < value_column p → ((i : ℕ) → i < p.rows → j ≢ basis i) → (a : ℤ) × (b : ℤ) × ((pos 0) <ℤ a) × ((pos 0) <ℤ b) × (a *ℤ (entry_at p x j *ℤ (e *ℤ neg_ℤ (form row k)) -ℤ entry_at p y j *ℤ (d *ℤ neg_ℤ (form row l))) ≡ b *ℤ c j)
      off j h out = rw (entry_before p x j h, entry_before p y j h) (pos 1, d *ℤ e, omega (arith, ints), mul_positive d e ray_l.positive ray_k.positive, ⊎_elim (λ (s : j ≡ k). rw s (compared_first (x k) (y k) d e (form row k) (form row l) (ray_l.off k free_k.0 apart free_k.1) ray_k.raised ∙ ap (λ z. (d *ℤ e) *ℤ z) (sym compares.first))) (λ (a : j ≢ k). ⊎_elim (λ (s : j ≡ l). rw s (compared_second (x l) (y l) d e (form row k) (form row l) ray_l.raised (ray_k.off l free_l.0 (λ t. apart (sym t)) free_l.1) ∙ ap (λ z. (d *ℤ e) *ℤ z) (sym compares.second))) (λ (b : j ≢ l). compared_off (x j) (y j) d e (form row k) (form row l) (ray_l.off j h b out) (ray_k.off j h a out) ∙ ap (λ z. (d *ℤ e) *ℤ z) (sym (compares.off j h a b out))) (cases_eq j l)) (cases_eq j k))

  flipped : (u v : ℤ) → (a : ℤ) × (b : ℤ) × ((pos 0) <ℤ a) × ((pos 0) <ℤ b) × (a *ℤ u ≡ b *ℤ v) → (a : ℤ) × (b : ℤ) × ((pos 0) <ℤ a) × ((pos 0) <ℤ b) × (a *ℤ v ≡ b *ℤ u)
  flipped u v (a, b, p, q, e) = (b, a, q, p, sym e)

  -- the comparison decides between the directions
  pub lower_by_numbers : IsLower order.count (in_order p order y) (e *ℤ neg_ℤ (form row k)) (in_order p order x) (d *ℤ neg_ℤ (form row l)) → IsLeading order.count (λ m. c (order.column m))
  unfolding gap
  lower_by_numbers lower = alike_leading order.count (λ m. c (order.column m)) (λ m. gap (order.column m)) (λ m h. flipped (gap (order.column m)) (c (order.column m)) (compared (order.column m) (ordered.inside m h))) lower

  pub numbers_by_lower : IsLeading order.count (λ m. c (order.column m)) → IsLower order.count (in_order p order y) (e *ℤ neg_ℤ (form row k)) (in_order p order x) (d *ℤ neg_ℤ (form row l))
  unfolding gap
  numbers_by_lower lead = alike_leading order.count (λ m. gap (order.column m)) (λ m. c (order.column m)) (λ m h. compared (order.column m) (ordered.inside m h)) lead

-- a column where an equation is below zero is off the basis
pub free_under : (p : Program) (basis : ℕ → ℕ) (form : ℕ → ℕ → ℤ) → IsBasicForm p basis form → (row col : ℕ) → row < p.rows → form row col <ℤ (pos 0) → (i : ℕ) → i < p.rows → col ≢ basis i
free_under p basis form basic row col below under i h e =
    let same = ap (form row) e in
    ⊎_elim (λ (s : i ≡ row). let own = basic.own row (omega arith) in let t = ap (λ z. form row (basis z)) s in omega (arith, ints, under, same, own, t)) (λ (a : i ≢ row). let none = basic.other row i (omega arith) (omega arith) (λ s. a (sym s)) in omega (arith, ints, under, same, none)) (cases_eq i row)

pub self_lower : (n : ℕ) (x y : ℕ → ℤ) (a b : ℤ) → ((k : ℕ) → k < n → y k *ℤ a -ℤ x k *ℤ b ≡ pos 0) → IsLower n x a y b → ⊥
self_lower n x y a b none (k, h, before, above) = let z = none k h in omega (arith, ints, z, above)

-- two directions of one column
pub same_direction : (p : Program) (basis : ℕ → ℕ) (form : ℕ → ℕ → ℤ) → IsBasicForm p basis form → (col : ℕ) → IsFree p basis col → (r : ℤ) (x y : ℕ → ℤ) (d e : ℤ) → IsBasicDirection p basis form col x d → IsBasicDirection p basis form col y e → (j : ℕ) → j ≤ value_column p → entry_at p y j *ℤ (d *ℤ r) -ℤ entry_at p x j *ℤ (e *ℤ r) ≡ pos 0
same_direction p basis form basic col free r x y d e first second j h = ⊎_elim (λ (g : (i : ℕ) × (i < suc p.rows) × (j ≡ basis i)). rw g.2 (zero_factor (form g.0 (basis g.0)) (entry_at p y (basis g.0) *ℤ (d *ℤ r) -ℤ entry_at p x (basis g.0) *ℤ (e *ℤ r)) (basic.own g.0 (omega (arith, g.1))) (on (form g.0 (basis g.0)) (entry_at p x (basis g.0)) (entry_at p y (basis g.0)) (form g.0 col) (direction_on p basis form basic col free x d first g.0 (omega (arith, g.1))) (direction_on p basis form basic col free y e second g.0 (omega (arith, g.1)))))) (λ (out : (i : ℕ) → i < suc p.rows → j ≢ basis i). off (before out) (λ i q. out i (omega (arith, q)))) (in_basis basis (suc p.rows) j)
  where
    before : ((i : ℕ) → i < suc p.rows → j ≢ basis i) → j < value_column p
    before out = ⊎_elim (λ (s : j ≡ value_column p). absurd (out p.rows (omega arith) (s ∙ sym basic.value))) (λ (a : j ≢ value_column p). omega (arith, h, a)) (cases_eq j (value_column p))

    off : j < value_column p → ((i : ℕ) → i < p.rows → j ≢ basis i) → entry_at p y j *ℤ (d *ℤ r) -ℤ entry_at p x j *ℤ (e *ℤ r) ≡ pos 0
    off q out = rw (entry_before p x j q, entry_before p y j q) (⊎_elim (λ (s : j ≡ col). rw (s, first.raised, second.raised) (simp spread (omega (arith, ints)))) (λ (a : j ≢ col). rw (first.off j q a out, second.off j q a out) (omega (arith, ints))) (cases_eq j col))

    on : (own u v f : ℤ) → own *ℤ u ≡ neg_ℤ f *ℤ d → own *ℤ v ≡ neg_ℤ f *ℤ e → own *ℤ (v *ℤ (d *ℤ r) -ℤ u *ℤ (e *ℤ r)) ≡ pos 0
    on own u v f h i =
        let a = simp spread at (ap (λ z. z *ℤ (e *ℤ r)) h) in
        let b = simp spread at (ap (λ z. z *ℤ (d *ℤ r)) i) in
        simp spread (omega (arith, ints, a, b))

-- the rule by numbers is the rule
pub due_by_numbers : (p : Program) (order : Order) → IsOrder p order → (basis : ℕ → ℕ) (form : ℕ → ℕ → ℤ) → IsBasicForm p basis form → (row col : ℕ) → IsDualDueByNumbers p order basis form row col → IsDualDue p order basis form row col
due_by_numbers p order ordered basis form basic row col due = with_ray (direction p basis form basic col free_col)
  where
    free_col : IsFree p basis col
    free_col = (due.column, free_under p basis form basic row col due.below due.under)

    with_ray : (x : ℕ → ℤ) × (d : ℤ) × IsBasicDirection p basis form col x d → IsDualDue p order basis form row col
    with_ray (x, d, ray) = record {
      below = due.below;
      column = due.column;
      right = due.right;
      under = due.under;
      direction = x;
      over = d;
      is_direction = ray;
      least = λ k free under y e ray_k lower. ⊎_elim (λ (s : k ≡ col). own_column k s y e ray_k lower) (λ (a : k ≢ col). other k a free under y e ray_k lower (due.least k free.0 a under)) (cases_eq k col);
    }
      where
        own_column : (k : ℕ) → k ≡ col → (y : ℕ → ℤ) (e : ℤ) → IsBasicDirection p basis form k y e → IsLower order.count (in_order p order y) (e *ℤ neg_ℤ (form row k)) (in_order p order x) (d *ℤ neg_ℤ (form row col)) → ⊥
        own_column k s y e ray_k lower = let ray_c : IsBasicDirection p basis form col y e = rw (← s) ray_k in self_lower order.count (in_order p order y) (in_order p order x) (e *ℤ neg_ℤ (form row col)) (d *ℤ neg_ℤ (form row col)) (λ m h. same_direction p basis form basic col free_col (neg_ℤ (form row col)) y x e d ray_c ray (order.column m) (ordered.inside m h)) (subst (λ q. IsLower order.count (in_order p order y) (e *ℤ neg_ℤ (form row q)) (in_order p order x) (d *ℤ neg_ℤ (form row col))) s lower)

        other : (k : ℕ) → k ≢ col → IsFree p basis k → form row k <ℤ (pos 0) → (y : ℕ → ℤ) (e : ℤ) → IsBasicDirection p basis form k y e → IsLower order.count (in_order p order y) (e *ℤ neg_ℤ (form row k)) (in_order p order x) (d *ℤ neg_ℤ (form row col)) → (c : ℕ → ℤ) × IsComparison p basis form row k col c × (IsLeading order.count (λ m. c (order.column m)) → ⊥) → ⊥
        other k a free under y e ray_k lower (c, compares, never) =
            never (lower_by_numbers p order ordered basis form basic row k col a free free_col c compares y e ray_k x d ray lower)
