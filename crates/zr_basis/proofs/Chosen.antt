-- Where the rules have a pivot to choose, one qualifies.
use Rattle.std.proofs.Common.{◌≡◌, ◌≢◌, ℕ, zero, suc, ◌+◌, ◌<◌, ◌≤◌, arith, refl, ap, subst, ℤ, pos, neg_ℤ, ◌-ℤ◌, ◌*ℤ◌, ◌<ℤ◌, ◌⊎◌, inl, inr, ⊎_elim}
use Rattle.std.proofs.lemmas.Int.{ints}
use Rattle.std.proofs.lemmas.Bool.{cases_eq}
use Rattle.zr_base.proofs.Ring.{spread}
use Rattle.zr_base.proofs.Divisors.{mul_positive}
use Rattle.zr_basis.specs.Programs.{Program}
use Rattle.zr_basis.specs.BasicForms.{value_column, right_column, IsFree, IsBasicForm, IsBasicDirection}
use Rattle.zr_basis.specs.Orders.{Order, IsOrder, in_order}
use Rattle.zr_basis.specs.Vectors.{IsLeading, IsLower}
use Rattle.zr_basis.specs.Primal.{vector, IsPrimalDue}
use Rattle.zr_basis.specs.Dual.{IsDirectionBelow, IsDualDue}
use Rattle.zr_basis.proofs.Signs.{sign, side}
use Rattle.zr_basis.proofs.Vectors.{IsNought, never_both, in_proportion, three_ways, lower_trans, lower_apart}
use Rattle.zr_basis.proofs.Solved.{direction}
use Rattle.zr_basis.proofs.Links.{free_under, same_direction}

-- one of the first n that none of them is below, or none of them is marked
least_of : (n : ℕ) (Marked : ℕ → Type 0) (Below : ℕ → ℕ → Type 0) → ((i : ℕ) → Marked i ⊎ (Marked i → ⊥)) → ((i k : ℕ) → Marked i → Marked k → Below i k ⊎ (Below i k → ⊥)) → ((i k m : ℕ) → Marked i → Marked k → Marked m → Below i k → Below k m → Below i m) → ((i : ℕ) → Marked i → Below i i → ⊥) → ((r : ℕ) × (r < n) × Marked r × ((i : ℕ) → i < n → Marked i → Below i r → ⊥)) ⊎ ((i : ℕ) → i < n → Marked i → ⊥)
least_of zero Marked Below marks decides chain self = inr (λ i h m. absurd (omega arith))
least_of (suc n) Marked Below marks decides chain self = ⊎_elim (λ (m : Marked n). ⊎_elim (λ (f : (r : ℕ) × (r < n) × Marked r × ((i : ℕ) → i < n → Marked i → Below i r → ⊥)). inl (compare m f)) (λ (none : (i : ℕ) → i < n → Marked i → ⊥). inl (n, omega arith, m, λ i h q b. ⊎_elim (λ (s : i ≡ n). self n m (subst (λ z. Below z n) s b)) (λ (a : i ≢ n). none i (omega arith) q) (cases_eq i n))) (least_of n Marked Below marks decides chain self)) (λ (never : Marked n → ⊥). ⊎_elim (λ (f : (r : ℕ) × (r < n) × Marked r × ((i : ℕ) → i < n → Marked i → Below i r → ⊥)). inl (f.0, omega (arith, f.1), f.2, λ i h q b. ⊎_elim (λ (s : i ≡ n). never (subst Marked s q)) (λ (a : i ≢ n). f.3 i (omega arith) q b) (cases_eq i n))) (λ (none : (i : ℕ) → i < n → Marked i → ⊥). inr (λ i h q. ⊎_elim (λ (s : i ≡ n). never (subst Marked s q)) (λ (a : i ≢ n). none i (omega arith) q) (cases_eq i n))) (least_of n Marked Below marks decides chain self)) (marks n)
  where
    compare : Marked n → (r : ℕ) × (r < n) × Marked r × ((i : ℕ) → i < n → Marked i → Below i r → ⊥) → (r : ℕ) × (r < suc n) × Marked r × ((i : ℕ) → i < suc n → Marked i → Below i r → ⊥)
    compare m (r, h, q, all) = ⊎_elim (λ (b : Below n r). (n, omega arith, m, λ i g k c. ⊎_elim (λ (s : i ≡ n). self n m (subst (λ z. Below z n) s c)) (λ (a : i ≢ n). all i (omega arith) k (chain i n r k m q c b)) (cases_eq i n))) (λ (never : Below n r → ⊥). (r, omega arith, q, λ i g k c. ⊎_elim (λ (s : i ≡ n). never (subst (λ z. Below z r) s c)) (λ (a : i ≢ n). all i (omega arith) k c) (cases_eq i n))) (decides n r m q)

above_or : (z : ℤ) → ((pos 0) <ℤ z) ⊎ ((pos 0) <ℤ z → ⊥)
above_or z = ⊎_elim (λ (a : (pos 0) <ℤ z). inl a) (λ (r : (z ≡ pos 0) ⊎ (z <ℤ (pos 0))). ⊎_elim (λ (e : z ≡ pos 0). inr (λ a. omega (arith, ints, e, a))) (λ (b : z <ℤ (pos 0)). inr (λ a. omega (arith, ints, b, a))) r) (sign z)

opposite : (n : ℕ) (v : ℕ → ℤ) → IsLeading n (λ k. neg_ℤ (v k)) → IsLeading n v → ⊥
opposite n v (k, h, before, above) (l, g, first, over) = ⊎_elim (λ (b : k < l). let z = first k b in omega (arith, ints, z, above)) (λ (b : l ≤ k). ⊎_elim (λ (c : l < k). let z = before l c in omega (arith, ints, z, over)) (λ (c : k ≤ l). let e : k ≡ l = omega arith in let s = ap v e in omega (arith, ints, s, above, over)) (side l k)) (side k l)

leading_or : (n : ℕ) (v : ℕ → ℤ) → IsLeading n v ⊎ (IsLeading n v → ⊥)
leading_or n v = ⊎_elim (λ (a : IsLeading n v). inl a) (λ (r : IsNought n v ⊎ IsLeading n (λ k. neg_ℤ (v k))). ⊎_elim (λ (none : IsNought n v). inr (λ a. never_both n v a none)) (λ (b : IsLeading n (λ k. neg_ℤ (v k))). inr (λ a. opposite n v b a)) r) (three_ways n v)

-- where the value falls along a column, and a row is above zero there, the primal rule has a row
pub primal_row : (p : Program) (start : ℕ → ℕ) (form : ℕ → ℕ → ℤ) (col i : ℕ) → col < value_column p → (pos 0) <ℤ form p.rows col → i < p.rows → (pos 0) <ℤ form i col → (row : ℕ) × IsPrimalDue p start form row col
primal_row p start form col i column falls below above = ⊎_elim (λ (f : (r : ℕ) × (r < p.rows) × ((pos 0) <ℤ form r col) × ((i : ℕ) → i < p.rows → (pos 0) <ℤ form i col → IsLower (p.rows + 1) (vector p start (form i)) (form i col) (vector p start (form r)) (form r col) → ⊥)). (f.0, record { below = f.1; column = column; falls = falls; above = f.2; least = f.3 })) (λ (none : (i : ℕ) → i < p.rows → (pos 0) <ℤ form i col → ⊥). absurd (none i below above)) (least_of p.rows (λ i. (pos 0) <ℤ form i col) (λ i k. IsLower (p.rows + 1) (vector p start (form i)) (form i col) (vector p start (form k)) (form k col)) (λ i. above_or (form i col)) (λ i k a b. leading_or (p.rows + 1) (λ m. vector p start (form k) m *ℤ form i col -ℤ vector p start (form i) m *ℤ form k col)) (λ i k m a b c. lower_trans (p.rows + 1) (vector p start (form i)) (vector p start (form k)) (vector p start (form m)) (form i col) (form k col) (form m col) a b c) (λ i a. lower_apart (p.rows + 1) (vector p start (form i)) (vector p start (form i)) (form i col) (form i col) (λ k h. refl)))

proportional : (u v d e : ℤ) → v *ℤ (d *ℤ pos 1) -ℤ u *ℤ (e *ℤ pos 1) ≡ pos 0 → v *ℤ d ≡ u *ℤ e
proportional u v d e h =
    let a : d *ℤ pos 1 ≡ d = omega (arith, ints) in
    let b : e *ℤ pos 1 ≡ e = omega (arith, ints) in
    let c = rw (a, b) at h in
    omega (arith, ints, c)

scaled_gap : (x y u v d e c f k l : ℤ) → u *ℤ d ≡ x *ℤ c → v *ℤ e ≡ y *ℤ f → (d *ℤ e) *ℤ (u *ℤ (f *ℤ k) -ℤ v *ℤ (c *ℤ l)) ≡ (c *ℤ f) *ℤ (x *ℤ (e *ℤ k) -ℤ y *ℤ (d *ℤ l))
scaled_gap x y u v d e c f k l first second =
    let g = simp spread at (ap (λ z. z *ℤ ((e *ℤ f) *ℤ k)) first) in
    let h = simp spread at (ap (λ z. z *ℤ ((c *ℤ d) *ℤ l)) second) in
    simp spread (omega (arith, ints, g, h))

-- it goes by the columns which direction is lower
lower_alike : (p : Program) (order : Order) → IsOrder p order → (basis : ℕ → ℕ) (form : ℕ → ℕ → ℤ) → IsBasicForm p basis form → (k l : ℕ) → IsFree p basis k → IsFree p basis l → (s t : ℤ) (y v : ℕ → ℤ) (e f : ℤ) → IsBasicDirection p basis form k y e → IsBasicDirection p basis form k v f → (x u : ℕ → ℤ) (d c : ℤ) → IsBasicDirection p basis form l x d → IsBasicDirection p basis form l u c → IsLower order.count (in_order p order y) (e *ℤ s) (in_order p order x) (d *ℤ t) → IsLower order.count (in_order p order v) (f *ℤ s) (in_order p order u) (c *ℤ t)
lower_alike p order ordered basis form basic k l free_k free_l s t y v e f ray_y ray_v x u d c ray_x ray_u lower = in_proportion order.count (λ j. in_order p order u j *ℤ (f *ℤ s) -ℤ in_order p order v j *ℤ (c *ℤ t)) (λ j. in_order p order x j *ℤ (e *ℤ s) -ℤ in_order p order y j *ℤ (d *ℤ t)) (d *ℤ e) (c *ℤ f) (mul_positive d e ray_x.positive ray_y.positive) (mul_positive c f ray_u.positive ray_v.positive) (λ j h. scaled_gap (in_order p order x j) (in_order p order y j) (in_order p order u j) (in_order p order v j) d e c f s t (proportional (in_order p order x j) (in_order p order u j) d c (same_direction p basis form basic l free_l (pos 1) x u d c ray_x ray_u (order.column j) (ordered.inside j h))) (proportional (in_order p order y j) (in_order p order v j) e f (same_direction p basis form basic k free_k (pos 1) y v e f ray_y ray_v (order.column j) (ordered.inside j h)))) lower

module _ (p : Program) (order : Order) (ordered : IsOrder p order) (basis : ℕ → ℕ) (form : ℕ → ℕ → ℤ) (basic : IsBasicForm p basis form) (row : ℕ) (below : row < p.rows) where
  abbrev pub Marked : ℕ → Type 0
  Marked k = (k < value_column p) × (form row k <ℤ (pos 0))

  abbrev pub Below : ℕ → ℕ → Type 0
  Below k l = IsDirectionBelow p order basis form row k l

  is_free : (k : ℕ) → Marked k → IsFree p basis k
  is_free k (h, under) = (h, free_under p basis form basic row k below under)

  ray_of : (k : ℕ) → Marked k → (x : ℕ → ℤ) × (d : ℤ) × IsBasicDirection p basis form k x d
  ray_of k m = direction p basis form basic k (is_free k m)

  marks : (k : ℕ) → Marked k ⊎ (Marked k → ⊥)
  marks k = ⊎_elim (λ (h : k < value_column p). ⊎_elim (λ (a : (pos 0) <ℤ neg_ℤ (form row k)). inl (h, omega (arith, ints, a))) (λ (n : (pos 0) <ℤ neg_ℤ (form row k) → ⊥). inr (λ m. n (let b = m.1 in omega (arith, ints, b)))) (above_or (neg_ℤ (form row k)))) (λ (h : value_column p ≤ k). inr (λ m. let b = m.0 in omega (arith, b, h))) (side k (value_column p))

  decides : (k l : ℕ) → Marked k → Marked l → Below k l ⊎ (Below k l → ⊥)
  decides k l m n = by (ray_of k m) (ray_of l n)
    where
      by : (y : ℕ → ℤ) × (e : ℤ) × IsBasicDirection p basis form k y e → (x : ℕ → ℤ) × (d : ℤ) × IsBasicDirection p basis form l x d → Below k l ⊎ (Below k l → ⊥)
      by (y, e, ray_y) (x, d, ray_x) = ⊎_elim (λ (a : IsLower order.count (in_order p order y) (e *ℤ neg_ℤ (form row k)) (in_order p order x) (d *ℤ neg_ℤ (form row l))). inl (λ v f ray_v u c ray_u. lower_alike p order ordered basis form basic k l (is_free k m) (is_free l n) (neg_ℤ (form row k)) (neg_ℤ (form row l)) y v e f ray_y ray_v x u d c ray_x ray_u a)) (λ (never : IsLower order.count (in_order p order y) (e *ℤ neg_ℤ (form row k)) (in_order p order x) (d *ℤ neg_ℤ (form row l)) → ⊥). inr (λ all. never (all y e ray_y x d ray_x))) (leading_or order.count (λ j. in_order p order x j *ℤ (e *ℤ neg_ℤ (form row k)) -ℤ in_order p order y j *ℤ (d *ℤ neg_ℤ (form row l))))

  up : (k : ℕ) → Marked k → (d : ℤ) → (pos 0) <ℤ d → (pos 0) <ℤ (d *ℤ neg_ℤ (form row k))
  up k m d h = mul_positive d (neg_ℤ (form row k)) h (let b = m.1 in omega (arith, ints, b))

  pub chain : (k l m : ℕ) → Marked k → Marked l → Marked m → Below k l → Below l m → Below k m
  chain k l m a b c first second y e ray_y x d ray_x = by (ray_of l b)
    where
      by : (v : ℕ → ℤ) × (f : ℤ) × IsBasicDirection p basis form l v f → IsLower order.count (in_order p order y) (e *ℤ neg_ℤ (form row k)) (in_order p order x) (d *ℤ neg_ℤ (form row m))
      by (v, f, ray_v) =
          lower_trans order.count (in_order p order y) (in_order p order v) (in_order p order x) (e *ℤ neg_ℤ (form row k)) (f *ℤ neg_ℤ (form row l)) (d *ℤ neg_ℤ (form row m)) (up k a e ray_y.positive) (up l b f ray_v.positive) (up m c d ray_x.positive) (first y e ray_y v f ray_v) (second v f ray_v x d ray_x)

  pub self : (k : ℕ) → Marked k → Below k k → ⊥
  self k m below = by (ray_of k m)
    where
      by : (y : ℕ → ℤ) × (e : ℤ) × IsBasicDirection p basis form k y e → ⊥
      by (y, e, ray) =
          lower_apart order.count (in_order p order y) (in_order p order y) (e *ℤ neg_ℤ (form row k)) (e *ℤ neg_ℤ (form row k)) (λ j h. refl) (below y e ray y e ray)

  -- a column whose direction none is below is the one that the dual rule takes
  pub due_if_least : (r : ℕ) → Marked r → form row (right_column p) <ℤ (pos 0) → ((i : ℕ) → Marked i → Below i r → ⊥) → IsDualDue p order basis form row r
  due_if_least r m right all = with_ray (ray_of r m)
    where
      with_ray : (x : ℕ → ℤ) × (d : ℤ) × IsBasicDirection p basis form r x d → IsDualDue p order basis form row r
      with_ray (x, d, ray) = record { below = below; column = m.0; right = right; under = m.1; direction = x; over = d; is_direction = ray; least = λ i free b y e ray_y lower. all i (free.0, b) (λ v f ray_v u c ray_u. lower_alike p order ordered basis form basic i r free (is_free r m) (neg_ℤ (form row i)) (neg_ℤ (form row r)) y v e f ray_y ray_v x u d c ray ray_u lower) }

  -- where a right side is below zero, and so is a number of its row, the dual rule has a column
  pub dual_column : (k : ℕ) → k < value_column p → form row k <ℤ (pos 0) → form row (right_column p) <ℤ (pos 0) → (col : ℕ) × IsDualDue p order basis form row col
  dual_column k h under right = ⊎_elim found (λ (none : (i : ℕ) → i < value_column p → Marked i → ⊥). absurd (none k h (h, under))) (least_of (value_column p) Marked Below marks decides chain self)
    where
      found : (r : ℕ) × (r < value_column p) × Marked r × ((i : ℕ) → i < value_column p → Marked i → Below i r → ⊥) → (col : ℕ) × IsDualDue p order basis form row col
      found (r, g, m, all) = (r, due_if_least r m right (λ i q. all i q.0 q))
