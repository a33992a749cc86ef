-- Two directions compared by the numbers of the form, column by column.
use Rattle.std.proofs.Common.{◌≡◌, ◌≢◌, ℕ, suc, ◌<◌, ◌≤◌, arith, refl, sym, ap, ◌∙◌, ℤ, pos, neg_ℤ, ◌-ℤ◌, ◌*ℤ◌, ◌<ℤ◌, ◌⊎◌, inl, inr, ⊎_elim}
use Rattle.std.proofs.lemmas.Int.{ints}
use Rattle.std.proofs.lemmas.Bool.{cases_eq}
use Rattle.zr_basis.specs.Programs.{Program}
use Rattle.zr_basis.specs.BasicForms.{value_column, IsFree, IsBasicForm, IsBasicDirection}
use Rattle.zr_basis.specs.Orders.{Order, IsOrder}
use Rattle.zr_basis.specs.Vectors.{IsLeading}
use Rattle.zr_basis.specs.Dual.{IsDirectionBelow, IsComparison}
use Rattle.zr_basis.proofs.Signs.{side}
use Rattle.zr_basis.proofs.Solved.{columns_apart, direction, in_basis}
use Rattle.zr_basis.proofs.Links.{free_under, lower_by_numbers, numbers_by_lower}

-- the first where the two are equal, and else the second
choice : {n m : ℕ} → (n ≡ m) ⊎ (n ≢ m) → ℤ → ℤ → ℤ
choice (inl e) a b = a
choice (inr apart) a b = b

choice_same : {n m : ℕ} (s : (n ≡ m) ⊎ (n ≢ m)) (a b : ℤ) → n ≡ m → choice s a b ≡ a
unfolding choice
choice_same (inl e) a b h = refl
choice_same (inr apart) a b h = absurd (apart h)

choice_other : {n m : ℕ} (s : (n ≡ m) ⊎ (n ≢ m)) (a b : ℤ) → n ≢ m → choice s a b ≡ b
unfolding choice
choice_other (inl e) a b h = absurd (h e)
choice_other (inr apart) a b h = refl

-- at both columns the row is below zero
module _ (p : Program) (order : Order) (ordered : IsOrder p order) (basis : ℕ → ℕ) (form : ℕ → ℕ → ℤ) (basic : IsBasicForm p basis form) (row : ℕ) (inside : row < p.rows) (k l : ℕ) (apart : k ≢ l) (column_k : k < value_column p) (column_l : l < value_column p) (under_k : form row k <ℤ (pos 0)) (under_l : form row l <ℤ (pos 0)) where
  free_k : IsFree p basis k
  free_k = (column_k, free_under p basis form basic row k inside under_k)

  free_l : IsFree p basis l
  free_l = (column_l, free_under p basis form basic row l inside under_l)

  by_row : ℕ → ℤ
  by_row i = form i l *ℤ form row k -ℤ form i k *ℤ form row l

  off_basis : ℕ → ℤ
  off_basis j = choice (cases_eq j k) (form row l) (choice (cases_eq j l) (neg_ℤ (form row k)) (pos 0))

  at : (j : ℕ) → ((i : ℕ) × (i < suc p.rows) × (j ≡ basis i)) ⊎ ((i : ℕ) → i < suc p.rows → j ≢ basis i) → ℤ
  at j (inl found) = by_row found.0
  at j (inr out) = off_basis j

  pub numbers : ℕ → ℤ
  numbers j = at j (in_basis basis (suc p.rows) j)

  at_on : (j i : ℕ) (s : ((i : ℕ) × (i < suc p.rows) × (j ≡ basis i)) ⊎ ((i : ℕ) → i < suc p.rows → j ≢ basis i)) → i ≤ p.rows → j ≡ basis i → at j s ≡ by_row i
  unfolding at
  at_on j i (inl found) h e = ⊎_elim (λ (s : found.0 ≡ i). ap by_row s) (λ (a : found.0 ≢ i). absurd (columns_apart p basis form basic found.0 i (let q = found.1 in omega (arith, q)) h a (sym found.2 ∙ e))) (cases_eq found.0 i)
  at_on j i (inr out) h e = absurd (out i (omega (arith, h)) e)

  at_off : (j : ℕ) (s : ((i : ℕ) × (i < suc p.rows) × (j ≡ basis i)) ⊎ ((i : ℕ) → i < suc p.rows → j ≢ basis i)) → j < value_column p → ((i : ℕ) → i < p.rows → j ≢ basis i) → at j s ≡ off_basis j
  unfolding at
  at_off j (inl found) before free = ⊎_elim (λ (s : found.0 ≡ p.rows). let v = found.2 ∙ ap basis s ∙ basic.value in absurd (omega (arith, v, before))) (λ (a : found.0 ≢ p.rows). absurd (free found.0 (let q = found.1 in omega (arith, q, a)) found.2)) (cases_eq found.0 p.rows)
  at_off j (inr out) before free = refl

  pub compares : IsComparison p basis form row k l numbers
  unfolding numbers off_basis by_row
  compares = record {
    on = λ i h. at_on (basis i) i (in_basis basis (suc p.rows) (basis i)) h refl;
    first = at_off k (in_basis basis (suc p.rows) k) column_k free_k.1 ∙ choice_same (cases_eq k k) (form row l) (choice (cases_eq k l) (neg_ℤ (form row k)) (pos 0)) refl;
    second = at_off l (in_basis basis (suc p.rows) l) column_l free_l.1 ∙ choice_other (cases_eq l k) (form row l) (choice (cases_eq l l) (neg_ℤ (form row k)) (pos 0)) (λ e. apart (sym e)) ∙ choice_same (cases_eq l l) (neg_ℤ (form row k)) (pos 0) refl;
    off = λ j h a b out. at_off j (in_basis basis (suc p.rows) j) h out ∙ choice_other (cases_eq j k) (form row l) (choice (cases_eq j l) (neg_ℤ (form row k)) (pos 0)) a ∙ choice_other (cases_eq j l) (neg_ℤ (form row k)) (pos 0) b;
  }

  -- the directions are level at the first n places of the order
  abbrev pub AreLevel : ℕ → Type 0
  AreLevel n = (m : ℕ) → m < n → numbers (order.column m) ≡ pos 0

  never_lower : (IsLeading order.count (λ m. numbers (order.column m)) → ⊥) → IsDirectionBelow p order basis form row k l → ⊥
  never_lower never below = with_rays (direction p basis form basic k free_k) (direction p basis form basic l free_l)
    where
      with_rays : (y : ℕ → ℤ) × (e : ℤ) × IsBasicDirection p basis form k y e → (x : ℕ → ℤ) × (d : ℤ) × IsBasicDirection p basis form l x d → ⊥
      with_rays (y, e, ray_k) (x, d, ray_l) =
          never (lower_by_numbers p order ordered basis form basic row k l apart free_k free_l numbers compares y e ray_k x d ray_l (below y e ray_k x d ray_l))

  -- the first place at which they aren't level says which is lower
  pub below_at : (m : ℕ) → m < order.count → AreLevel m → (pos 0) <ℤ numbers (order.column m) → IsDirectionBelow p order basis form row k l
  below_at m h level above y e ray_k x d ray_l =
      numbers_by_lower p order ordered basis form basic row k l apart free_k free_l numbers compares y e ray_k x d ray_l (m, h, level, above)

  pub not_below_at : (m : ℕ) → m < order.count → AreLevel m → numbers (order.column m) <ℤ (pos 0) → IsDirectionBelow p order basis form row k l → ⊥
  not_below_at m h level under = never_lower never
    where
      never : IsLeading order.count (λ i. numbers (order.column i)) → ⊥
      never (i, g, before, above) = ⊎_elim (λ (b : i < m). let z = level i b in omega (arith, ints, z, above)) (λ (b : m ≤ i). ⊎_elim (λ (c : m < i). let z = before m c in omega (arith, ints, z, under)) (λ (c : i ≤ m). let e : i ≡ m = omega arith in let t = ap (λ q. numbers (order.column q)) e in omega (arith, ints, t, above, under)) (side m i)) (side i m)

  pub not_below_level : AreLevel order.count → IsDirectionBelow p order basis form row k l → ⊥
  not_below_level level = never_lower (λ (i, g, before, above). let z = level i g in omega (arith, ints, z, above))
