-- A cost's terms, summed by their own variable.
use Rattle.std.proofs.Common.{◌≡◌, ◌≢◌, ℕ, ◌<◌, ◌==◌, arith, refl, sym, ap, ap₂, ◌∙◌, ℤ, pos, ◌+ℤ◌, ◌*ℤ◌, Bool, true, false, cond, List, [], ◌∷◌}
use Rattle.std.specs.List.{filter}
use Rattle.std.proofs.lemmas.Int.{ints}
use Rattle.std.proofs.lemmas.Bool.Decides.{nat_tests}
use Rattle.zr_base.proofs.Dense.{sum_to-add, sum_to_at, sum_to_same, sum_to_zero, value_dense}
use Rattle.zr_base.proofs.Ring.{mul-add_right, mul_assoc}
use Rattle.zr_base.proofs.Worth.{Each, sum_list}
use Rattle.zr_base.specs.Sums.{sum_to}
use Rattle.zr_base.specs.Terms.{Ascends, Terms, coef_at, value_at}
use Rattle.zr_game.specs.declared.player.CrossTerm.{CrossTerm}

value_list : (ts : Terms) (p : ℕ → ℤ) → value_at ts p ≡ sum_list ts (λ t. t.1 *ℤ p t.0)
value_list [] p = refl
value_list (t ∷ ts) p = ap (λ a. t.1 *ℤ p t.0 +ℤ a) (value_list ts p)

-- the own terms
pub own_columns : (columns : ℕ) (ts : Terms) (m : ℤ) (e : ℕ → ℤ) → Ascends 0 columns ts
    → sum_to columns (λ v. (coef_at ts v *ℤ m) *ℤ e v) ≡ sum_list ts (λ t. t.1 *ℤ (m *ℤ e t.0))
own_columns columns ts m e form =
    sum_to_same columns (λ v. (coef_at ts v *ℤ m) *ℤ e v) (λ v. coef_at ts v *ℤ (m *ℤ e v))
    (λ v h. mul_assoc (coef_at ts v) m (e v)) ∙
    sym (value_dense 0 columns ts (λ v. m *ℤ e v) form) ∙ value_list ts (λ v. m *ℤ e v)

filter_sum : {A : Type 0} (b : Bool) (t : A) (ts : List A) (h : A → ℤ)
    → sum_list (cond b (t ∷ ts) ts) h ≡ cond b (h t) (pos 0) +ℤ sum_list ts h
filter_sum true t ts h = refl
filter_sum false t ts h = omega (arith, ints)

pub one_column : (columns k : ℕ) (a : ℤ) (e : ℕ → ℤ) → k < columns
    → sum_to columns (λ v. cond (k == v) a (pos 0) *ℤ e v) ≡ a *ℤ e k
one_column columns k a e h =
    let here : cond (k == k) a (pos 0) ≡ a = grind (arith, nat_tests) in
    let there = λ (v : ℕ) (n : v ≢ k). nowhere v n in
    let s = sum_to_at columns k (λ v. cond (k == v) a (pos 0) *ℤ e v) (λ v. pos 0) h there in
    let z = sum_to_zero columns in
    let f : cond (k == k) a (pos 0) *ℤ e k ≡ a *ℤ e k = ap (λ x. x *ℤ e k) here in
    omega (arith, ints, s, z, f)
  where
    off : (v : ℕ) → v ≢ k → cond (k == v) a (pos 0) ≡ pos 0
    off v n = grind (arith, nat_tests)

    nowhere : (v : ℕ) → v ≢ k → cond (k == v) a (pos 0) *ℤ e v ≡ pos 0
    nowhere v n = ap (λ x. x *ℤ e v) (off v n) ∙ omega (arith, ints)

-- the cross terms
pub cross_columns : (columns : ℕ) (ts : List CrossTerm) (h : CrossTerm → ℤ) (e : ℕ → ℤ)
    → Each (λ t. t.own < columns) ts
    → sum_to columns (λ v. sum_list (filter (λ t. t.own == v) ts) h *ℤ e v) ≡ sum_list ts
    (λ t. h t *ℤ e t.own)
cross_columns columns [] h e all =
    sum_to_same columns (λ v. pos 0 *ℤ e v) (λ v. pos 0) (λ v p. omega (arith, ints)) ∙
    sum_to_zero columns
cross_columns columns (t ∷ ts) h e all =
    sum_to_same columns (λ v. sum_list (filter (λ u. u.own == v) (t ∷ ts)) h *ℤ e v)
    (λ v. cond (t.own == v) (h t) (pos 0) *ℤ e v +ℤ sum_list (filter (λ u. u.own == v) ts)
    h *ℤ e v)
    (λ v p. ap (λ x. x *ℤ e v) (filter_sum (t.own == v) t (filter (λ u. u.own == v) ts) h) ∙
    mul-add_right (cond (t.own == v) (h t) (pos 0)) (sum_list (filter (λ u. u.own == v) ts) h)
    (e v)) ∙ sum_to-add columns (λ v. cond (t.own == v) (h t) (pos 0) *ℤ e v)
    (λ v. sum_list (filter (λ u. u.own == v) ts) h *ℤ e v) ∙
    ap₂ ◌+ℤ◌ (one_column columns t.own (h t) e all.0) (cross_columns columns ts h e all.1)
