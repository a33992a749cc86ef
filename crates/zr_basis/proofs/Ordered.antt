-- Vectors read in an order of columns go by the columns before the value's.
use Rattle.std.proofs.Common.{◌≡◌, ◌≢◌, ℕ, zero, suc, ◌<◌, ◌≤◌, arith, refl, sym, ap, ◌∙◌, ℤ, neg_ℤ, ◌+ℤ◌, ◌-ℤ◌, ◌*ℤ◌, ⊎_elim}
use Rattle.std.proofs.lemmas.Int.{ints}
use Rattle.std.proofs.lemmas.Bool.{cases_eq, eq-eqb, ne_eqb}
use Rattle.std.proofs.Math.IntN.{*ℤ_comm}
use Rattle.zr_base.proofs.Ring.{spread}
use Rattle.zr_base.specs.Sums.{sum_to}
use Rattle.zr_base.proofs.Dense.{sum_to_same, sum_to-mul}
use Rattle.zr_basis.specs.Programs.{Program, aim_at}
use Rattle.zr_basis.specs.BasicForms.{value_column, IsFree, IsBasicForm, IsBasicDirection}
use Rattle.zr_basis.specs.Orders.{Order, IsOrder, IsColumnOrder, entry_at}
use Rattle.zr_basis.proofs.Values.{direction_aim}

pub entry_value : (p : Program) (x : ℕ → ℤ) (j : ℕ) → j ≡ value_column p → entry_at p x j ≡ aim_at p x
entry_value p x j h = rw (eq-eqb j (value_column p) h) refl

pub entry_column : (p : Program) (x : ℕ → ℤ) (j : ℕ) → j ≢ value_column p → entry_at p x j ≡ x j
entry_column p x j h = rw (ne_eqb j (value_column p) h) refl

pub entry_before : (p : Program) (x : ℕ → ℤ) (j : ℕ) → j < value_column p → entry_at p x j ≡ x j
entry_before p x j h = entry_column p x j (λ e. omega (arith, e, h))

weighed : (a b m u v : ℤ) → a *ℤ u ≡ b *ℤ v → a *ℤ (m *ℤ u) ≡ b *ℤ (m *ℤ v)
weighed a b m u v e =
    let g = simp spread at (ap (λ z. z *ℤ m) e) in
    omega (arith, ints, g)

-- vectors in proportion have their aims so
aims_scaled : (p : Program) (u v : ℕ → ℤ) (a b : ℤ) → ((j : ℕ) → j < value_column p → a *ℤ u j ≡ b *ℤ v j) → a *ℤ aim_at p u ≡ b *ℤ aim_at p v
aims_scaled p u v a b same =
    sym (sum_to-mul p.columns a (λ j. p.aim j *ℤ u j)) ∙ sum_to_same p.columns (λ j. a *ℤ (p.aim j *ℤ u j)) (λ j. b *ℤ (p.aim j *ℤ v j)) (λ j h. weighed a b (p.aim j) (u j) (v j) (same j (omega (arith, h)))) ∙ sum_to-mul p.columns b (λ j. p.aim j *ℤ v j)

pub entries_scaled : (p : Program) (u v : ℕ → ℤ) (a b : ℤ) → ((j : ℕ) → j < value_column p → a *ℤ u j ≡ b *ℤ v j) → (j : ℕ) → j ≤ value_column p → a *ℤ entry_at p u j ≡ b *ℤ entry_at p v j
entries_scaled p u v a b same j h = ⊎_elim (λ (e : j ≡ value_column p). rw (entry_value p u j e, entry_value p v j e) (aims_scaled p u v a b same)) (λ (c : j ≢ value_column p). rw (entry_column p u j c, entry_column p v j c) (same j (omega (arith, h, c)))) (cases_eq j (value_column p))

-- the same, with the factors behind
pub entries_alike : (p : Program) (u v : ℕ → ℤ) (a b : ℤ) → ((j : ℕ) → j < value_column p → u j *ℤ a ≡ v j *ℤ b) → (j : ℕ) → j ≤ value_column p → entry_at p u j *ℤ a ≡ entry_at p v j *ℤ b
entries_alike p u v a b same j h =
    *ℤ_comm (entry_at p u j) a ∙ entries_scaled p u v a b (λ i q. *ℤ_comm a (u i) ∙ same i q ∙ *ℤ_comm (v i) b) j h ∙ *ℤ_comm b (entry_at p v j)

step : (s t u m x y a b : ℤ) → s ≡ a *ℤ t -ℤ b *ℤ u → s +ℤ m *ℤ (a *ℤ x -ℤ b *ℤ y) ≡ a *ℤ (t +ℤ m *ℤ x) -ℤ b *ℤ (u +ℤ m *ℤ y)
step s t u m x y a b e = simp spread (omega (arith, ints, e))

mixed_aims : (n : ℕ) (m u v : ℕ → ℤ) (a b : ℤ) → sum_to n (λ j. m j *ℤ (a *ℤ u j -ℤ b *ℤ v j)) ≡ a *ℤ sum_to n (λ j. m j *ℤ u j) -ℤ b *ℤ sum_to n (λ j. m j *ℤ v j)
mixed_aims zero m u v a b = omega (arith, ints)
mixed_aims (suc n) m u v a b =
    step (sum_to n (λ j. m j *ℤ (a *ℤ u j -ℤ b *ℤ v j))) (sum_to n (λ j. m j *ℤ u j)) (sum_to n (λ j. m j *ℤ v j)) (m n) (u n) (v n) a b (mixed_aims n m u v a b)

-- a difference of multiples is so at each column
pub entry_mixed : (p : Program) (u v : ℕ → ℤ) (a b : ℤ) (j : ℕ) → entry_at p (λ i. a *ℤ u i -ℤ b *ℤ v i) j ≡ a *ℤ entry_at p u j -ℤ b *ℤ entry_at p v j
entry_mixed p u v a b j = ⊎_elim (λ (e : j ≡ value_column p). rw (entry_value p (λ i. a *ℤ u i -ℤ b *ℤ v i) j e, entry_value p u j e, entry_value p v j e) (mixed_aims p.columns p.aim u v a b)) (λ (c : j ≢ value_column p). rw (entry_column p (λ i. a *ℤ u i -ℤ b *ℤ v i) j c, entry_column p u j c, entry_column p v j c) refl) (cases_eq j (value_column p))

-- a direction at a column of the basis, the value's among them
pub direction_on : (p : Program) (basis : ℕ → ℕ) (form : ℕ → ℕ → ℤ) → IsBasicForm p basis form → (col : ℕ) → IsFree p basis col → (x : ℕ → ℤ) (d : ℤ) → IsBasicDirection p basis form col x d → (i : ℕ) → i ≤ p.rows → form i (basis i) *ℤ entry_at p x (basis i) ≡ neg_ℤ (form i col) *ℤ d
direction_on p basis form basic col free x d ray i h = ⊎_elim (λ (e : i ≡ p.rows). rw (e, basic.value, entry_value p x (value_column p) refl) (direction_aim p basis form basic col free.1 free.0 x d ray)) (λ (c : i ≢ p.rows). rw (entry_before p x (basis i) (basic.columns i (omega (arith, h, c)))) (ray.on i (omega (arith, h, c)))) (cases_eq i p.rows)

-- an order of the columns before the value's is one
pub column_order : (p : Program) (order : Order) → IsColumnOrder p order → IsOrder p order
column_order p order is = record {
  inside = λ k h. let c = is.columns k (omega (arith, h, is.count)) in omega (arith, c, h, is.count);
  each = λ j h. (j, omega (arith, h, is.count), is.columns j h);
}
