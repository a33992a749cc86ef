-- The lexicographic rule of the dual method, in an order of the columns.
use Rattle.std.specs.Prelude.{◌≡◌, ◌≢◌, ℕ, ◌<◌, ◌≤◌, ℤ, pos, neg_ℤ, ◌-ℤ◌, ◌*ℤ◌, ◌<ℤ◌}
use Rattle.zr_basis.specs.Programs.{Program}
use Rattle.zr_basis.specs.BasicForms.{value_column, right_column, IsFree, IsBasicSolution, IsBasicDirection}
use Rattle.zr_basis.specs.Orders.{Order, in_order}
use Rattle.zr_basis.specs.Vectors.{IsLeading, IsLower}

-- along each column off the basis, the first column of the order that changes rises
abbrev pub AreDirectionsPositive : Program → Order → (ℕ → ℕ) → (ℕ → ℕ → ℤ) → Type 0
AreDirectionsPositive p order basis form =
    (col : ℕ)
    → IsFree p basis col
    → (x : ℕ → ℤ) (d : ℤ)
    → IsBasicDirection p basis form col x d
    → IsLeading order.count (in_order p order x)

-- in the order, the direction of k is lexicographically below that of l, each over the row's
-- number, negated
abbrev pub IsDirectionBelow : Program → Order → (ℕ → ℕ) → (ℕ → ℕ → ℤ) → ℕ → ℕ → ℕ → Type 0
IsDirectionBelow p order basis form row k l =
    (y : ℕ → ℤ) (e : ℤ)
    → IsBasicDirection p basis form k y e
    → (x : ℕ → ℤ) (d : ℤ)
    → IsBasicDirection p basis form l x d
    → IsLower order.count (in_order p order y) (e *ℤ neg_ℤ (form row k)) (in_order p order x)
    (d *ℤ neg_ℤ (form row l))

-- the row's right side is below zero; of the columns off the basis where the row is below zero,
-- none has a lower quotient of direction by the row's number, negated, than this one
pub record IsDualDue (p : Program) (order : Order) (basis : ℕ → ℕ) (form : ℕ → ℕ → ℤ)
    (row col : ℕ) : Type 0 where
  pub below : row < p.rows
  pub column : col < value_column p
  pub right : form row (right_column p) <ℤ (pos 0)
  pub under : form row col <ℤ (pos 0)
  pub direction : ℕ → ℤ
  pub over : ℤ
  pub is_direction : IsBasicDirection p basis form col direction over
  pub least : (k : ℕ) → IsFree p basis k → form row k <ℤ (pos 0) → (x : ℕ → ℤ) (d : ℤ)
      → IsBasicDirection p basis form k x d
      → IsLower order.count (in_order p order x) (d *ℤ neg_ℤ (form row k))
      (in_order p order direction) (over *ℤ neg_ℤ (form row col)) → ⊥

-- in the order, the basic solution of `made` is lexicographically above that of `form`
abbrev pub Rises : Program → Order → (ℕ → ℕ) → (ℕ → ℕ → ℤ) → (ℕ → ℕ) → (ℕ → ℕ → ℤ) → Type 0
Rises p order basis form next made =
    (x : ℕ → ℤ) × (d : ℤ) × (y : ℕ → ℤ) × (e : ℤ) × IsBasicSolution p basis form x d
    × IsBasicSolution p next made y e
    × IsLower order.count (in_order p order x) d (in_order p order y) e

-- c, at each column, has the sign of the difference of the directions of l and k, each over the
-- row's number, negated
pub record IsComparison (p : Program) (basis : ℕ → ℕ) (form : ℕ → ℕ → ℤ) (row k l : ℕ)
    (c : ℕ → ℤ) : Type 0 where
  pub on : (i : ℕ) → i ≤ p.rows → c (basis i) ≡ form i l *ℤ form row k -ℤ form i k *ℤ form row l
  pub first : c k ≡ form row l
  pub second : c l ≡ neg_ℤ (form row k)
  pub off : (j : ℕ) → j < value_column p → j ≢ k → j ≢ l → ((i : ℕ) → i < p.rows → j ≢ basis i)
      → c j ≡ pos 0

-- the rule by the numbers of the form alone
pub record IsDualDueByNumbers (p : Program) (order : Order) (basis : ℕ → ℕ) (form : ℕ → ℕ → ℤ)
    (row col : ℕ) : Type 0 where
  pub below : row < p.rows
  pub column : col < value_column p
  pub right : form row (right_column p) <ℤ (pos 0)
  pub under : form row col <ℤ (pos 0)
  pub least : (k : ℕ) → k < value_column p → k ≢ col → form row k <ℤ (pos 0) → (c : ℕ → ℤ)
      × IsComparison p basis form row k col c
      × (IsLeading order.count (λ m. c (order.column m)) → ⊥)
