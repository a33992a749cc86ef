-- The row that leaves and the column that enters, found one after the other.
use Rattle.std.proofs.Common.{◌≡◌, ℕ, ◌+◌, ◌<◌, ◌≤◌, arith, refl, ap, Option, None, Some, MatchOption, ℤ, pos, ◌-ℤ◌, ◌*ℤ◌, ◌<ℤ◌, ◌≤ℤ◌, ◌⊎◌, ⊎_elim}
use Rattle.std.proofs.lemmas.Int.{ints}
use Rattle.zr_basis.specs.Programs.{Program}
use Rattle.zr_basis.specs.BasicForms.{right_column, value_column, IsFree, IsBasicForm}
use Rattle.zr_basis.specs.Orders.{Order, IsOrder}
use Rattle.zr_basis.specs.Primal.{vector, place, IsRowBelow, IsPrimalDue}
use Rattle.zr_basis.specs.Dual.{IsDirectionBelow, IsDualDue}
use Rattle.zr_basis.proofs.Signs.{side, sign}
use Rattle.zr_basis.proofs.Vectors.{lower_apart, lower_trans}
use Rattle.zr_basis.proofs.Chosen as AChosen
use Rattle.zr_basis.proofs.Links.{free_under}
use Rattle.zr_basis.proofs.Least.{IsLeast, IsBestSoFar, IsBetter, one_marked, one_unmarked}

not_above : (z : ℤ) → ((pos 0) <ℤ z → ⊥) → z ≤ℤ (pos 0)
not_above z never = ⊎_elim (λ (a : (pos 0) <ℤ z). absurd (never a)) (λ (r : (z ≡ pos 0) ⊎ (z <ℤ (pos 0))). ⊎_elim (λ (e : z ≡ pos 0). omega (arith, ints, e)) (λ (b : z <ℤ (pos 0)). omega (arith, ints, b)) r) (sign z)

not_under : (z : ℤ) → (z <ℤ (pos 0) → ⊥) → (pos 0) ≤ℤ z
not_under z never = ⊎_elim (λ (a : (pos 0) <ℤ z). omega (arith, ints, a)) (λ (r : (z ≡ pos 0) ⊎ (z <ℤ (pos 0))). ⊎_elim (λ (e : z ≡ pos 0). omega (arith, ints, e)) (λ (b : z <ℤ (pos 0)). absurd (never b)) r) (sign z)

module _ (p : Program) (start : ℕ → ℕ) (form : ℕ → ℕ → ℤ) (col : ℕ) where
  abbrev pub IsAbove : ℕ → Type 0
  IsAbove i = (pos 0) <ℤ form i col

  row_chain : (i k m : ℕ) → IsAbove i → IsAbove k → IsAbove m → IsRowBelow p start form col i k → IsRowBelow p start form col k m → IsRowBelow p start form col i m
  row_chain i k m a b c =
      lower_trans (p.rows + 1) (vector p start (form i)) (vector p start (form k)) (vector p start (form m)) (form i col) (form k col) (form m col) a b c

  row_self : (i : ℕ) → IsAbove i → IsRowBelow p start form col i i → ⊥
  row_self i a =
      lower_apart (p.rows + 1) (vector p start (form i)) (vector p start (form i)) (form i col) (form i col) (λ k h. refl)

  pub row_skipped : (i : ℕ) (best : Option ℕ) → form i col ≤ℤ (pos 0) → IsBestSoFar IsAbove (IsRowBelow p start form col) i best → IsBestSoFar IsAbove (IsRowBelow p start form col) (i + 1) best
  row_skipped i best low =
      one_unmarked IsAbove (IsRowBelow p start form col) i best (λ a. omega (arith, ints, low, a))

  pub row_taken : (i : ℕ) (best : Option ℕ) (result : ℕ) → (pos 0) <ℤ form i col → IsBestSoFar IsAbove (IsRowBelow p start form col) i best → IsBetter (IsRowBelow p start form col) best i result → IsLeast IsAbove (IsRowBelow p start form col) (i + 1) result
  row_taken = one_marked IsAbove (IsRowBelow p start form col) row_chain row_self

  pub row_found : (best : Option ℕ) → col < value_column p → (pos 0) <ℤ form p.rows col → IsBestSoFar IsAbove (IsRowBelow p start form col) p.rows best → MatchOption best ((i : ℕ) → i < p.rows → form i col ≤ℤ (pos 0)) (λ row. IsPrimalDue p start form row col)
  row_found None column falls none = λ i h. not_above (form i col) (none i h)
  row_found (Some row) column falls first = record {
    below = first.inside;
    column = column;
    falls = falls;
    above = first.marked;
    least = first.least;
  }

  module _ (row last : ℕ) where
    -- place k of both vectors has one quotient
    abbrev pub IsLevelAt : ℕ → Type 0
    IsLevelAt k =
        form row (place p start k) *ℤ form last col ≡ form last (place p start k) *ℤ form row col

    gap_zero : (x y : ℤ) → x ≡ y → y -ℤ x ≡ pos 0
    gap_zero x y e = omega (arith, ints, e)

    pub row_below_at : (k : ℕ) → k < p.rows + 1 → ((j : ℕ) → j < k → IsLevelAt j) → (form row (place p start k) *ℤ form last col) <ℤ (form last (place p start k) *ℤ form row col) → IsRowBelow p start form col row last
    row_below_at k h level less =
        (k, h, (λ j q. gap_zero (form row (place p start j) *ℤ form last col) (form last (place p start j) *ℤ form row col) (level j q)), omega (arith, ints, less))

    pub row_not_below_at : (k : ℕ) → ((j : ℕ) → j < k → IsLevelAt j) → (form last (place p start k) *ℤ form row col) <ℤ (form row (place p start k) *ℤ form last col) → IsRowBelow p start form col row last → ⊥
    row_not_below_at k level more (m, g, before, above) = ⊎_elim (λ (b : m < k). let e = level m b in omega (arith, ints, e, above)) (λ (b : k ≤ m). ⊎_elim (λ (c : k < m). let z = before k c in omega (arith, ints, z, more)) (λ (c : m ≤ k). let e : m ≡ k = omega arith in let s = ap (λ i. form last (place p start i) *ℤ form row col) e in let t = ap (λ i. form row (place p start i) *ℤ form last col) e in omega (arith, ints, s, t, above, more)) (side k m)) (side m k)

    pub row_level : ((j : ℕ) → j < p.rows + 1 → IsLevelAt j) → IsRowBelow p start form col row last → ⊥
    row_level level =
        lower_apart (p.rows + 1) (vector p start (form row)) (vector p start (form last)) (form row col) (form last col) level

-- the columns off the basis stand at the places 0, .., p.columns - 1 of a list
module _ (p : Program) (order : Order) (ordered : IsOrder p order) (basis : ℕ → ℕ) (form : ℕ → ℕ → ℤ) (basic : IsBasicForm p basis form) (row : ℕ) (below : row < p.rows) (free : ℕ → ℕ) (inside : (k : ℕ) → k < p.columns → free k < value_column p) (all : (j : ℕ) → IsFree p basis j → (k : ℕ) × (k < p.columns) × (free k ≡ j)) where
  abbrev pub IsUnder : ℕ → Type 0
  IsUnder k = (k < p.columns) × (form row (free k) <ℤ (pos 0))

  abbrev pub IsPlaceBelow : ℕ → ℕ → Type 0
  IsPlaceBelow k l = IsDirectionBelow p order basis form row (free k) (free l)

  marked : (k : ℕ) → IsUnder k → AChosen.Marked p order ordered basis form basic row below (free k)
  marked k (h, under) = (inside k h, under)

  pub column_skipped : (k : ℕ) (best : Option ℕ) → (pos 0) ≤ℤ form row (free k) → IsBestSoFar IsUnder IsPlaceBelow k best → IsBestSoFar IsUnder IsPlaceBelow (k + 1) best
  column_skipped k best high =
      one_unmarked IsUnder IsPlaceBelow k best (λ m. let under = m.1 in omega (arith, ints, high, under))

  pub column_taken : (k : ℕ) (best : Option ℕ) (result : ℕ) → IsUnder k → IsBestSoFar IsUnder IsPlaceBelow k best → IsBetter IsPlaceBelow best k result → IsLeast IsUnder IsPlaceBelow (k + 1) result
  column_taken =
      one_marked IsUnder IsPlaceBelow (λ i k m a b c. AChosen.chain p order ordered basis form basic row below (free i) (free k) (free m) (marked i a) (marked k b) (marked m c)) (λ i a. AChosen.self p order ordered basis form basic row below (free i) (marked i a))

  -- a column where the row is below zero stands there
  place_of : (j : ℕ) → j < value_column p → form row j <ℤ (pos 0) → (k : ℕ) × (k < p.columns) × (free k ≡ j)
  place_of j h under = all j (h, free_under p basis form basic row j below under)

  pub column_found : (best : Option ℕ) → form row (right_column p) <ℤ (pos 0) → IsBestSoFar IsUnder IsPlaceBelow p.columns best → MatchOption best ((j : ℕ) → j < value_column p → (pos 0) ≤ℤ form row j) (λ k. (k < p.columns) × IsDualDue p order basis form row (free k))
  column_found None right none = λ j h. not_under (form row j) (λ b. let at = place_of j h b in none at.0 at.1 (at.1, rw at.2 b))
  column_found (Some best) right first = (
    first.inside,
    AChosen.due_if_least p order ordered basis form basic row below (free best) (marked best first.marked) right (λ j m lower. let at = place_of j m.0 m.1 in first.least at.0 at.1 (at.1, rw at.2 m.1) (rw at.2 lower)),
  )
