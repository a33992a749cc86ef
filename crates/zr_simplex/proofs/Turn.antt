-- All equations are changed for a pivot: those above the pivot's, those below it, and then the pivot's.
use Rattle.std.proofs.Common.{◌≡◌, ◌≢◌, ℕ, ◌+◌, ◌*◌, ◌-◌, ◌<◌, ◌≤◌, arith, ⊎_elim, ℤ, pos, ◌<ℤ◌, List, ◌++◌, length}
use Rattle.std.proofs.lemmas.Bool.{cases_lt}
use Rattle.zr_simplex.specs.Programs.{numbers}
use Rattle.zr_basis.specs.BasicForms.{IsPrimitive}
use Rattle.zr_simplex.specs.RowSteps.{IsCleared, IsExchange, IsQuotient, entered, left, swapped}
use Rattle.zr_simplex.specs.Tableaus.{row_in}
use Rattle.zr_simplex.proofs.Grids.{row_in-above, row_in-pivot, row_in-below}

-- the equations are those above the pivot's, the pivot's, and those below it
pub record IsSplit (w row : ℕ) (all above pivot below : List ℤ) : Type 0 where
  pub long : length above ≡ row * w
  pub one : length pivot ≡ w
  pub parts : all ≡ above ++ (pivot ++ below)

module _ {w row : ℕ} {all above pivot below : List ℤ} (s : IsSplit w row all above pivot below) where
  pub at_above : (k : ℕ) → k < row → row_in w all k ≡ row_in w above k
  at_above k h = rw s.parts (row_in-above w row above pivot below s.long s.one k h)

  pub at_pivot : row_in w all row ≡ pivot
  at_pivot = rw s.parts (row_in-pivot w row above pivot below s.long s.one)

  pub at_below : (k : ℕ) → row_in w all (row + (1 + k)) ≡ row_in w below k
  at_below k = rw s.parts (row_in-below w row above pivot below s.long s.one k)

-- made are the equations of which all are split
module _ (count own row place : ℕ) {all above pivot below : List ℤ} (s : IsSplit (own + 1) row all above pivot below) (up mid down : List ℤ) (same_long : length up ≡ row * (own + 1)) (same_one : length mid ≡ own + 1) (quotient : IsQuotient (own + 1) (numbers (swapped place own pivot)) (numbers mid)) (here : (pos 0) <ℤ numbers mid own) (primitive : IsPrimitive (own + 1) (numbers mid)) where
  abbrev Changed : List ℤ → List ℤ → Type 0
  Changed e made = IsCleared (own + 1) (numbers pivot place) (numbers e place) (numbers (left place own pivot)) (numbers (entered place e)) (numbers made) own

  module _ (first : (i : ℕ) → i < row → Changed (row_in (own + 1) above i) (row_in (own + 1) up i)) (second : (i : ℕ) → i < count - row - 1 → Changed (row_in (own + 1) below i) (row_in (own + 1) down i)) where
    made : ℕ → List ℤ
    made i = row_in (own + 1) (up ++ (mid ++ down)) i

    made_pivot : made row ≡ mid
    unfolding made
    made_pivot = row_in-pivot (own + 1) row up mid down same_long same_one

    each_above : (i : ℕ) → i < row → Changed (row_in (own + 1) all i) (made i)
    unfolding made
    each_above i h =
        rw (at_above s i h, row_in-above (own + 1) row up mid down same_long same_one i h) (first i h)

    each_below : (i : ℕ) → row + (1 + i) < count → Changed (row_in (own + 1) all (row + (1 + i))) (made (row + (1 + i)))
    unfolding made
    each_below i h =
        rw (at_below s i, row_in-below (own + 1) row up mid down same_long same_one i) (second i (omega (arith, h)))

    each : (i : ℕ) → i < count → i ≢ row → Changed (row_in (own + 1) all i) (made i)
    each i h apart = ⊎_elim (λ (q : i < row). each_above i q) (λ (q : row ≤ i). let e : i ≡ row + (1 + (i - row - 1)) = omega (arith, apart) in rw e (each_below (i - row - 1) (omega (arith, h, q, apart)))) (cases_lt i row)

    pub exchange_made : IsExchange count own row place (row_in (own + 1) all) (row_in (own + 1) (up ++ (mid ++ down)))
    unfolding made
    exchange_made = record {
      pivoted = rw (at_pivot s, made_pivot) quotient;
      here = rw made_pivot here;
      primitive = rw made_pivot primitive;
      changed = λ i h a. rw (at_pivot s) (each i h a);
    }
