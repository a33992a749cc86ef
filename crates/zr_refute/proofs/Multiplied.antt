-- The rows that are multiplied, one after another.
use Rattle.std.proofs.Common.{◌≡◌, ℕ, zero, suc, ◌+◌, ◌^◌, ◌<◌, arith, sym, ap, subst, ◌∙◌, ℤ, pos, ◌≤ℤ◌, ◌||◌, Ok, Err, Some, List, [], ◌∷◌, length, get_or, slice_get, take, All, ◌⊎◌, ⊎_elim, inl, inr}
use Rattle.std.proofs.lemmas.List.{length-map}
use Rattle.std.proofs.lemmas.Option.{get_or_from_slice_get, slice_get_within}
use Rattle.zr_base.specs.declared.step.Wide.{Wide}
use Rattle.zr_base.specs.Sums.{sum_step}
use Rattle.zr_base.specs.Terms.{AscendWith, Terms, coef_at}
use Rattle.zr_base.proofs.SumSteps.{get_or_default}
use Rattle.zr_lin.specs.declared.system.Combined.{Combined}
use Rattle.zr_lin.specs.Combinations.{Combines}
use Rattle.zr_lin.specs.DenseRows.{AreMultipliers, DenseRow}
use Rattle.zr_lin.specs.Ineqs.{IneqOf, dense, row_at}
use Rattle.zr_lin.proofs.MoreRows.{more, wide_column, wide_right}
use Rattle.zr_game.specs.Players.{GameOf}
use Rattle.zr_game.specs.declared.choice.Choice.{Choice}
use Rattle.zr_system.specs.declared.line.Line.{Line}
use Rattle.zr_system.specs.declared.unknown.Unknown.TheVariants.{One}
use Rattle.zr_system.specs.Asked.{ChoiceExists, HasWideNumber, LineExists, no_line}
use Rattle.zr_system.specs.Lines.{all_lines, row_of_line}
use Rattle.zr_system.specs.Regions.{LeavesOf}
use Rattle.zr_system.specs.System.{ineq_over, system_rows, terms_from}
use Rattle.zr_system.specs.Unknowns.{columns}
use Rattle.zr_system.proofs.ColumnForms.{coef_listed}
use Rattle.zr_system.proofs.Existence.{lines_exist}
use Rattle.zr_refute.specs.Steps.{HasWideRow, HasWideSum}
use Rattle.zr_refute.specs.Sums.{AreAdded, IsWideAdded, line_number, right_step}
use Rattle.zr_refute.proofs.NoSolutions.{row_there}

-- multipliers whose rows are so few
few_from : (low count : ℕ) (P : ℤ → Type 0) (mult : Terms)
    → AscendWith (λ z. ((pos 1) ≤ℤ z) × P z) low (2 ^ 32) mult
    → All (λ (t : ℕ × ℤ). t.0 < count) mult → AscendWith (λ z. (pos 1) ≤ℤ z) low count mult
few_from low count P [] a few = tt
few_from low count P (t ∷ ts) a few = (
  a.0,
  few 0 t (omega arith),
  a.2.0,
  few_from (t.0 + 1) count P ts a.3 (λ k d h. few (suc k) d (omega (arith, h))),
)

few_of : (low count : ℕ) (mult : Terms) → AscendWith (λ z. (pos 1) ≤ℤ z) low count mult
    → All (λ (t : ℕ × ℤ). t.0 < count) mult
few_of low count [] a k d h = absurd (omega arith)
few_of low count (t ∷ ts) a zero d h = a.1
few_of low count (t ∷ ts) a (suc k) d h = few_of (t.0 + 1) count ts a.3 k d (omega (arith, h))

pub are_multipliers : (count : ℕ) (P : ℤ → Type 0) (mult : Terms)
    → AscendWith (λ z. ((pos 1) ≤ℤ z) × P z) 0 (2 ^ 32) mult
    → All (λ (t : ℕ × ℤ). t.0 < count) mult → AreMultipliers count mult
are_multipliers count P mult a few = few_from 0 count P mult a few

pub rows_of_multipliers : (count : ℕ) (mult : Terms) → AreMultipliers count mult
    → All (λ (t : ℕ × ℤ). t.0 < count) mult
rows_of_multipliers count mult a = few_of 0 count mult a

module _ (game : GameOf) (leaves : LeavesOf) (path : List Choice) where
  g : Line → IneqOf
  g line = ineq_over (columns game leaves) (row_of_line game leaves line)

  pub rows_length : length (system_rows game leaves path) ≡ length (all_lines game leaves path)
  rows_length = length-map (all_lines game leaves path)
      (λ line. ineq_over (columns game leaves) (row_of_line game leaves line))

  -- the row of a number
  module _ (n : ℕ) (line : Line) (is : slice_get (all_lines game leaves path) n ≡ Some line) where
    pub line_is : get_or (all_lines game leaves path) n no_line ≡ line
    line_is = get_or_from_slice_get (all_lines game leaves path) n line no_line is

    pub below : n < length (all_lines game leaves path)
    below = slice_get_within (all_lines game leaves path) n line is

    pub line_exists : All (ChoiceExists game leaves) path → LineExists game leaves line
    line_exists exist =
        subst (LineExists game leaves) line_is (lines_exist game leaves path exist n no_line below)

    pub row_is : row_at (system_rows game leaves path) n ≡ dense
        (ineq_over (columns game leaves) (row_of_line game leaves line))
    row_is =
        ap dense (row_there (λ l. ineq_over (columns game leaves) (row_of_line game leaves l))
        (all_lines game leaves path) n _ below) ∙ ap
        (λ (l : Line). dense (ineq_over (columns game leaves) (row_of_line game leaves l))) line_is

  coef_is : (line : Line) (j : ℕ) → j < length (columns game leaves)
      → coef_at (terms_from 0 (columns game leaves) (row_of_line game leaves line).left) j
      ≡ line_number game leaves line (get_or (columns game leaves) j One)
  coef_is line j h =
      let o : 0 + j ≡ j = omega arith in
      ap (λ (k : ℕ). coef_at (terms_from 0 (columns game leaves)
      (row_of_line game leaves line).left) k) (sym o)
      ∙ coef_listed (row_of_line game leaves line).left 0 (columns game leaves) j h

  -- the rows multiplied so far, and the next of them
  module _ (mult : Terms) (i : ℕ) (inside : i < length mult) (line : Line)
      (is : slice_get (all_lines game leaves path) (get_or mult i (0, pos 0)).0 ≡ Some line)
      (left : List ℤ) (total : Combined)
      (sums : Combines (row_at (system_rows game leaves path)) (take i mult) left total)
      (len : length left ≡ length (columns game leaves)) where
    abbrev by : ℤ
    by = (get_or mult i (0, pos 0)).1

    abbrev this : DenseRow
    this = dense (ineq_over (columns game leaves) (row_of_line game leaves line))

    here : row_at (system_rows game leaves path) (get_or mult i (0, pos 0)).0 ≡ this
    here = row_is (get_or mult i (0, pos 0)).0 line is

    pub one_added : (next : List ℤ) (new : Combined) → length next ≡ length left
        → AreAdded game leaves (columns game leaves) line by left next
        → right_step game leaves line by total.le ≡ Ok new.le
        → new.strict ≡ (total.strict || (row_of_line game leaves line).strict)
        → Combines (row_at (system_rows game leaves path)) (take (i + 1) mult) next new
    one_added next new same added right strict =
        subst (λ (s : _). Combines (row_at (system_rows game leaves path)) (take (i + 1) mult) next
        (record { le = new.le; strict = s })) (sym strict)
        (more (row_at (system_rows game leaves path)) mult i inside this here left total.le
        total.strict sums next new.le same (λ j h. subst
        (λ (z : ℤ). sum_step (get_or left j (pos 0)) (by, z) ≡ Ok (get_or next j (pos 0)))
        (sym (coef_is line j (omega (arith, h, len)))) (added j h)) right)

    wide_sum : (w : Wide) → IsWideAdded game leaves (columns game leaves) line by left w
        → HasWideSum game leaves path mult
    wide_sum w h = (
      w,
      wide_column (row_at (system_rows game leaves path)) mult i inside this here left total.le
          total.strict sums (length (columns game leaves)) w len (
            h.0,
            h.1,
            subst
                (λ (z : ℤ). sum_step (get_or left h.0 (pos 0)) (by, z) ≡ Err w)
                (sym (coef_is line h.0 (let b = h.1 in omega (arith, b, len)))) h.2,
          ),
    )

    wide_le : (w : Wide) → right_step game leaves line by total.le ≡ Err w
        → HasWideSum game leaves path mult
    wide_le w h = (
      w,
      wide_right (row_at (system_rows game leaves path)) mult i inside this here left total.le
          total.strict sums (length (columns game leaves)) w h,
    )

    wide_row : (w : Wide) → HasWideNumber game leaves (columns game leaves) line w
        → HasWideRow game leaves path mult
    wide_row w h = (
      get_or mult i (0, pos 0),
      w,
      (i, inside, get_or_default mult i (get_or mult i (0, pos 0)) (0, pos 0) inside),
      subst (λ (l : Line). HasWideNumber game leaves (columns game leaves) l w)
          (sym (line_is (get_or mult i (0, pos 0)).0 line is)) h,
    )

    -- a step that is too wide as the next row is added
    pub wide_added : (w : Wide) → HasWideNumber game leaves (columns game leaves) line w
        ⊎ (IsWideAdded game leaves (columns game leaves) line by left w
        ⊎ (right_step game leaves line by total.le ≡ Err w))
        → HasWideRow game leaves path mult ⊎ HasWideSum game leaves path mult
    wide_added w h =
        ⊎_elim (λ (a : HasWideNumber game leaves (columns game leaves) line w). inl (wide_row w a))
        (λ b. ⊎_elim (λ (a : IsWideAdded game leaves (columns game leaves) line by left w).
        inr (wide_sum w a)) (λ (a : right_step game leaves line by total.le ≡ Err w).
        inr (wide_le w a)) b) h
