-- Inequalities and the dense rows that they stand for.
use Rattle.std.proofs.Common.{◌≡◌, ℕ, ◌<◌, sym, ap, subst, ◌∙◌, ℤ, pos, false, List, [], map, length, get_or, All, ◌⊎◌, ⊎_elim, inl, inr, ◌↔◌}
use Rattle.std.proofs.lemmas.List.{get_or-map, length-map}
use Rattle.zr_base.specs.Terms.{Terms}
use Rattle.zr_base.proofs.Dense.{value_dense}
use Rattle.zr_base.proofs.SumSteps.{get_or_default}
use Rattle.zr_lin.specs.declared.system.Ineq.{Ineq}
use Rattle.zr_lin.specs.DenseRows.{DenseRow, DenseHolds, DenseSolves, HasDenseSolution, HasNoDenseSolution, HasRefutation, AreMultipliers, combination}
use Rattle.zr_lin.specs.Ineqs.{IneqOf, ineq_of, IneqHolds, IsIneq, Solves, HasSolution, HasNoSolution, IsRefuted, dense, row_at}
use Rattle.zr_lin.proofs.Combining.{combination_holds, refutation_excludes}
use Rattle.zr_lin.proofs.Multipliers.{solution_or_refutation}

ineq_dense : (columns : ℕ) (row : IneqOf) (p : ℕ → ℤ) (d : ℤ) → IsIneq columns row → IneqHolds p d row ↔ DenseHolds columns p d (dense row)
ineq_dense columns row p d form =
    let e = value_dense 0 columns row.coef p form.0 in
    (λ h. rw e at h, λ h. rw e h)

abbrev none : IneqOf
none = record { coef = []; le = pos 0; strict = false }

module _ (columns : ℕ) (rows : List IneqOf) (form : All (IsIneq columns) rows) where
  pub solves_dense : (p : ℕ → ℤ) (d : ℤ) → Solves rows p d → DenseSolves columns (length rows) (row_at rows) p d
  solves_dense p d s =
      (s.0, λ k h. (ineq_dense columns (get_or rows k none) p d (form k none h)).0 (s.1 k none h))

  pub solves_ineqs : (p : ℕ → ℤ) (d : ℤ) → DenseSolves columns (length rows) (row_at rows) p d → Solves rows p d
  solves_ineqs p d s =
      (s.0, λ k e h. rw (get_or_default rows k e none h) ((ineq_dense columns (get_or rows k none) p d (form k none h)).1 (s.1 k h)))

  pub refuted_excludes : IsRefuted columns rows → HasNoSolution rows
  refuted_excludes r p d s = refutation_excludes columns (length rows) (row_at rows) r p d (solves_dense p d s)

  pub ineq_combination_holds : (p : ℕ → ℤ) (d : ℤ) → Solves rows p d → (mult : Terms) → AreMultipliers (length rows) mult → DenseHolds columns p d (combination (row_at rows) mult)
  ineq_combination_holds p d s mult good =
      combination_holds columns (length rows) (row_at rows) p d (solves_dense p d s) mult good

  pub solution_or_refuted : HasSolution rows ⊎ IsRefuted columns rows
  solution_or_refuted =
      ⊎_elim (λ (s : HasDenseSolution columns (length rows) (row_at rows)). inl (s.0, s.1, solves_ineqs s.0 s.1 s.2)) (λ (r : IsRefuted columns rows). inr r) (solution_or_refutation columns (length rows) (row_at rows))

  pub none_exactly_refuted : HasNoSolution rows ↔ IsRefuted columns rows
  none_exactly_refuted =
      (λ none. ⊎_elim (λ (s : HasSolution rows). absurd (none s.0 s.1 s.2)) (λ (r : IsRefuted columns rows). r) solution_or_refuted, refuted_excludes)

pub none_exactly_refutation : (columns count : ℕ) (row : ℕ → DenseRow) → HasNoDenseSolution columns count row ↔ HasRefutation columns count row
none_exactly_refutation columns count row =
    (λ none. ⊎_elim (λ (s : HasDenseSolution columns count row). absurd (none s.0 s.1 s.2)) (λ (r : HasRefutation columns count row). r) (solution_or_refutation columns count row), refutation_excludes columns count row)

-- a row that was read is the row of that number
pub read_row : (rows : List Ineq) (k : ℕ) (row : Ineq) → k < length rows → row ≡ get_or rows k row → row_at (map ineq_of rows) k ≡ dense (ineq_of row)
read_row rows k row h is = ap dense (get_or-map ineq_of rows k row none h ∙ ap ineq_of (sym is))

pub read_form : (columns : ℕ) (rows : List Ineq) → All (IsIneq columns) (map ineq_of rows) → (k : ℕ) (row : Ineq) → k < length rows → row ≡ get_or rows k row → IsIneq columns (ineq_of row)
read_form columns rows form k row h is =
    let n : k < length (map ineq_of rows) = rw (length-map rows ineq_of) h in
    subst (IsIneq columns) (get_or-map ineq_of rows k row none h ∙ ap ineq_of (sym is)) (form k none n)
