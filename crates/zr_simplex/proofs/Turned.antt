-- A pivot leaves the basic form of the next basis.
use Rattle.std.proofs.Common.{◌≡◌, ◌≢◌, ℕ, ◌<◌, arith, ap, ◌∙◌, length, set, slice_index, length-set, get_or-set_same, get_or-set_other}
use Rattle.zr_basis.specs.Programs.{Program}
use Rattle.zr_basis.specs.BasicForms.{value_column}
use Rattle.zr_simplex.specs.RowSteps.{IsPivot}
use Rattle.zr_simplex.specs.Tableaus.{Equations, IsPartition, basis_of, form_of, free_of}
use Rattle.zr_simplex.specs.Dues.{IsTableau}
use Rattle.zr_simplex.proofs.Pivots.{pivot_keeps}

pub turned : (p : Program) (t new : Equations) (row col : ℕ) → IsTableau p t → row < p.rows → col < value_column p → new.width ≡ t.width → IsPivot (length t.basis) t.width (basis_of t) (form_of t) row col (form_of new) → new.basis ≡ set t.basis row col → IsPartition new.width new.basis new.free → (length new.free ≡ length t.free) × ((k : ℕ) → k < length t.free → free_of t k ≢ col → free_of new k ≡ free_of t k) → IsTableau p new
unfolding form_of
turned p t new row col kept inside column width made is partition off =
    let pivot = rw (kept.count, kept.width) at made in
    let here : basis_of new row ≡ col = ap (λ b. slice_index b row) is ∙ get_or-set_same t.basis row col 0 (omega (arith, kept.count, inside)) in
    let else : (i : ℕ) → i ≢ row → basis_of new i ≡ basis_of t i = λ i a. ap (λ b. slice_index b i) is ∙ get_or-set_other t.basis row i col 0 a in
    record {
      count = ap length is ∙ length-set t.basis row col ∙ kept.count;
      width = width ∙ kept.width;
      partition = partition;
      free_count = off.0 ∙ kept.free_count;
      right = off.1 p.columns (omega (arith, kept.free_count)) (λ e. omega (arith, e, kept.right, column)) ∙ kept.right;
      form = pivot_keeps p (basis_of t) (form_of t) kept.form row col inside column (basis_of new) here else (form_of new) pivot;
    }
