-- A row's value at columns is its value at the variables' values.
use Rattle.std.proofs.Common.{◌≡◌, ℕ, suc, ◌+◌, ◌<◌, ◌==◌, arith, refl, sym, ap, ap₂, ◌∙◌, ℤ, pos, negsuc, ◌+ℤ◌, ◌*ℤ◌, Bool, true, false, cond, List, [], ◌∷◌, length}
use Rattle.std.proofs.lemmas.Int.{ints}
use Rattle.std.proofs.Math.IntN.{*ℤ_comm}
use Rattle.zr_base.specs.Sums.{sum_to}
use Rattle.zr_base.proofs.Dense.{sum_to-add, sum_to_same, sum_to_zero}
use Rattle.zr_base.proofs.Ring.{mul-add_left, mul_assoc}
use Rattle.zr_base.proofs.Worth.{Each}
use Rattle.zr_game.specs.Players.{VarOf}
use Rattle.zr_game.proofs.Columns.{one_column}
use Rattle.zr_tree.proofs.ColumnSums.{first_apart}
use Rattle.zr_asked.specs.Parts.{Part, by_part, is_from_zero, parts_from, parts_of, value_by, value_from}

-- the columns are those of the variables
pub parts_below : (total v : ℕ) (vars : List VarOf) → v + length vars ≡ total
    → Each (λ part. part.0 < total) (parts_from v vars)
parts_below total v [] e = tt
parts_below total v (var ∷ vars) e =
    which (is_from_zero var.low) (parts_from (suc v) vars)
    (parts_below total (suc v) vars (omega (arith, e)))
  where
    which : (b : Bool) (rest : List Part) → Each (λ part. part.0 < total) rest
        → Each (λ part. part.0 < total)
        (cond b ((v, pos 1) ∷ rest) ((v, pos 1) ∷ (v, negsuc 0) ∷ rest))
    which true rest all = (omega (arith, e), all)
    which false rest all = (omega (arith, e), (omega (arith, e), all))

module _ (coef y : ℕ → ℤ) where
  -- the sum over the columns from c on
  abbrev row_from : ℕ → List Part → ℤ
  row_from c [] = pos 0
  row_from c (part ∷ parts) = (part.1 *ℤ coef part.0) *ℤ y c +ℤ row_from (suc c) parts

  by_columns : (c : ℕ) (parts : List Part)
      → sum_to (length parts) (λ k. by_part parts coef k *ℤ y (c + k)) ≡ row_from c parts
  by_columns c [] = refl
  by_columns c (part ∷ parts) =
      let first = first_apart (length parts)
      (λ k. by_part (part ∷ parts) coef k *ℤ y (c + k)) in
      let here : c + 0 ≡ c = omega arith in
      let head : by_part (part ∷ parts) coef 0 *ℤ y (c + 0) ≡ (part.1 *ℤ coef part.0) *ℤ y c =
      ap (λ (n : ℕ). (part.1 *ℤ coef part.0) *ℤ y n) here in
      let rest = sum_to_same (length parts)
      (λ k. by_part (part ∷ parts) coef (suc k) *ℤ y (c + suc k))
      (λ k. by_part parts coef k *ℤ y (suc c + k))
      (λ k h. let e : c + suc k ≡ suc c + k = omega arith in
      ap (λ (n : ℕ). by_part parts coef k *ℤ y n) e) in
      first ∙ ap₂ ◌+ℤ◌ head (rest ∙ by_columns (suc c) parts)

  swapped : (a b c : ℤ) → (a *ℤ b) *ℤ c ≡ (a *ℤ c) *ℤ b
  swapped a b c =
      mul_assoc a b c ∙ ap (λ (z : ℤ). a *ℤ z) (*ℤ_comm b c) ∙ sym (mul_assoc a c b)

  by_variables : (n c : ℕ) (parts : List Part) → Each (λ part. part.0 < n) parts
      → sum_to n (λ v. coef v *ℤ value_from c parts y v) ≡ row_from c parts
  by_variables n c [] all =
      sum_to_same n (λ v. coef v *ℤ pos 0) (λ v. pos 0) (λ v h. omega (arith, ints)) ∙
      sum_to_zero n
  by_variables n c (part ∷ parts) all =
      let z = part.1 *ℤ y c in
      let f = λ (v : ℕ). cond (part.0 == v) z (pos 0) in
      let r = λ (v : ℕ). value_from (suc c) parts y v in
      let split = sum_to_same n (λ v. coef v *ℤ (f v +ℤ r v))
      (λ v. f v *ℤ coef v +ℤ coef v *ℤ r v)
      (λ v h. mul-add_left (coef v) (f v) (r v) ∙
      ap (λ (a : ℤ). a +ℤ coef v *ℤ r v) (*ℤ_comm (coef v) (f v))) in
      let sums = sum_to-add n (λ v. f v *ℤ coef v) (λ v. coef v *ℤ r v) in
      let head = one_column n part.0 z coef all.0 ∙ swapped part.1 (y c) (coef part.0) in
      split ∙ sums ∙ ap₂ ◌+ℤ◌ head (by_variables n (suc c) parts all.1)

pub branch_values : (vars : List VarOf) (coef y : ℕ → ℤ)
    → sum_to (length (parts_of vars)) (λ c. by_part (parts_of vars) coef c *ℤ y c)
    ≡ sum_to (length vars) (λ v. coef v *ℤ value_by (parts_of vars) y v)
branch_values vars coef y =
    let parts = parts_of vars in
    let total : 0 + length vars ≡ length vars = omega arith in
    sum_to_same (length parts) (λ c. by_part parts coef c *ℤ y c)
    (λ c. by_part parts coef c *ℤ y (0 + c))
    (λ c h. let e : c ≡ 0 + c = omega arith in
    ap (λ (n : ℕ). by_part parts coef c *ℤ y n) e) ∙ by_columns coef y 0 parts ∙
    sym (by_variables coef y (length vars) 0 parts (parts_below (length vars) 0 vars total))
