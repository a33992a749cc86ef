-- What sums by steps say of a combination.
use Rattle.std.proofs.Common.{◌≡◌, ℕ, arith, sym, ◌∙◌, ℤ, pos, ◌<ℤ◌, true, List, length, get_or, All, ◌⊎◌}
use Rattle.std.proofs.lemmas.Int.{ints}
use Rattle.zr_base.specs.Steps.{IsNarrow}
use Rattle.zr_base.specs.Terms.{Terms}
use Rattle.zr_base.proofs.SumSteps.{sum_steps_exact, sum_steps_narrow, get_or_default}
use Rattle.zr_lin.specs.declared.system.Combined.{Combined}
use Rattle.zr_lin.specs.DenseRows.{DenseRow, Refutes, column_products, right_products}
use Rattle.zr_lin.specs.Combinations.{Combines, IsCombination}

module _ (row : ℕ → DenseRow) (mult : Terms) (left : List ℤ) (sum : Combined) where
  -- a sum by steps is the sum
  pub is_combination : Combines row mult left sum → IsCombination row mult left sum
  is_combination sums = record {
    columns = λ j h. let e = sum_steps_exact (pos 0) (get_or left j (pos 0)) (column_products row mult j) (sums.columns j h) in omega (arith, ints, e);
    right = let e = sum_steps_exact (pos 0) sum.le (right_products row mult) sums.right in omega (arith, ints, e);
    strict = sums.strict;
  }

  pub left_narrow : Combines row mult left sum → All IsNarrow left
  left_narrow sums k d h =
      let e = sum_steps_narrow (pos 0) (get_or left k (pos 0)) (column_products row mult k) (omega arith) (sums.columns k h) in
      rw (get_or_default left k d (pos 0) h) e

  pub le_narrow : Combines row mult left sum → IsNarrow sum.le
  le_narrow sums = sum_steps_narrow (pos 0) sum.le (right_products row mult) (omega arith) sums.right

  module _ (columns : ℕ) (len : length left ≡ columns) (sums : IsCombination row mult left sum) where
    pub refutes_if : All (λ z. z ≡ pos 0) left → ((sum.le <ℤ (pos 0)) ⊎ ((sum.le ≡ pos 0) × (sum.strict ≡ true))) → Refutes columns row mult
    refutes_if zeros negative =
        (λ j h. sym (sums.columns j (omega (arith, len))) ∙ zeros j (pos 0) (omega (arith, len)), rw (← sums.right, ← sums.strict) negative)

    pub zero_if : Refutes columns row mult → All (λ z. z ≡ pos 0) left
    zero_if r k d h =
        let e = sums.columns k h ∙ r.0 k (omega (arith, len)) in
        rw (get_or_default left k d (pos 0) h) e
