-- What the sums of a combination tell.
use Rattle.std.proofs.Common.{◌≡◌, ℕ, ◌<◌, arith, refl, ℤ, pos, ◌<ℤ◌, Bool, true, false, ◌&&◌, IsTrue, ◌↔◌, List, length, All, Err, ◌⊎◌, ⊎_elim}
use Rattle.zr_base.specs.declared.step.Wide.{Wide}
use Rattle.zr_base.specs.Sums.{sum_steps}
use Rattle.zr_base.specs.Terms.{Terms}
use Rattle.zr_lin.specs.declared.system.Combined.{Combined}
use Rattle.zr_lin.specs.Combinations.{Combines, HasWideStep}
use Rattle.zr_lin.specs.DenseRows.{DenseRow, Refutes, column_products, right_products}
use Rattle.zr_lin.proofs.Summed.{is_combination, refutes_if, zero_if}

IsNegative : Combined → Type 0
IsNegative sum = (sum.le <ℤ (pos 0)) ⊎ ((sum.le ≡ pos 0) × (sum.strict ≡ true))

both : (a b : Bool) → IsTrue (a && b) → IsTrue a × IsTrue b
both true true h = (refl, refl)
both true false h = absurd cc
both false b h = absurd cc

joined : (a b : Bool) → IsTrue a → IsTrue b → IsTrue (a && b)
joined true true h k = refl
joined true false h k = absurd cc
joined false b h k = absurd cc

module _ (row : ℕ → DenseRow) (mult : Terms) (left : List ℤ) (sum : Combined)
    (sums : Combines row mult left sum) (columns : ℕ) (len : length left ≡ columns) where
  pub closing : (zeroes negative : Bool) → IsTrue zeroes ↔ All (λ z. z ≡ pos 0) left
      → IsTrue negative ↔ ((sum.le <ℤ (pos 0)) ⊎ ((sum.le ≡ pos 0) × (sum.strict ≡ true)))
      → IsTrue (zeroes && negative) ↔ Refutes columns row mult
  closing z n zeros negatives =
      let c = is_combination row mult left sum sums in (
        λ t. let b = both z n t in
            refutes_if row mult left sum columns len c (zeros.0 b.0) (negatives.0 b.1),
        λ r. joined z n (zeros.1 (zero_if row mult left sum columns len c r)) (negatives.1
            (rw (c.right, c.strict) r.1)),
      )

  -- sums that were made have no step that is too wide
  pub none_wide : (w : Wide) → HasWideStep columns row mult w → ⊥
  none_wide w h =
      ⊎_elim (λ (a : (j : ℕ) × (j < columns) × (sum_steps (pos 0) (column_products row mult j)
      ≡ Err w)). let e = sums.columns a.0 (let b = a.1 in omega (arith, b, len)) in let f = a.2 in cc)
      (λ (a : sum_steps (pos 0) (right_products row mult) ≡ Err w). let e = sums.right in cc) h
