-- The terms of a slot's row, with their signs.
use Rattle.std.proofs.Common.{◌≡◌, ℕ, zero, suc, ◌+◌, ◌<◌, ◌==◌, arith, refl, ap, subst, ◌∙◌, ℤ, pos, Bool, true, false, cond, List, [], ◌∷◌, length, take, get_or, All, Ok, Err}
use Rattle.std.proofs.lemmas.Int.{ints}
use Rattle.std.proofs.lemmas.List.{get_or-map, length-map}
use Rattle.zr_base.specs.declared.step.Wide.{Wide}
use Rattle.zr_base.specs.Sums.{sum_step, sum_steps}
use Rattle.zr_base.specs.Terms.{AscendWith, Terms as TermList, coef_at}
use Rattle.zr_base.specs.Rows.{products}
use Rattle.zr_base.specs.Points.{PointOf, num_of}
use Rattle.zr_base.proofs.RowProducts.{product_more, product_wide}
use Rattle.zr_game.specs.Forms.{IsCoefficient}
use Rattle.zr_tree.specs.declared.slot.Left.{Left}
use Rattle.zr_tree.specs.declared.slot.Left.TheVariants.{Terms, Column}
use Rattle.zr_tree.specs.SlotRows.{IsLeft, left_coef, left_terms, signed, signed_terms}
use Rattle.zr_tree.specs.CoverSteps.{column_products}
use Rattle.zr_tree.proofs.ColumnSums.{column_sums}

-- the columns of terms are below the number of columns
pub terms_below : (P : ℤ → Type 0) (low columns : ℕ) (ts : TermList)
    → AscendWith P low columns ts → All (λ t. t.0 < columns) ts
terms_below P low columns [] a k d h = absurd (omega (arith, h))
terms_below P low columns (t ∷ ts) a zero d h = a.1
terms_below P low columns (t ∷ ts) a (suc k) d h =
    terms_below P (t.0 + 1) columns ts a.3 k d (omega (arith, h))

abbrev pub Free : ℤ → Type 0
Free z = Unit {0}

free : (P : ℤ → Type 0) (low columns : ℕ) (negated : Bool) (ts : TermList)
    → AscendWith P low columns ts → AscendWith Free low columns (signed_terms negated ts)
free P low columns negated [] a = tt
free P low columns negated (t ∷ ts) a = (a.0, a.1, tt, free P (t.0 + 1) columns negated ts a.3)

signed_zero : (negated : Bool) → pos 0 ≡ signed negated (pos 0)
signed_zero true = omega (arith, ints)
signed_zero false = refl

signed_coef : (negated : Bool) (ts : TermList) (j : ℕ)
    → coef_at (signed_terms negated ts) j ≡ signed negated (coef_at ts j)
signed_coef negated [] j = signed_zero negated
signed_coef negated (t ∷ ts) j =
    ap (λ (z : ℤ). cond (t.0 == j) (signed negated t.1) z) (signed_coef negated ts j) ∙
    which (t.0 == j)
  where
    which : (b : Bool) → cond b (signed negated t.1) (signed negated (coef_at ts j))
        ≡ signed negated (cond b t.1 (coef_at ts j))
    which true = refl
    which false = refl

-- the left side by its terms is that by its columns
pub left_sums : (columns : ℕ) (left : Left) (x : PointOf) → IsLeft columns left
    → sum_steps (pos 0) (products (left_terms left) x.num)
    ≡ sum_steps (pos 0) (column_products 0 columns (left_coef left) (num_of x))
left_sums columns (Terms terms negated) x form =
    let all : columns ≡ 0 + columns = omega arith in
    column_sums Free columns 0 (signed_terms negated terms.now) x.num (pos 0)
    (subst (λ (n : ℕ). AscendWith Free 0 n (signed_terms negated terms.now)) all
    (free IsCoefficient 0 columns negated terms.now form)) (omega arith) ∙
    ap (λ (f : ℕ → ℤ). sum_steps (pos 0) (column_products 0 columns f (num_of x)))
    (λ i j. signed_coef negated terms.now j i)
left_sums columns (Column var number) x form =
    column_sums Free columns 0 ((var, number) ∷ []) x.num (pos 0)
    (omega arith, omega (arith, form), tt, tt) (omega arith)

module _ (negated : Bool) (terms : TermList) (num : List ℤ) (i : ℕ) (below : i < length terms) where
  abbrev this : ℕ × ℤ
  this = get_or terms i (0, pos 0)

  read : get_or (signed_terms negated terms) i (0, pos 0) ≡ (this.0, signed negated this.1)
  read = get_or-map (λ t. (t.0, signed negated t.1)) terms i (0, pos 0) (0, pos 0) below

  under : i < length (signed_terms negated terms)
  under = omega (arith, below, length-map {B = ℕ × ℤ} terms (λ t. (t.0, signed negated t.1)))

  module _ (s : ℤ) (sum : sum_steps (pos 0) (products (take i (signed_terms negated terms)) num) ≡ Ok s) where
    pub signed_more : (v : ℤ)
        → sum_step s (signed negated this.1, get_or num this.0 (pos 0)) ≡ Ok v
        → sum_steps (pos 0) (products (take (i + 1) (signed_terms negated terms)) num) ≡ Ok v
    signed_more v e =
        product_more (signed_terms negated terms) num i s under sum v
        (ap (λ (t : ℕ × ℤ). sum_step s (t.1, get_or num t.0 (pos 0))) read ∙ e)

    pub signed_wide : (w : Wide)
        → sum_step s (signed negated this.1, get_or num this.0 (pos 0)) ≡ Err w
        → sum_steps (pos 0) (products (signed_terms negated terms) num) ≡ Err w
    signed_wide w e =
        product_wide (signed_terms negated terms) num i s under sum w
        (ap (λ (t : ℕ × ℤ). sum_step s (t.1, get_or num t.0 (pos 0))) read ∙ e)
