-- The sum of products of two lists of fractions.
use Rattle.std.proofs.Common.{◌≡◌, ℕ, zero, suc, ◌+◌, ◌<◌, arith, refl, sym, ap, subst, ◌∙◌, pos, ◌<ℤ◌, Result, Ok, Err, List, length, get_or, take}
use Rattle.std.specs.List.{zip}
use Rattle.std.proofs.lemmas.Int.{ints}
use Rattle.std.proofs.lemmas.Slice.Zip.{get_or-zip, length-zip}
use Rattle.zr_base.specs.declared.step.Wide.{Wide}
use Rattle.zr_base.specs.Fractions.{Fraction, IsSame, plus, sum_below, times, whole}
use Rattle.zr_base.specs.Lowest.{IsLowest, add_of, mul_of}
use Rattle.zr_base.proofs.SameLaws.{plus_same, same_refl, same_through, sum_below_same, times_same}
use Rattle.zr_game.proofs.CostSums.{Summed, all_summed, more_summed, none_summed, wide_sum, wide_term, zero_lowest}
use Rattle.zr_mix.specs.Steps.{value_steps}
use Rattle.zr_mix.specs.Values.{AreReduced, IsReduced, item_of}

abbrev pub product_made : Fraction × Fraction → Result Fraction Wide
product_made p = mul_of p.0 p.1

abbrev pub product_of : Fraction × Fraction → Fraction
product_of p = times p.0 p.1

-- the sum of the first v products
pub record ValueOf (slope mean : List Fraction) (v : ℕ) (sum : Fraction) : Type 0 where
  pub summed : Summed product_made product_of (whole (pos 0)) (take v (zip slope mean)) sum
  pub exact : IsSame sum (sum_below v (λ k. times (item_of slope k) (item_of mean k)))

module _ (slope mean : List Fraction) where
  pub none_of : ValueOf slope mean 0 (whole (pos 0))
  none_of = record {
    summed = none_summed product_made product_of (whole (pos 0)) zero_lowest;
    exact = same_refl (whole (pos 0)) (omega (arith, ints));
  }

  module _ (v : ℕ) (sum : Fraction) (before : ValueOf slope mean v sum)
      (lens : length slope ≡ length mean) (here : v < length slope) where
    in_zip : v < length (zip slope mean)
    in_zip = let l = length-zip slope mean in omega (arith, l)

    item_is : get_or (zip slope mean) v (whole (pos 0), whole (pos 0)) ≡ (
      item_of slope v,
      item_of mean v,
    )
    item_is = get_or-zip slope mean v (whole (pos 0), whole (pos 0)) here (omega arith)

    pub more_of : (a next : Fraction) → Ok a ≡ mul_of (item_of slope v) (item_of mean v)
        → IsSame a (times (item_of slope v) (item_of mean v)) → Ok next ≡ add_of sum a
        → IsSame next (plus sum a) → IsLowest next → ValueOf slope mean (v + 1) next
    more_of a next made same adds e next_lowest =
        let product = λ (k : ℕ). times (item_of slope k) (item_of mean k) in
        let s = sum_below v product in
        let both = plus_same sum a s (product v) before.exact same in
        let n : suc v ≡ v + 1 = omega arith in
        let zeros : Fraction × Fraction = (whole (pos 0), whole (pos 0)) in
        let same_item = subst (λ (p : Fraction × Fraction). IsSame a (product_of p)) (sym item_is)
        same in
        record {
          summed = more_summed product_made product_of (whole (pos 0)) (zip slope mean) v zeros
              in_zip sum before.summed a next (ap product_made item_is ∙ sym made) same_item
              (sym adds) e next_lowest;
          exact = subst (λ k. IsSame next (sum_below k product)) n
              (same_through next (plus sum a) (plus s (product v)) e both);
        }

    pub term_wide : (w : Wide) → Err w ≡ mul_of (item_of slope v) (item_of mean v)
        → Err w ≡ value_steps slope mean
    term_wide w made = sym (wide_term product_made product_of (whole (pos 0)) (zip slope mean) v
        (whole (pos 0), whole (pos 0)) in_zip sum before.summed w (ap product_made item_is ∙
        sym made))

    pub sum_wide : (a : Fraction) (w : Wide) → Ok a ≡ mul_of (item_of slope v) (item_of mean v)
        → Err w ≡ add_of sum a → Err w ≡ value_steps slope mean
    sum_wide a w made adds = sym (wide_sum product_made product_of (whole (pos 0)) (zip slope mean)
        v (whole (pos 0), whole (pos 0)) in_zip sum before.summed a w (ap product_made item_is ∙
        sym made) (sym adds))

  module _ (v : ℕ) (sum : Fraction) (all : ValueOf slope mean v sum)
      (lens : length slope ≡ length mean) (done : v ≡ length slope) where
    pub made_of : Ok sum ≡ value_steps slope mean
    made_of = let l = length-zip slope mean in
        sym (all_summed product_made product_of (whole (pos 0)) (zip slope mean) v sum
        (omega (arith, l)) all.summed).steps

    pub exact_of : IsSame sum (sum_below (length slope)
        (λ k. times (item_of slope k) (item_of mean k)))
    exact_of = subst (λ k. IsSame sum (sum_below k (λ j. times (item_of slope j) (item_of mean j))))
        done all.exact

pub value_along : (slope mean : List Fraction) (n : ℕ) (f g : ℕ → Fraction) → AreReduced slope n f
    → AreReduced mean n g → (r : Fraction) → IsLowest r
    → IsSame r (sum_below n (λ v. times (item_of slope v) (item_of mean v)))
    → IsReduced r (sum_below n (λ v. times (f v) (g v)))
value_along slope mean n f g left right r lowest same =
    let products = λ (v : ℕ). times (item_of slope v) (item_of mean v) in
    let values = λ (v : ℕ). times (f v) (g v) in
    let one = λ (v : ℕ) (h : v < n). times_same (item_of slope v) (item_of mean v) (f v) (g v)
    (left.each v h).same (right.each v h).same in
    let all = sum_below_same n products values one in
    record {
      lowest = lowest;
      same = same_through r (sum_below n products) (sum_below n values) same all;
    }
