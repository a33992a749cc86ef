-- The gain so far, and its exact value.
use Rattle.std.proofs.Common.{◌≡◌, ℕ, zero, suc, ◌+◌, ◌-◌, ◌<◌, ◌≤◌, arith, sym, ap, ◌∙◌, ℤ, pos, neg_ℤ, ◌+ℤ◌, ◌-ℤ◌, ◌*ℤ◌, Bool, true, false, cond, Result, Ok, Err, length, add-one}
use Rattle.std.proofs.lemmas.Int.{ints}
use Rattle.zr_base.specs.declared.step.Wide.{Wide}
use Rattle.zr_base.specs.Steps.{IsNarrow, cross_of, ◌>>=◌}
use Rattle.zr_base.specs.Sums.{sum_step, sum_steps, sum_to}
use Rattle.zr_base.specs.Terms.{coef_at}
use Rattle.zr_base.specs.Points.{PointOf, num_of}
use Rattle.zr_base.proofs.CrossLaws.{cross_ok, then_ok}
use Rattle.zr_base.proofs.Dense.{sum_to_same}
use Rattle.zr_base.proofs.SumSteps.{sum_step_value, sum_steps_exact}
use Rattle.zr_game.specs.Players.{PlayerOf}
use Rattle.zr_boxes.specs.declared.range.Range.{Range}
use Rattle.zr_boxes.specs.declared.range.End.TheVariants.{Least, Greatest}
use Rattle.zr_boxes.specs.Boxes.{BoxOf}
use Rattle.zr_boxes.specs.Ranges.{least_product, lesser_of, range_of, shifted}
use Rattle.zr_boxes.specs.Gains.{counts, end_terms, least_gain, slope_range, var_gain, way_range}
use Rattle.zr_boxes.specs.GainSteps.{gain_steps, next_gain, product_steps, slope_range_steps, var_steps, way_range_steps}

-- the variables below v are added, and those from v on are left
pub record GainOnward (player : PlayerOf) (i : ℕ) (box : BoxOf) (x : PointOf) (n v : ℕ) (gain : ℤ)
    : Type 0 where
  pub steps : gain_steps player i box x (pos 0) 0 n ≡ gain_steps player i box x gain v (n - v)
  pub narrow : IsNarrow gain

module _ (player : PlayerOf) (i : ℕ) (box : BoxOf) (x : PointOf) (n : ℕ) where
  pub gain_first : GainOnward player i box x n 0 (pos 0)
  gain_first = record {
    steps = let e : n ≡ n - 0 = omega arith in ap (gain_steps player i box x (pos 0) 0) e;
    narrow = omega arith;
  }

  module _ (v : ℕ) (gain : ℤ) (here : v < n) (before : GainOnward player i box x n v gain) where
    split : gain_steps player i box x (pos 0) 0 n ≡ (next_gain player i box x gain v
        >>= λ more. gain_steps player i box x more (suc v) (n - suc v))
    split = let e : n - v ≡ suc (n - suc v) = omega (arith, here) in
        before.steps ∙ ap (gain_steps player i box x gain v) e

    pub gain_more : (next : ℤ) → next_gain player i box x gain v ≡ Ok next → IsNarrow next
        → GainOnward player i box x n (v + 1) next
    gain_more next made narrow = record {
      steps = split ∙ ap (λ (r : Result ℤ Wide).
          r >>= λ more. gain_steps player i box x more (suc v) (n - suc v)) made ∙
          ap (λ k. gain_steps player i box x next k (n - k)) (sym (add-one v));
      narrow = narrow;
    }

    pub gain_wide : (w : Wide) → next_gain player i box x gain v ≡ Err w
        → gain_steps player i box x (pos 0) 0 n ≡ Err w
    gain_wide w made = split ∙ ap (λ (r : Result ℤ Wide).
        r >>= λ more. gain_steps player i box x more (suc v) (n - suc v)) made

  pub gain_last : (v : ℕ) (gain : ℤ) → n ≤ v → GainOnward player i box x n v gain
      → gain_steps player i box x (pos 0) 0 n ≡ Ok gain
  gain_last v gain done all =
      let e : n - v ≡ 0 = omega (arith, done) in
      all.steps ∙ ap (gain_steps player i box x gain v) e

-- ---- steps that end have the exact value

way_exact : (d p : ℤ) (r way : Range) → way_range_steps d p r ≡ Ok way → way ≡ shifted d p r
way_exact d p r way e =
    let a = then_ok (sum_step (neg_ℤ p) (d, r.low)) _ way e in
    let b = then_ok (sum_step (neg_ℤ p) (d, r.high)) _ way a.2 in
    let f = sum_step_value (neg_ℤ p) a.0 (d, r.low) a.1 in
    let g = sum_step_value (neg_ℤ p) b.0 (d, r.high) b.1 in
    let l : a.0 ≡ d *ℤ r.low -ℤ p = omega (arith, ints, f) in
    let h : b.0 ≡ d *ℤ r.high -ℤ p = omega (arith, ints, g) in
    let same : record { low = a.0; high = b.0 } ≡ way = cc in
    sym same ∙ (λ j. record { low = l j; high = h j })

slope_exact : (player : PlayerOf) (box : BoxOf) (v : ℕ) (slope : Range)
    → slope_range_steps player box v ≡ Ok slope → slope ≡ slope_range player box v
slope_exact player box v slope e =
    let c = coef_at player.cost v in
    let a = then_ok (sum_steps c (end_terms Least player box v)) _ slope e in
    let b = then_ok (sum_steps c (end_terms Greatest player box v)) _ slope a.2 in
    let l = sum_steps_exact c a.0 (end_terms Least player box v) a.1 in
    let h = sum_steps_exact c b.0 (end_terms Greatest player box v) b.1 in
    let same : record { low = a.0; high = b.0 } ≡ slope = cc in
    sym same ∙ (λ j. record { low = l j; high = h j })

product_is : (a b v : ℤ) → cross_of (a, b) (pos 0, pos 0) ≡ Ok v → v ≡ a *ℤ b
product_is a b v e =
    let f = (cross_ok (a, b) (pos 0, pos 0) v (sym e)).0 in
    omega (arith, ints, f)

product_exact : (r s : Range) (least : ℤ) → product_steps r s ≡ Ok least → least ≡ least_product r s
product_exact r s least e =
    let a = then_ok (cross_of (r.low, s.low) (pos 0, pos 0)) _ least e in
    let b = then_ok (cross_of (r.low, s.high) (pos 0, pos 0)) _ least a.2 in
    let c = then_ok (cross_of (r.high, s.low) (pos 0, pos 0)) _ least b.2 in
    let d = then_ok (cross_of (r.high, s.high) (pos 0, pos 0)) _ least c.2 in
    let f = product_is r.low s.low a.0 a.1 in
    let g = product_is r.low s.high b.0 b.1 in
    let h = product_is r.high s.low c.0 c.1 in
    let k = product_is r.high s.high d.0 d.1 in
    let same : lesser_of (lesser_of a.0 b.0) (lesser_of c.0 d.0) ≡ least = cc in
    sym same ∙ (λ j. lesser_of (lesser_of (f j) (g j)) (lesser_of (h j) (k j)))

module _ (player : PlayerOf) (i : ℕ) (box : BoxOf) (x : PointOf) where
  var_exact : (v : ℕ) (least : ℤ) → var_steps player i box x v ≡ Ok least
      → least ≡ least_product (way_range i box x v) (slope_range player box v)
  var_exact v least e =
      let a = then_ok (way_range_steps x.den (num_of x v) (range_of box i v)) _ least e in
      let b = then_ok (slope_range_steps player box v) _ least a.2 in
      product_exact a.0 b.0 least b.2 ∙
      (λ j. least_product (way_exact x.den (num_of x v) (range_of box i v) a.0 a.1 j)
      (slope_exact player box v b.0 b.1 j))

  next_exact : (v : ℕ) (gain next : ℤ) → next_gain player i box x gain v ≡ Ok next
      → next ≡ gain +ℤ var_gain player i box x v
  next_exact v gain next e = on (counts player v) e
    where
      on : (b : Bool) → cond b (var_steps player i box x v >>= λ least.
          sum_step gain (least, pos 1)) (Ok gain) ≡ Ok next
          → next ≡ gain +ℤ cond b
          (least_product (way_range i box x v) (slope_range player box v)) (pos 0)
      on true f =
          let a = then_ok (var_steps player i box x v) _ next f in
          let g = sum_step_value gain next (a.0, pos 1) a.2 in
          let h = var_exact v a.0 a.1 in
          omega (arith, ints, g, h)
      on false f = let g : gain ≡ next = cc in omega (arith, ints, g)

  -- the first value, and then the others
  front : (n v : ℕ) → sum_to (suc n) (λ k. var_gain player i box x (v + k))
      ≡ var_gain player i box x v +ℤ sum_to n (λ k. var_gain player i box x (suc v + k))
  front zero v =
      let e : v + 0 ≡ v = omega arith in
      let f = ap (var_gain player i box x) e in
      omega (arith, ints, f)
  front (suc n) v =
      let r = front n v in
      let e : v + suc n ≡ suc v + n = omega arith in
      let f = ap (var_gain player i box x) e in
      omega (arith, ints, r, f)

  steps_exact : (n v : ℕ) (gain last : ℤ) → gain_steps player i box x gain v n ≡ Ok last
      → last ≡ gain +ℤ sum_to n (λ k. var_gain player i box x (v + k))
  steps_exact zero v gain last e = let g : gain ≡ last = cc in omega (arith, ints, g)
  steps_exact (suc n) v gain last e =
      let a = then_ok (next_gain player i box x gain v) _ last e in
      let g = next_exact v gain a.0 a.1 in
      let r = steps_exact n (suc v) a.0 last a.2 in
      let f = front n v in
      omega (arith, ints, g, r, f)

  pub gain_exact : (last : ℤ)
      → gain_steps player i box x (pos 0) 0 (length player.vars) ≡ Ok last
      → last ≡ least_gain player i box x
  gain_exact last e =
      let r = steps_exact (length player.vars) 0 (pos 0) last e in
      r ∙ flat (sum_to_same (length player.vars) (λ k. var_gain player i box x (0 + k))
      (var_gain player i box x)
      (λ k h. let e : 0 + k ≡ k = omega arith in ap (var_gain player i box x) e))
    where
      flat : {a b : ℤ} → a ≡ b → pos 0 +ℤ a ≡ b
      flat e = omega (arith, ints, e)
