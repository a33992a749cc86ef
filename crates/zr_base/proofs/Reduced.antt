-- What is left of two numbers without their common divisor, and what sums and products by steps are worth.
use Rattle.std.proofs.Common.{rules, ◌≡◌, ◌≢◌, ◌<◌, arith, refl, sym, ap, ◌∙◌, ℤ, pos, negsuc, zero, suc, neg_ℤ, ◌+ℤ◌, ◌-ℤ◌, ◌*ℤ◌, ◌<ℤ◌, unsigned_abs, int_div, Result, Ok, Err, IfOk, int_lt, true, false}
use Rattle.std.proofs.Math.Nat.{pos_of_dvd_of_pos}
use Rattle.std.proofs.lemmas.Int.{ints}
use Rattle.zr_base.specs.declared.step.Wide.{Wide}
use Rattle.zr_base.specs.Steps.{cross_of, ◌>>=◌}
use Rattle.zr_base.specs.Fractions.{Fraction, HaveSameCross, IsSame, negated, plus, minus, times}
use Rattle.zr_base.specs.Lowest.{IsRatio, IsLowest, gcd_of, reduce, add_of, sub_of, mul_of, reciprocal, div_of}
use Rattle.zr_base.proofs.Ring.{spread, neg-mul_left, neg-mul_right}
use Rattle.zr_base.proofs.CrossLaws.{cross_ok, then_ok}
use Rattle.zr_base.proofs.Divisors.{cancel, is_lowest, mul_positive, positive_factor, quot_exact, sum_exact}
use Rattle.zr_base.proofs.SumSteps.{as_step}
use Rattle.zr_base.proofs.Gcds.{gcd_of_is}

multiples : (n d k num den : ℤ) → n *ℤ k ≡ num → d *ℤ k ≡ den → n *ℤ den ≡ num *ℤ d
multiples n d k num den over under = rw (← over, ← under) (simp spread)

module _ (num den : ℤ) (positive : (pos 0) <ℤ den) where
  shared_positive : (pos 0) <ℤ pos (gcd_of (unsigned_abs num) (unsigned_abs den))
  shared_positive =
      let least : 0 < unsigned_abs den = omega (arith, ints) in
      let g : 0 < gcd_of (unsigned_abs num) (unsigned_abs den) = pos_of_dvd_of_pos (gcd_of_is (unsigned_abs num) (unsigned_abs den)).1 least in
      omega (arith, ints)

  num_back : int_div num (pos (gcd_of (unsigned_abs num) (unsigned_abs den))) *ℤ pos (gcd_of (unsigned_abs num) (unsigned_abs den)) ≡ num
  num_back =
      quot_exact num (pos (gcd_of (unsigned_abs num) (unsigned_abs den))) (gcd_of_is (unsigned_abs num) (unsigned_abs den)).0

  den_back : int_div den (pos (gcd_of (unsigned_abs num) (unsigned_abs den))) *ℤ pos (gcd_of (unsigned_abs num) (unsigned_abs den)) ≡ den
  den_back =
      quot_exact den (pos (gcd_of (unsigned_abs num) (unsigned_abs den))) (gcd_of_is (unsigned_abs num) (unsigned_abs den)).1

  -- both numbers are multiples of those that are left
  pub record Shared (f : Fraction) : Type 0 where
    pub by : ℤ
    pub above : (pos 0) <ℤ by
    pub num_is : f.num *ℤ by ≡ num
    pub den_is : f.den *ℤ by ≡ den

  pub reduce_shared : Shared (reduce num den)
  unfolding reduce
  reduce_shared = record {
    by = pos (gcd_of (unsigned_abs num) (unsigned_abs den));
    above = shared_positive;
    num_is = num_back;
    den_is = den_back;
  }

  pub reduce_same : HaveSameCross (reduce num den) (record { num = num; den = den })
  reduce_same =
      let s = reduce_shared in
      multiples (reduce num den).num (reduce num den).den s.by num den s.num_is s.den_is

pub reduce_lowest : (num den : ℤ) → IsRatio num den → IsLowest (reduce num den)
unfolding reduce
reduce_lowest num den ratio =
    let g = pos (gcd_of (unsigned_abs num) (unsigned_abs den)) in
    is_lowest num den (int_div num g) (int_div den g) g ratio (shared_positive num den ratio.positive) (gcd_of_is (unsigned_abs num) (unsigned_abs den)) (num_back num den ratio.positive) (den_back num den ratio.positive)

pub reduce_is : (num den shared n d : ℤ) → shared ≡ pos (gcd_of (unsigned_abs num) (unsigned_abs den)) → n ≡ int_div num shared → d ≡ int_div den shared → let f : Fraction = record { num = n; den = d } in f ≡ reduce num den
unfolding reduce
reduce_is num den shared n d s e f = rw (e, f, s) refl

-- what was made is in lowest terms, and has a value
pub record IsExact (f value : Fraction) : Type 0 where
  pub lowest : IsLowest f
  pub same : HaveSameCross f value

-- of fractions with denominators above zero
pub add_of_exact : (a b f : Fraction) → (pos 0) <ℤ a.den → (pos 0) <ℤ b.den → add_of a b ≡ Ok f → IsExact f (plus a b)
unfolding add_of reduce
add_of_exact a b f p q e =
    let g = pos (gcd_of (unsigned_abs a.den) (unsigned_abs b.den)) in
    let l = int_div a.den g in
    let r = int_div b.den g in
    let s = then_ok (cross_of (a.num, r) (neg_ℤ b.num, l)) (λ num. cross_of (a.den, r) (pos 0, pos 0) >>= λ den. Ok (reduce num den)) f e in
    let t = then_ok (cross_of (a.den, r) (pos 0, pos 0)) (λ den. Ok (reduce s.0 den)) f s.2 in
    let num = cross_ok (a.num, r) (neg_ℤ b.num, l) s.0 (sym s.1) in
    let den = cross_ok (a.den, r) (pos 0, pos 0) t.0 (sym t.1) in
    let made : reduce s.0 t.0 ≡ f = cc in
    let left = num_back a.den b.den q in
    let right = den_back a.den b.den q in
    let positive = mul_positive a.den r p (positive_factor r g (rw right q) (shared_positive a.den b.den q)) in
    let above : (pos 0) <ℤ t.0 = omega (arith, ints, positive, den.0) in
    let ratio : IsRatio s.0 t.0 = record { positive = above; narrow_num = num.1; narrow_den = den.1 } in
    rw (← made) (record {
      lowest = reduce_lowest s.0 t.0 ratio;
      same = sum_exact a.num a.den b.num b.den l r g s.0 t.0 (reduce s.0 t.0).num (reduce s.0 t.0).den left right num.0 den.0 (reduce_same s.0 t.0 above);
    })

product_exact : (a b c d al bl cl dl s t num den fn fd : ℤ) → al *ℤ s ≡ a → dl *ℤ s ≡ d → cl *ℤ t ≡ c → bl *ℤ t ≡ b → num ≡ al *ℤ cl → den ≡ bl *ℤ dl → fn *ℤ den ≡ num *ℤ fd → fn *ℤ (b *ℤ d) ≡ (a *ℤ c) *ℤ fd
product_exact a b c d al bl cl dl s t num den fn fd a_is d_is c_is b_is n m e =
    let scaled : (fn *ℤ (bl *ℤ dl)) *ℤ (s *ℤ t) ≡ ((al *ℤ cl) *ℤ fd) *ℤ (s *ℤ t) = ap (λ x. x *ℤ (s *ℤ t)) (ap (λ x. fn *ℤ x) (sym m) ∙ e ∙ ap (λ x. x *ℤ fd) n) in
    rw (← a_is, ← b_is, ← c_is, ← d_is) (let h = simp spread at scaled in simp spread (omega (arith, ints)))

pub mul_of_exact : (a b f : Fraction) → (pos 0) <ℤ a.den → (pos 0) <ℤ b.den → mul_of a b ≡ Ok f → IsExact f (times a b)
unfolding mul_of reduce
mul_of_exact a b f p q e =
    let g = pos (gcd_of (unsigned_abs a.num) (unsigned_abs b.den)) in
    let h = pos (gcd_of (unsigned_abs b.num) (unsigned_abs a.den)) in
    let al = int_div a.num g in
    let bl = int_div a.den h in
    let cl = int_div b.num h in
    let dl = int_div b.den g in
    let s = then_ok (cross_of (al, cl) (pos 0, pos 0)) (λ num. cross_of (bl, dl) (pos 0, pos 0) >>= λ den. Ok (reduce num den)) f e in
    let t = then_ok (cross_of (bl, dl) (pos 0, pos 0)) (λ den. Ok (reduce s.0 den)) f s.2 in
    let num = cross_ok (al, cl) (pos 0, pos 0) s.0 (sym s.1) in
    let den = cross_ok (bl, dl) (pos 0, pos 0) t.0 (sym t.1) in
    let made : reduce s.0 t.0 ≡ f = cc in
    let num_is : s.0 ≡ al *ℤ cl = omega (arith, ints, num.0) in
    let den_is : t.0 ≡ bl *ℤ dl = omega (arith, ints, den.0) in
    let d_back = den_back a.num b.den q in
    let b_back = den_back b.num a.den p in
    let positive = mul_positive bl dl (positive_factor bl h (rw b_back p) (shared_positive b.num a.den p)) (positive_factor dl g (rw d_back q) (shared_positive a.num b.den q)) in
    let above : (pos 0) <ℤ t.0 = omega (arith, ints, positive, den_is) in
    let ratio : IsRatio s.0 t.0 = record { positive = above; narrow_num = num.1; narrow_den = den.1 } in
    rw (← made) (record {
      lowest = reduce_lowest s.0 t.0 ratio;
      same = product_exact a.num a.den b.num b.den al bl cl dl g h s.0 t.0 (reduce s.0 t.0).num (reduce s.0 t.0).den (num_back a.num b.den q) d_back (num_back b.num a.den p) b_back num_is den_is (reduce_same s.0 t.0 above);
    })

pub sub_of_exact : (a b f : Fraction) → (pos 0) <ℤ a.den → (pos 0) <ℤ b.den → sub_of a b ≡ Ok f → IsExact f (minus a b)
unfolding sub_of
sub_of_exact a b f p q e =
    let x = add_of_exact a (negated b) f p q e in
    record { lowest = x.lowest; same = x.same ∙ ap (λ n. n *ℤ f.den) (turned a.num a.den b.num b.den) }
  where
    turned : (an ad bn bd : ℤ) → an *ℤ bd +ℤ neg_ℤ bn *ℤ ad ≡ an *ℤ bd -ℤ bn *ℤ ad
    turned an ad bn bd = simp spread (omega (arith, ints))

-- a reciprocal's denominator is above zero, and it turns its product back
pub record IsReciprocal (b r : Fraction) : Type 0 where
  pub positive : (pos 0) <ℤ r.den
  pub back : r.num *ℤ b.num ≡ b.den *ℤ r.den

pub reciprocal_below : (n d : ℤ) → int_lt n (pos 0) ≡ true → let f : Fraction = record { num = pos 0 -ℤ d; den = pos 0 -ℤ n } in f ≡ reciprocal (record { num = n; den = d })
unfolding reciprocal
reciprocal_below n d below = rw (below, as_step d, as_step n) refl

pub reciprocal_above : (n d : ℤ) → int_lt n (pos 0) ≡ false → let f : Fraction = record { num = d; den = n } in f ≡ reciprocal (record { num = n; den = d })
unfolding reciprocal
reciprocal_above n d above = rw above refl

reciprocal_of : (n d : ℤ) → n ≢ pos 0 → IsReciprocal (record { num = n; den = d }) (reciprocal (record { num = n; den = d }))
reciprocal_of (pos zero) d h = absurd (h refl)
reciprocal_of (pos (suc n)) d h =
    rw (← reciprocal_above (pos (suc n)) d (search rules)) (record { positive = omega (arith, ints); back = refl })
reciprocal_of (negsuc n) d h =
    rw (← reciprocal_below (negsuc n) d (search rules)) (record { positive = omega (arith, ints); back = both_turned d (negsuc n) })
  where
    both_turned : (d n : ℤ) → (pos 0 -ℤ d) *ℤ n ≡ d *ℤ (pos 0 -ℤ n)
    both_turned d n = rw (as_step d, as_step n) (neg-mul_left d n ∙ sym (neg-mul_right d n))

pub reciprocal_is : (b : Fraction) → b.num ≢ pos 0 → IsReciprocal b (reciprocal b)
reciprocal_is b h = reciprocal_of b.num b.den h

quotient_exact : (an ad bn bd rn rd fn fd : ℤ) → (pos 0) <ℤ rd → rn *ℤ bn ≡ bd *ℤ rd → fn *ℤ (ad *ℤ rd) ≡ (an *ℤ rn) *ℤ fd → (fn *ℤ bn) *ℤ ad ≡ an *ℤ (fd *ℤ bd)
quotient_exact an ad bn bd rn rd fn fd p back e =
    let s = simp spread at (ap (λ x. x *ℤ bn) e) in
    let t = simp spread at (ap (λ x. (an *ℤ fd) *ℤ x) back) in
    cancel ((fn *ℤ bn) *ℤ ad) (an *ℤ (fd *ℤ bd)) rd p (simp spread (omega (arith, ints)))

pub div_of_exact : (a b f : Fraction) → (pos 0) <ℤ a.den → (pos 0) <ℤ b.den → b.num ≢ pos 0 → div_of a b ≡ Ok f → IsLowest f × HaveSameCross (times f b) a
unfolding div_of
div_of_exact a b f p q n e =
    let r = reciprocal_is b n in
    let x = mul_of_exact a (reciprocal b) f p r.positive e in
    (x.lowest, quotient_exact a.num a.den b.num b.den (reciprocal b).num (reciprocal b).den f.num f.den r.positive r.back x.same)

-- the sum as the code makes it, from the denominators without their common divisor
module _ (a b c d l r : ℤ) (parts : let f : Fraction = record { num = l; den = r } in f ≡ reduce b d) where
  add_of_by : add_of (record { num = a; den = b }) (record { num = c; den = d }) ≡ (cross_of (a, r) (pos 0 -ℤ c, l) >>= λ num. cross_of (b, r) (pos 0, pos 0) >>= λ den. Ok (reduce num den))
  unfolding add_of reduce
  add_of_by =
      let left : l ≡ int_div b (pos (gcd_of (unsigned_abs b) (unsigned_abs d))) = ap (λ (f : Fraction). f.num) parts in
      let right : r ≡ int_div d (pos (gcd_of (unsigned_abs b) (unsigned_abs d))) = ap (λ (f : Fraction). f.den) parts in
      rw (left, right, as_step c) refl

  pub sum_num_wide : (w : Wide) → cross_of (a, r) (pos 0 -ℤ c, l) ≡ Err w → Err w ≡ add_of (record { num = a; den = b }) (record { num = c; den = d })
  sum_num_wide w e = rw (add_of_by, e) refl

  pub sum_den_wide : (n : ℤ) (w : Wide) → cross_of (a, r) (pos 0 -ℤ c, l) ≡ Ok n → cross_of (b, r) (pos 0, pos 0) ≡ Err w → Err w ≡ add_of (record { num = a; den = b }) (record { num = c; den = d })
  sum_den_wide n w e f = rw (add_of_by, e, f) refl

  pub sum_made : (n m : ℤ) → cross_of (a, r) (pos 0 -ℤ c, l) ≡ Ok n → cross_of (b, r) (pos 0, pos 0) ≡ Ok m → Ok (reduce n m) ≡ add_of (record { num = a; den = b }) (record { num = c; den = d })
  sum_made n m e f = rw (add_of_by, e, f) refl

-- the product as the code makes it, from the numbers without their common divisors
module _ (a b c d al bl cl dl : ℤ) (outer : let f : Fraction = record { num = al; den = dl } in f ≡ reduce a d) (inner : let f : Fraction = record { num = cl; den = bl } in f ≡ reduce c b) where
  mul_of_by : mul_of (record { num = a; den = b }) (record { num = c; den = d }) ≡ (cross_of (al, cl) (pos 0, pos 0) >>= λ num. cross_of (bl, dl) (pos 0, pos 0) >>= λ den. Ok (reduce num den))
  unfolding mul_of reduce
  mul_of_by =
      let a_is : al ≡ int_div a (pos (gcd_of (unsigned_abs a) (unsigned_abs d))) = ap (λ (f : Fraction). f.num) outer in
      let d_is : dl ≡ int_div d (pos (gcd_of (unsigned_abs a) (unsigned_abs d))) = ap (λ (f : Fraction). f.den) outer in
      let c_is : cl ≡ int_div c (pos (gcd_of (unsigned_abs c) (unsigned_abs b))) = ap (λ (f : Fraction). f.num) inner in
      let b_is : bl ≡ int_div b (pos (gcd_of (unsigned_abs c) (unsigned_abs b))) = ap (λ (f : Fraction). f.den) inner in
      rw (a_is, b_is, c_is, d_is) refl

  pub product_num_wide : (w : Wide) → cross_of (al, cl) (pos 0, pos 0) ≡ Err w → Err w ≡ mul_of (record { num = a; den = b }) (record { num = c; den = d })
  product_num_wide w e = rw (mul_of_by, e) refl

  pub product_den_wide : (n : ℤ) (w : Wide) → cross_of (al, cl) (pos 0, pos 0) ≡ Ok n → cross_of (bl, dl) (pos 0, pos 0) ≡ Err w → Err w ≡ mul_of (record { num = a; den = b }) (record { num = c; den = d })
  product_den_wide n w e f = rw (mul_of_by, e, f) refl

  pub product_made : (n m : ℤ) → cross_of (al, cl) (pos 0, pos 0) ≡ Ok n → cross_of (bl, dl) (pos 0, pos 0) ≡ Ok m → Ok (reduce n m) ≡ mul_of (record { num = a; den = b }) (record { num = c; den = d })
  product_made n m e f = rw (mul_of_by, e, f) refl

-- a numerator and the product of two denominators, both made by steps
pub ratio_made : (x : (ℤ × ℤ) × (ℤ × ℤ)) (p q n m : ℤ) → (pos 0) <ℤ p → (pos 0) <ℤ q → cross_of x.0 x.1 ≡ Ok n → cross_of (p, q) (pos 0, pos 0) ≡ Ok m → IsRatio n m
ratio_made x p q n m above below e f =
    let num = cross_ok x.0 x.1 n (sym e) in
    let den = cross_ok (p, q) (pos 0, pos 0) m (sym f) in
    let positive = mul_positive p q above below in
    record {
      positive = omega (arith, ints, positive, den.0);
      narrow_num = num.1;
      narrow_den = den.1;
    }

module _ (a b : Fraction) (above : (pos 0) <ℤ a.den) (below : (pos 0) <ℤ b.den) where
  both : (pos 0) <ℤ (a.den *ℤ b.den)
  both = mul_positive a.den b.den above below

  pub sum_if : (r : Result Fraction Wide) → r ≡ add_of a b → IfOk r (λ f. IsSame f (plus a b))
  sum_if (Ok f) e =
      let x = add_of_exact a b f above below (sym e) in
      record { left = x.lowest.ratio.positive; right = both; cross = x.same }
  sum_if (Err w) e = search rules

  pub difference_if : (r : Result Fraction Wide) → r ≡ sub_of a b → IfOk r (λ f. IsSame f (minus a b))
  difference_if (Ok f) e =
      let x = sub_of_exact a b f above below (sym e) in
      record { left = x.lowest.ratio.positive; right = both; cross = x.same }
  difference_if (Err w) e = search rules

  pub product_if : (r : Result Fraction Wide) → r ≡ mul_of a b → IfOk r (λ f. IsSame f (times a b))
  product_if (Ok f) e =
      let x = mul_of_exact a b f above below (sym e) in
      record { left = x.lowest.ratio.positive; right = both; cross = x.same }
  product_if (Err w) e = search rules

  pub quotient_if : b.num ≢ pos 0 → (r : Result Fraction Wide) → r ≡ div_of a b → IfOk r (λ f. IsSame (times f b) a)
  quotient_if h (Ok f) e =
      let x = div_of_exact a b f above below h (sym e) in
      let den = mul_positive f.den b.den x.0.ratio.positive below in
      record { left = den; right = above; cross = x.1 }
  quotient_if h (Err w) e = search rules

pub sub_of_by : (an ad bn bd : ℤ) → add_of (record { num = an; den = ad }) (record { num = pos 0 -ℤ bn; den = bd }) ≡ sub_of (record { num = an; den = ad }) (record { num = bn; den = bd })
unfolding sub_of
sub_of_by an ad bn bd = rw (as_step bn) refl

pub div_of_by : (a b : Fraction) (n d : ℤ) → (let f : Fraction = record { num = n; den = d } in f ≡ reciprocal b) → mul_of a (record { num = n; den = d }) ≡ div_of a b
unfolding div_of
div_of_by a b n d e = ap (mul_of a) e
