-- Least common multiples, one denominator more at a time.
use Rattle.std.proofs.Common.{◌≡◌, ℕ, suc, ◌+◌, ◌<◌, ◌≤◌, arith, refl, sym, ap, subst, ◌∙◌, ℤ, pos, ◌*ℤ◌, ◌≤ℤ◌, ◌<ℤ◌, unsigned_abs, int_div, Result, Ok, Err, List, [], ◌∷◌, ◌++◌, length, get_or, take, drop, All, drop-cons, IfOk}
use Rattle.std.proofs.Math.Nat.{dvd-mul_left, le_of_dvd}
use Rattle.std.proofs.Math.ListN.{drop_of_length-le}
use Rattle.std.proofs.lemmas.Int.{ints, unsigned_abs-mul}
use Rattle.std.proofs.lemmas.List.{take_more, take_all}
use Rattle.std.proofs.lemmas.List.Elements.{All-append, All-cons, All-nil}
use Rattle.std.proofs.lemmas.Nat.Gcd.{IsGcd-swap}
use Rattle.std.specs.Int.{IsGcd, ◌∣◌}
use Rattle.zr_base.specs.declared.step.Wide.{Wide}
use Rattle.zr_base.specs.Steps.{cross_of, ◌>>=◌}
use Rattle.zr_base.specs.Fractions.{Fraction}
use Rattle.zr_base.specs.Lowest.{gcd_of}
use Rattle.zr_base.proofs.CrossLaws.{cross_ok}
use Rattle.zr_base.proofs.Divisors.{mul_positive, positive_factor, quot_exact}
use Rattle.zr_base.proofs.Lcm.{least_more}
use Rattle.zr_base.proofs.Ring.{spread, mul_assoc}
use Rattle.zr_game.specs.Feasible.{IsMultiple}
use Rattle.zr_mix.specs.Claims.{IsLeastMultiple, IsMultipleOf}
use Rattle.zr_mix.specs.Multiples.{IsLcm, IsLcmOf}
use Rattle.zr_mix.specs.Steps.{multiple_steps}

pub divides_multiple : (n d : ℤ) → IsMultiple n d → unsigned_abs d ∣ unsigned_abs n
divides_multiple n d m =
    subst (λ x. unsigned_abs d ∣ x) (sym (ap unsigned_abs m.1 ∙ unsigned_abs-mul m.0 d))
    (dvd-mul_left (unsigned_abs d) (unsigned_abs m.0))

multiple_divided : (n d : ℤ) → unsigned_abs d ∣ unsigned_abs n → IsMultiple n d
multiple_divided n d h = (int_div n d, sym (quot_exact n d h))

pub multiple_trans : (a b c : ℤ) → IsMultiple a b → IsMultiple b c → IsMultiple a c
multiple_trans a b c p q = (p.0 *ℤ q.0, p.1 ∙ ap (λ x. p.0 *ℤ x) q.1 ∙ sym (mul_assoc p.0 q.0 c))

-- a product by what is left of a number without the common divisor
pub lcm_is : (a b by over m : ℤ) → (pos 0) <ℤ a → (pos 0) <ℤ b → (pos 0) <ℤ over → by *ℤ over ≡ b
    → m ≡ a *ℤ by → IsGcd (unsigned_abs a) (unsigned_abs b) (unsigned_abs over) → IsLcm a b m
lcm_is a b by over m above below positive left made gcd =
    let q = int_div a over in
    let back : q *ℤ over ≡ a = quot_exact a over gcd.0 in
    record {
      positive = rw made (mul_positive a by above
          (positive_factor by over (rw left below) positive));
      first = (by, made ∙ turn a by);
      second = (q, made ∙ ap (λ x. x *ℤ by) (sym back) ∙ regroup q over by ∙ ap (λ x. q *ℤ x) left);
      least = λ n p r. multiple_divided n m (least_more by over b a m (unsigned_abs n) positive left
          made (IsGcd-swap (unsigned_abs a) (unsigned_abs b) (unsigned_abs over) gcd)
          (divides_multiple n b r) (divides_multiple n a p));
    }
  where
    turn : (x y : ℤ) → x *ℤ y ≡ y *ℤ x
    turn x y = simp spread refl

    regroup : (x y z : ℤ) → (x *ℤ y) *ℤ z ≡ x *ℤ (z *ℤ y)
    regroup x y z = simp spread refl

pub none_lcm : IsLcmOf [] (pos 1)
none_lcm = record {
  positive = omega (arith, ints);
  each = All-nil (IsMultipleOf (pos 1));
  least = λ n all. (n, omega (arith, ints));
}

pub more_lcm : (fs : List Fraction) (i : ℕ) (d : Fraction) (m r : ℤ) → i < length fs
    → IsLcmOf (take i fs) m → IsLcm m (get_or fs i d).den r → IsLcmOf (take (i + 1) fs) r
more_lcm fs i d m r here before lcm =
    let x = get_or fs i d in
    let more = take_more fs i d here in
    let all : All (IsMultipleOf r) (take i fs ++ x ∷ []) = All-append (IsMultipleOf r) (take i fs)
    (x ∷ []) (λ k e h. multiple_trans r m (get_or (take i fs) k e).den lcm.first
    (before.each k e h)) (All-cons (IsMultipleOf r) x [] lcm.second (All-nil (IsMultipleOf r)))
    in
    record {
      positive = lcm.positive;
      each = subst (All (IsMultipleOf r)) (sym more) all;
      least = λ n h. let parts = subst (All (IsMultipleOf n)) more h in
          lcm.least n (before.least n (front n (take i fs) x parts)) (last n (take i fs) x parts);
    }
  where
    front : (n : ℤ) (xs : List Fraction) (x : Fraction) → All (IsMultipleOf n) (xs ++ x ∷ [])
        → All (IsMultipleOf n) xs
    front n [] x h = All-nil (IsMultipleOf n)
    front n (y ∷ ys) x h = All-cons (IsMultipleOf n) y ys (h 0 y (omega arith))
        (front n ys x (λ k e p. h (suc k) e (omega arith)))

    last : (n : ℤ) (xs : List Fraction) (x : Fraction) → All (IsMultipleOf n) (xs ++ x ∷ [])
        → IsMultipleOf n x
    last n [] x h = h 0 x (omega arith)
    last n (y ∷ ys) x h = last n ys x (λ k e p. h (suc k) e (omega arith))

at_least : (k r : ℤ) → (pos 0) <ℤ (k *ℤ r) → (pos 0) <ℤ r → r ≤ℤ (k *ℤ r)
at_least k r h positive =
    let a : 0 < unsigned_abs (k *ℤ r) = omega (arith, ints) in
    let l = le_of_dvd a (divides_multiple (k *ℤ r) r (k, refl)) in
    omega (arith, ints, l)

-- the slope's and the value's
pub least_multiple : (slope : List Fraction) (value : Fraction) (m r : ℤ) → IsLcmOf slope m
    → IsLcm m value.den r → IsLeastMultiple r slope value
least_multiple slope value m r before lcm = record {
  positive = lcm.positive;
  slopes = λ k e h. multiple_trans r m (get_or slope k e).den lcm.first (before.each k e h);
  of_value = lcm.second;
  least = λ n positive all v. let q = lcm.least n (before.least n all) v in
      subst (λ x. r ≤ℤ x) (sym q.1) (at_least q.0 r (subst (λ x. (pos 0) <ℤ x) q.1 positive)
      lcm.positive);
}

-- the steps, one denominator more
pub one_step : (m r : ℤ) (f : Fraction) (fs : List Fraction) → multiple_steps m (f ∷ []) ≡ Ok r
    → multiple_steps m (f ∷ fs) ≡ multiple_steps r fs
one_step m r f fs e = onward
    (cross_of (m, int_div f.den (pos (gcd_of (unsigned_abs m) (unsigned_abs f.den)))) (
      pos 0,
      pos 0,
    )) e
  where
    onward : (x : Result ℤ Wide) → (x >>= λ z. Ok z) ≡ Ok r
        → (x >>= λ z. multiple_steps z fs) ≡ multiple_steps r fs
    onward (Ok z) h = let s : z ≡ r = cc in ap (λ y. multiple_steps y fs) s
    onward (Err w) h = absurd cc

pub step_wide : (m : ℤ) (w : Wide) (f : Fraction) (fs : List Fraction)
    → multiple_steps m (f ∷ []) ≡ Err w → multiple_steps m (f ∷ fs) ≡ Err w
step_wide m w f fs e = onward
    (cross_of (m, int_div f.den (pos (gcd_of (unsigned_abs m) (unsigned_abs f.den)))) (
      pos 0,
      pos 0,
    )) e
  where
    onward : (x : Result ℤ Wide) → (x >>= λ z. Ok z) ≡ Err w
        → (x >>= λ z. multiple_steps z fs) ≡ Err w
    onward (Ok z) h = absurd cc
    onward (Err u) h = let s : u ≡ w = cc in ap Err s

pub step_only : (m : ℤ) (f : Fraction)
    → cross_of (m, int_div f.den (pos (gcd_of (unsigned_abs m) (unsigned_abs f.den)))) (
      pos 0,
      pos 0,
    ) ≡ multiple_steps m (f ∷ [])
step_only m f = onward
    (cross_of (m, int_div f.den (pos (gcd_of (unsigned_abs m) (unsigned_abs f.den)))) (
      pos 0,
      pos 0,
    ))
  where
    onward : (x : Result ℤ Wide) → x ≡ (x >>= λ z. Ok z)
    onward (Ok z) = refl
    onward (Err u) = refl

pub multiple_steps-append : (m : ℤ) (xs ys : List Fraction)
    → multiple_steps m (xs ++ ys) ≡ (multiple_steps m xs >>= λ r. multiple_steps r ys)
multiple_steps-append m [] ys = refl
multiple_steps-append m (f ∷ fs) ys = onward (cross_of (
  m,
  int_div f.den (pos (gcd_of (unsigned_abs m) (unsigned_abs f.den))),
) (pos 0, pos 0))
    (λ z. multiple_steps-append z fs ys)
  where
    onward : (x : Result ℤ Wide)
        → ((z : ℤ)
        → multiple_steps z (fs ++ ys) ≡ (multiple_steps z fs >>= λ r. multiple_steps r ys))
        → (x >>= λ z. multiple_steps z (fs ++ ys)) ≡
        ((x >>= λ z. multiple_steps z fs) >>= λ r. multiple_steps r ys)
    onward (Ok z) rest = rest z
    onward (Err u) rest = refl

-- the multiple of the first i denominators
pub record Carried (fs : List Fraction) (i : ℕ) (m : ℤ) : Type 0 where
  pub steps : multiple_steps (pos 1) fs ≡ multiple_steps m (drop i fs)
  pub lcm : IsLcmOf (take i fs) m

pub none_carried : (fs : List Fraction) → Carried fs 0 (pos 1)
none_carried fs = record { steps = refl; lcm = none_lcm }

module _ (fs : List Fraction) (i : ℕ) (d : Fraction) (here : i < length fs) (m : ℤ)
    (before : Carried fs i m) where
  pub more_carried : (r : ℤ) → multiple_steps m (get_or fs i d ∷ []) ≡ Ok r
      → IsLcm m (get_or fs i d).den r → Carried fs (i + 1) r
  more_carried r e lcm =
      let n : suc i ≡ i + 1 = omega arith in
      record {
        steps = before.steps ∙ ap (multiple_steps m) (drop-cons fs i d here) ∙
            one_step m r (get_or fs i d) (drop (suc i) fs) e ∙
            ap (λ k. multiple_steps r (drop k fs)) n;
        lcm = more_lcm fs i d m r here before.lcm lcm;
      }

  pub wide_carried : (w : Wide) → multiple_steps m (get_or fs i d ∷ []) ≡ Err w
      → multiple_steps (pos 1) fs ≡ Err w
  wide_carried w e = before.steps ∙ ap (multiple_steps m) (drop-cons fs i d here) ∙
      step_wide m w (get_or fs i d) (drop (suc i) fs) e

pub all_carried : (fs : List Fraction) (i : ℕ) (m : ℤ) → length fs ≤ i → Carried fs i m
    → (multiple_steps (pos 1) fs ≡ Ok m) × IsLcmOf fs m
all_carried fs i m h c = (
  c.steps ∙ ap (multiple_steps m) (drop_of_length-le fs h),
  subst (λ xs. IsLcmOf xs m) (take_all i fs h) c.lcm,
)

-- a step that was made
pub step_lcm : (m : ℤ) (f : Fraction) (by over : ℤ) → (pos 0) <ℤ m → (pos 0) <ℤ f.den
    → (pos 0) <ℤ over → by *ℤ over ≡ f.den
    → IsGcd (unsigned_abs m) (unsigned_abs f.den) (unsigned_abs over) → (r : Result ℤ Wide)
    → r ≡ cross_of (m, by) (pos 0, pos 0) → IfOk r (IsLcm m f.den)
step_lcm m f by over above below positive left gcd (Ok r) e =
    let p = (cross_ok (m, by) (pos 0, pos 0) r e).0 in
    lcm_is m f.den by over r above below positive left (omega (arith, ints, p)) gcd
step_lcm m f by over above below positive left gcd (Err w) e = tt
