-- The laws of fractions of one value.
use Rattle.std.proofs.Common.{◌≡◌, ℕ, zero, suc, ◌<◌, arith, refl, sym, ap, ap₂, ◌∙◌, ℤ, pos, ◌*ℤ◌, ◌<ℤ◌, IfOk, Result, Ok, Err, List, [], ◌∷◌}
use Rattle.std.proofs.lemmas.Int.{ints}
use Rattle.zr_base.specs.Fractions.{Fraction, HaveSameCross, IsSame, IsAtMost, plus, times, whole, sum_over, sum_below}
use Rattle.zr_base.specs.declared.step.Wide.{Wide}
use Rattle.zr_base.specs.Lowest.{IsLowest, IsRatio, reduce}
use Rattle.zr_base.specs.Points.{PointOf, IsSamePoint, value_of}
use Rattle.zr_base.proofs.Divisors.{mul_positive, same_value}
use Rattle.zr_base.proofs.Lowest.{lowest_same}
use Rattle.zr_base.proofs.Reduced.{reduce_lowest, reduce_same}
use Rattle.zr_base.proofs.Ring.{spread}
use Rattle.zr_base.proofs.Worth.{Worth, at_most, worth_of_same}

pub is_same : (a b : Fraction) → (pos 0) <ℤ a.den → (pos 0) <ℤ b.den → HaveSameCross a b → IsSame a b
is_same a b p q e = record { left = p; right = q; cross = e }

pub same_refl : (a : Fraction) → (pos 0) <ℤ a.den → IsSame a a
same_refl a p = record { left = p; right = p; cross = refl }

pub same_sym : (a b : Fraction) → IsSame a b → IsSame b a
same_sym a b s = record { left = s.right; right = s.left; cross = sym s.cross }

pub same_through : (a b c : Fraction) → IsSame a b → IsSame b c → IsSame a c
same_through a b c s t = record {
  left = s.left;
  right = t.right;
  cross = same_value a.num a.den b.num b.den c.num c.den s.right s.cross t.cross;
}

pub if_is_same : (r : Result Fraction Wide) (a b : Fraction) → IsSame a b → IfOk r (λ f. IsSame f a) → IfOk r (λ f. IsSame f b)
if_is_same (Ok f) a b s e = same_through f a b e s
if_is_same (Err w) a b s e = e

pub same_point_refl : (x : PointOf) → (pos 0) <ℤ x.den → IsSamePoint x x
same_point_refl x p = record { left = p; right = p; len = refl; values = λ v. refl }

pub same_point_sym : (x y : PointOf) → IsSamePoint x y → IsSamePoint y x
same_point_sym x y s = record {
  left = s.right;
  right = s.left;
  len = sym s.len;
  values = λ v. sym (s.values v);
}

pub same_point_value : (x y : PointOf) (v : ℕ) → IsSamePoint x y → IsSame (value_of x v) (value_of y v)
same_point_value x y v s = record { left = s.left; right = s.right; cross = s.values v }

pub same_point_through : (x y z : PointOf) → IsSamePoint x y → IsSamePoint y z → IsSamePoint x z
same_point_through x y z s t = record {
  left = s.left;
  right = t.right;
  len = s.len ∙ t.len;
  values = λ v. (same_through (value_of x v) (value_of y v) (value_of z v) (same_point_value x y v s) (same_point_value y z v t)).cross;
}

-- equal cross products go through sums and products, whatever the denominators
pub plus_cross : (a b x y : Fraction) → HaveSameCross a x → HaveSameCross b y → HaveSameCross (plus a b) (plus x y)
plus_cross a b x y p q =
    let m = simp spread at (ap (λ z. z *ℤ (b.den *ℤ y.den)) p) in
    let n = simp spread at (ap (λ z. z *ℤ (a.den *ℤ x.den)) q) in
    simp spread (omega (arith, ints, m, n))

pub times_cross : (a b x y : Fraction) → HaveSameCross a x → HaveSameCross b y → HaveSameCross (times a b) (times x y)
times_cross a b x y p q =
    let m = simp spread at (ap₂ ◌*ℤ◌ p q) in simp spread (omega (arith, ints, m))

pub plus_same : (a b x y : Fraction) → IsSame a x → IsSame b y → IsSame (plus a b) (plus x y)
plus_same a b x y s t = record {
  left = mul_positive a.den b.den s.left t.left;
  right = mul_positive x.den y.den s.right t.right;
  cross = plus_cross a b x y s.cross t.cross;
}

pub times_same : (a b x y : Fraction) → IsSame a x → IsSame b y → IsSame (times a b) (times x y)
times_same a b x y s t = record {
  left = mul_positive a.den b.den s.left t.left;
  right = mul_positive x.den y.den s.right t.right;
  cross = times_cross a b x y s.cross t.cross;
}

-- the sums of fractions of the same values
pub sum_over_same : {A : Type 0} (xs : List A) (f g : A → Fraction) → ((x : A) → IsSame (f x) (g x)) → IsSame (sum_over xs f) (sum_over xs g)
sum_over_same [] f g h = same_refl (whole (pos 0)) (omega (arith, ints))
sum_over_same (x ∷ xs) f g h =
    plus_same (f x) (sum_over xs f) (g x) (sum_over xs g) (h x) (sum_over_same xs f g h)

pub sum_below_same : (n : ℕ) (f g : ℕ → Fraction) → ((v : ℕ) → v < n → IsSame (f v) (g v)) → IsSame (sum_below n f) (sum_below n g)
sum_below_same zero f g h = same_refl (whole (pos 0)) (omega (arith, ints))
sum_below_same (suc n) f g h =
    let before = sum_below_same n f g (λ v p. h v (omega arith)) in
    plus_same (sum_below n f) (f n) (sum_below n g) (g n) before (h n (omega arith))

own_worth : (a b c : ℤ) → a *ℤ (b *ℤ c) ≡ (a *ℤ c) *ℤ b
own_worth a b c = simp spread refl

other_worth : (a b c : ℤ) → a *ℤ (b *ℤ c) ≡ (a *ℤ b) *ℤ c
other_worth a b c = simp spread refl

-- fractions of the same values are ordered alike
pub order_same : (a b x y : Fraction) → IsSame a x → IsSame b y → IsAtMost a b → IsAtMost x y
order_same a b x y s t h =
    let d = a.den *ℤ b.den in
    let n = a.num *ℤ b.den in
    let m = b.num *ℤ a.den in
    let left : Worth d a n = record { below = s.left; equal = own_worth a.num a.den b.den } in
    let right : Worth d b m = record { below = t.left; equal = other_worth b.num a.den b.den } in
    let over = mul_positive a.den b.den s.left t.left in
    let first = worth_of_same d a x n s.right s.cross left in
    let second = worth_of_same d b y m t.right t.cross right in
    at_most d x y n m over first second h

-- a fraction in lowest terms
pub lowest_den : (f : Fraction) → IsLowest f → (pos 0) <ℤ f.den
lowest_den f l = l.ratio.positive

pub lowest_is_same : (f g : Fraction) → IsLowest f → (pos 0) <ℤ g.den → HaveSameCross f g → IsSame f g
lowest_is_same f g l q e = is_same f g l.ratio.positive q e

-- two of one value, both in lowest terms, are equal
pub lowest_equal : (f g : Fraction) → IsLowest f → IsLowest g → IsSame f g → f ≡ g
lowest_equal f g p q s = lowest_same f g p q s.cross

pub reduce_is_same : (num den : ℤ) → IsRatio num den → IsSame (reduce num den) (record { num = num; den = den })
reduce_is_same num den r = record {
  left = (reduce_lowest num den r).ratio.positive;
  right = r.positive;
  cross = reduce_same num den r.positive;
}
