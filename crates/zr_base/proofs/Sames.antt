-- Fractions of the same value, in sums and products.
use Rattle.std.proofs.Common.{◌≡◌, arith, sym, ap, ap₂, ◌∙◌, ℤ, pos, ◌+ℤ◌, ◌*ℤ◌, ◌<ℤ◌, Result, Ok, Err, IfOk, List, [], ◌∷◌, ◌++◌}
use Rattle.std.proofs.lemmas.Int.{ints}
use Rattle.zr_base.specs.declared.step.Wide.{Wide}
use Rattle.zr_base.specs.Fractions.{Fraction, HaveSameCross, plus, times, whole, sum_over}
use Rattle.zr_base.proofs.Ring.{spread, mul_assoc}
use Rattle.zr_base.proofs.Divisors.{cancel, same_value}

module _ (f a b x : Fraction) (positive : (pos 0) <ℤ b.den) where
  pub times_right : HaveSameCross f (times a b) → HaveSameCross b x → HaveSameCross f (times a x)
  times_right e h =
      let p = simp spread at (ap (λ z. z *ℤ x.den) e) in
      let q = simp spread at (ap (λ z. (a.num *ℤ f.den) *ℤ z) h) in
      cancel (f.num *ℤ (a.den *ℤ x.den)) ((a.num *ℤ x.num) *ℤ f.den) b.den positive (simp spread (omega (arith, ints, p, q)))

  pub times_left : HaveSameCross f (times b a) → HaveSameCross b x → HaveSameCross f (times x a)
  times_left e h =
      let p = simp spread at (ap (λ z. z *ℤ x.den) e) in
      let q = simp spread at (ap (λ z. (a.num *ℤ f.den) *ℤ z) h) in
      cancel (f.num *ℤ (x.den *ℤ a.den)) ((x.num *ℤ a.num) *ℤ f.den) b.den positive (simp spread (omega (arith, ints, p, q)))

  pub plus_right : HaveSameCross f (plus a b) → HaveSameCross b x → HaveSameCross f (plus a x)
  plus_right e h =
      let p = simp spread at (ap (λ z. z *ℤ x.den) e) in
      let q = simp spread at (ap (λ z. (a.den *ℤ f.den) *ℤ z) h) in
      cancel (f.num *ℤ (a.den *ℤ x.den)) ((a.num *ℤ x.den +ℤ x.num *ℤ a.den) *ℤ f.den) b.den positive (simp spread (omega (arith, ints, p, q)))

  pub plus_left : HaveSameCross f (plus b a) → HaveSameCross b x → HaveSameCross f (plus x a)
  plus_left e h =
      let p = simp spread at (ap (λ z. z *ℤ x.den) e) in
      let q = simp spread at (ap (λ z. (a.den *ℤ f.den) *ℤ z) h) in
      cancel (f.num *ℤ (x.den *ℤ a.den)) ((x.num *ℤ a.den +ℤ a.num *ℤ x.den) *ℤ f.den) b.den positive (simp spread (omega (arith, ints, p, q)))

  pub same_trans : HaveSameCross f b → HaveSameCross b x → HaveSameCross f x
  same_trans e h = same_value f.num f.den b.num b.den x.num x.den positive e h

pub same_record : (a b : Fraction) → a.num ≡ b.num → a.den ≡ b.den → a ≡ b
same_record a b n d = let make : ℤ → ℤ → Fraction = λ p q. record { num = p; den = q } in ap₂ make n d

pub plus_assoc : (a b c : Fraction) → plus a (plus b c) ≡ plus (plus a b) c
plus_assoc a b c =
    same_record (plus a (plus b c)) (plus (plus a b) c) (num a.num a.den b.num b.den c.num c.den) (sym (mul_assoc a.den b.den c.den))
  where
    num : (an ad bn bd cn cd : ℤ) → an *ℤ (bd *ℤ cd) +ℤ (bn *ℤ cd +ℤ cn *ℤ bd) *ℤ ad ≡ (an *ℤ bd +ℤ bn *ℤ ad) *ℤ cd +ℤ cn *ℤ (ad *ℤ bd)
    num an ad bn bd cn cd = simp spread (omega (arith, ints))

pub times_assoc : (a b c : Fraction) → times (times a b) c ≡ times a (times b c)
times_assoc a b c =
    same_record (times (times a b) c) (times a (times b c)) (mul_assoc a.num b.num c.num) (mul_assoc a.den b.den c.den)

-- a sum with one item more at its end
pub sum_over-snoc : {A : Type 0} (xs : List A) (t : A) (g : A → Fraction) → sum_over (xs ++ t ∷ []) g ≡ plus (sum_over xs g) (g t)
sum_over-snoc [] t g =
    same_record (plus (g t) (whole (pos 0))) (plus (whole (pos 0)) (g t)) (omega (arith, ints)) (omega (arith, ints))
sum_over-snoc (x ∷ xs) t g =
    ap (plus (g x)) (sum_over-snoc xs t g) ∙ plus_assoc (g x) (sum_over xs g) (g t)

pub if_same : (r : Result Fraction Wide) (a b : Fraction) → ((f : Fraction) → HaveSameCross f a → HaveSameCross f b) → IfOk r (λ f. HaveSameCross f a) → IfOk r (λ f. HaveSameCross f b)
if_same (Ok f) a b h e = h f e
if_same (Err w) a b h e = e
