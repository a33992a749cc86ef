-- By how much one fraction exceeds another at least.
use Rattle.std.proofs.Common.{◌≡◌, ℕ, zero, suc, ◌<◌, arith, refl, ap, ◌∙◌, ℤ, pos, neg_ℤ, ◌+ℤ◌, ◌-ℤ◌, ◌*ℤ◌, ◌≤ℤ◌, ◌<ℤ◌}
use Rattle.std.proofs.lemmas.Int.{ints}
use Rattle.zr_base.specs.Fractions.{Fraction, IsAtMost, plus, sum_below, times, whole}
use Rattle.zr_base.specs.Sums.{sum_to}
use Rattle.zr_base.proofs.Divisors.{mul_positive}
use Rattle.zr_base.proofs.Ring.{spread}
use Rattle.zr_base.proofs.Worth.{le_times}
use Rattle.zr_boxes.specs.declared.range.Range.{Range}
use Rattle.zr_boxes.specs.Ranges.{least_product, shifted}
use Rattle.zr_boxes.proofs.Ranged.{IsFrom, product_above}

-- d times the difference of a and b is l at least
pub record Exceeds (d l : ℤ) (a b : Fraction) : Type 0 where
  pub left : (pos 0) <ℤ a.den
  pub right : (pos 0) <ℤ b.den
  pub gain : (l *ℤ (a.den *ℤ b.den) +ℤ d *ℤ (b.num *ℤ a.den)) ≤ℤ (d *ℤ (a.num *ℤ b.den))

pub exceeds_nothing : (d : ℤ) → Exceeds d (pos 0) (whole (pos 0)) (whole (pos 0))
exceeds_nothing d = record {
  left = omega (arith, ints);
  right = omega (arith, ints);
  gain = omega (arith, ints);
}

pub exceeds_plus : (d l m : ℤ) (a b e f : Fraction) → Exceeds d l a b → Exceeds d m e f
    → Exceeds d (l +ℤ m) (plus a e) (plus b f)
exceeds_plus d l m a b e f p q =
    let g = simp spread at (le_times (l *ℤ (a.den *ℤ b.den) +ℤ d *ℤ (b.num *ℤ a.den))
    (d *ℤ (a.num *ℤ b.den)) (e.den *ℤ f.den) (mul_positive e.den f.den q.left q.right) p.gain) in
    let h = simp spread at (le_times (m *ℤ (e.den *ℤ f.den) +ℤ d *ℤ (f.num *ℤ e.den))
    (d *ℤ (e.num *ℤ f.den)) (a.den *ℤ b.den) (mul_positive a.den b.den p.left p.right) q.gain) in
    record {
      left = mul_positive a.den e.den p.left q.left;
      right = mul_positive b.den f.den p.right q.right;
      gain = simp spread (omega (arith, ints, g, h));
    }

pub exceeds_sum : (d : ℤ) (n : ℕ) (l : ℕ → ℤ) (a b : ℕ → Fraction)
    → ((v : ℕ) → v < n → Exceeds d (l v) (a v) (b v))
    → Exceeds d (sum_to n l) (sum_below n a) (sum_below n b)
exceeds_sum d zero l a b each = exceeds_nothing d
exceeds_sum d (suc n) l a b each =
    exceeds_plus d (sum_to n l) (l n) (sum_below n a) (sum_below n b) (a n) (b n)
    (exceeds_sum d n l a b (λ v h. each v (omega arith))) (each n (omega arith))

-- two products of one fraction, which is in a range, with a value in another range and with `p / d`
module _ (d p : ℤ) (r s : Range) (f g : Fraction) (positive : (pos 0) <ℤ d)
    (slope : IsFrom s.low s.high f) (value : IsFrom r.low r.high g) where
  -- d times the value less p, times the value's denominator
  abbrev way : ℤ
  way = g.num *ℤ d +ℤ neg_ℤ (p *ℤ g.den)

  spread_way : (l : ℤ) → (d *ℤ l -ℤ p) *ℤ g.den ≡ (l *ℤ g.den) *ℤ d +ℤ neg_ℤ (p *ℤ g.den)
  spread_way l = flat l g.den
    where
      flat : (l e : ℤ) → (d *ℤ l -ℤ p) *ℤ e ≡ (l *ℤ e) *ℤ d +ℤ neg_ℤ (p *ℤ e)
      flat l e =
          let minus : d *ℤ l -ℤ p ≡ d *ℤ l +ℤ neg_ℤ p = omega (arith, ints) in
          ap (λ z. z *ℤ e) minus ∙ simp spread refl

  way_low : ((shifted d p r).low *ℤ g.den) ≤ℤ way
  way_low =
      let h = le_times (r.low *ℤ g.den) g.num d positive value.low in
      let e = spread_way r.low in
      omega (arith, ints, h, e)

  way_high : way ≤ℤ ((shifted d p r).high *ℤ g.den)
  way_high =
      let h = le_times g.num (r.high *ℤ g.den) d positive value.high in
      let e = spread_way r.high in
      omega (arith, ints, h, e)

  product : (least_product (shifted d p r) s *ℤ (g.den *ℤ f.den)) ≤ℤ (way *ℤ f.num)
  product = product_above (shifted d p r) s g.den f.den way f.num value.below slope.below way_low
      way_high slope.low slope.high

  pub exceeds_times : Exceeds d (least_product (shifted d p r) s) (times f g)
      (times f (record { num = p; den = d }))
  exceeds_times = record {
    left = mul_positive f.den g.den slope.below value.below;
    right = mul_positive f.den d slope.below positive;
    gain = flat (least_product (shifted d p r) s) f.num f.den g.num g.den
        (le_times (least_product (shifted d p r) s *ℤ (g.den *ℤ f.den)) (way *ℤ f.num) (f.den *ℤ d)
        (mul_positive f.den d slope.below positive) product);
  }
    where
      flat : (l fn fd gn gd : ℤ)
          → ((l *ℤ (gd *ℤ fd)) *ℤ (fd *ℤ d)) ≤ℤ (((gn *ℤ d +ℤ neg_ℤ (p *ℤ gd)) *ℤ fn) *ℤ (fd *ℤ d))
          → (l *ℤ ((fd *ℤ gd) *ℤ (fd *ℤ d)) +ℤ d *ℤ ((fn *ℤ p) *ℤ (fd *ℤ gd)))
          ≤ℤ (d *ℤ ((fn *ℤ gn) *ℤ (fd *ℤ d)))
      flat l fn fd gn gd h = let k = simp spread at h in simp spread (omega (arith, ints, k))

-- where the fraction is 0 both products are
pub exceeds_zero : (d p : ℤ) (f g : Fraction) → (pos 0) <ℤ d → (pos 0) <ℤ f.den → (pos 0) <ℤ g.den
    → f.num ≡ pos 0 → Exceeds d (pos 0) (times f g) (times f (record { num = p; den = d }))
exceeds_zero d p f g positive below_f below_g e = record {
  left = mul_positive f.den g.den below_f below_g;
  right = mul_positive f.den d below_f positive;
  gain = rw e (flat (f.den *ℤ g.den) (f.den *ℤ d) g.num);
}
  where
    flat : (a b z : ℤ) → (pos 0 *ℤ (a *ℤ b) +ℤ d *ℤ ((pos 0 *ℤ p) *ℤ a))
        ≤ℤ (d *ℤ ((pos 0 *ℤ z) *ℤ b))
    flat a b z =
        let e : pos 0 *ℤ (a *ℤ b) ≡ pos 0 = omega (arith, ints) in
        let f : d *ℤ ((pos 0 *ℤ p) *ℤ a) ≡ pos 0 = none p a in
        let g : d *ℤ ((pos 0 *ℤ z) *ℤ b) ≡ pos 0 = none z b in
        rw (e, f, g) (omega (arith, ints))
      where
        none : (x y : ℤ) → d *ℤ ((pos 0 *ℤ x) *ℤ y) ≡ pos 0
        none x y =
            let e : pos 0 *ℤ x ≡ pos 0 = omega (arith, ints) in
            let f : pos 0 *ℤ y ≡ pos 0 = omega (arith, ints) in
            let g : d *ℤ pos 0 ≡ pos 0 = omega (arith, ints) in
            rw (e, f) g

-- what exceeds another fraction by more than 0 isn't at most that
pub not_at_most : (d l : ℤ) (a b : Fraction) → (pos 0) <ℤ d → (pos 0) <ℤ l → Exceeds d l a b
    → IsAtMost a b → ⊥
not_at_most d l a b positive some h most =
    let f = mul_positive l (a.den *ℤ b.den) some (mul_positive a.den b.den h.left h.right) in
    let g = le_times (a.num *ℤ b.den) (b.num *ℤ a.den) d positive most in
    let k = h.gain in
    flat (a.num *ℤ b.den) (b.num *ℤ a.den) (l *ℤ (a.den *ℤ b.den)) f g k
  where
    flat : (x y z : ℤ) → (pos 0) <ℤ z → (x *ℤ d) ≤ℤ (y *ℤ d) → (z +ℤ d *ℤ y) ≤ℤ (d *ℤ x) → ⊥
    flat x y z f g k =
        let u : x *ℤ d ≡ d *ℤ x = simp spread refl in
        let w : y *ℤ d ≡ d *ℤ y = simp spread refl in
        omega (arith, ints, f, g, k, u, w)
