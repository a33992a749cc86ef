-- Fractions within ranges, and what their sums and products are within.
use Rattle.std.proofs.Common.{◌≡◌, ◌∙◌, arith, refl, sym, ℤ, pos, negsuc, neg_ℤ, ◌+ℤ◌, ◌*ℤ◌, ◌≤ℤ◌, ◌<ℤ◌, Bool, true, false, List, [], ◌∷◌, map, int_lt, ◌⊎◌, ⊎_elim, inl, inr}
use Rattle.std.proofs.Math.IntN.{*ℤ_comm}
use Rattle.std.proofs.lemmas.Int.{ints}
use Rattle.zr_base.specs.Fractions.{Fraction, plus, sum_over, times, whole}
use Rattle.zr_base.specs.Sums.{sum_products}
use Rattle.zr_base.proofs.Divisors.{mul_positive}
use Rattle.zr_base.proofs.Ring.{le-mul_right, lt-mul_right, mul_assoc, neg-mul_left, spread}
use Rattle.zr_base.proofs.Worth.{Each, le_times}
use Rattle.zr_boxes.specs.declared.range.Range.{Range}
use Rattle.zr_boxes.specs.declared.range.End.TheVariants.{Least, Greatest}
use Rattle.zr_boxes.specs.Ranges.{end_at, least_product, lesser_of}

-- the fraction is from l to h
pub record IsFrom (l h : ℤ) (f : Fraction) : Type 0 where
  pub below : (pos 0) <ℤ f.den
  pub low : (l *ℤ f.den) ≤ℤ f.num
  pub high : f.num ≤ℤ (h *ℤ f.den)

pub from_whole : (z : ℤ) → IsFrom z z (whole z)
from_whole z = record {
  below = omega (arith, ints);
  low = omega (arith, ints);
  high = omega (arith, ints);
}

pub from_plus : (l h m k : ℤ) (f g : Fraction) → IsFrom l h f → IsFrom m k g
    → IsFrom (l +ℤ m) (h +ℤ k) (plus f g)
from_plus l h m k f g p q =
    let a = simp spread at (le_times (l *ℤ f.den) f.num g.den q.below p.low) in
    let b = simp spread at (le_times (m *ℤ g.den) g.num f.den p.below q.low) in
    let c = simp spread at (le_times f.num (h *ℤ f.den) g.den q.below p.high) in
    let d = simp spread at (le_times g.num (k *ℤ g.den) f.den p.below q.high) in
    record {
      below = mul_positive f.den g.den p.below q.below;
      low = simp spread (omega (arith, ints, a, b));
      high = simp spread (omega (arith, ints, c, d));
    }

-- a number that isn't below zero keeps the order, and one that is turns it
pub keeps_order : (a x y : ℤ) → (pos 0) ≤ℤ a → x ≤ℤ y → (a *ℤ x) ≤ℤ (a *ℤ y)
keeps_order (pos n) x y h o =
    let e = le-mul_right x y n o in rw (*ℤ_comm (pos n) x, *ℤ_comm (pos n) y) e
keeps_order (negsuc n) x y h o = absurd (omega (arith, ints, h))

pub turns_order : (a x y : ℤ) → a <ℤ (pos 0) → x ≤ℤ y → (a *ℤ y) ≤ℤ (a *ℤ x)
turns_order a x y h o =
    let k = keeps_order (neg_ℤ a) x y (omega (arith, ints, h)) o in
    let l = neg-mul_left a x in
    let r = neg-mul_left a y in
    omega (arith, ints, k, l, r)

pub either_sign : (a : ℤ) → ((a <ℤ (pos 0)) × (int_lt a (pos 0) ≡ true))
    ⊎ (((pos 0) ≤ℤ a) × (int_lt a (pos 0) ≡ false))
either_sign a = which (int_lt a (pos 0)) refl
  where
    which : (t : Bool) → int_lt a (pos 0) ≡ t → ((a <ℤ (pos 0)) × (int_lt a (pos 0) ≡ true))
        ⊎ (((pos 0) ≤ℤ a) × (int_lt a (pos 0) ≡ false))
    which true e = inl (omega (arith, ints, e), e)
    which false e = inr (omega (arith, ints, e), e)

-- strict order is kept and turned likewise
keeps_less : (a x y : ℤ) → (pos 0) <ℤ a → x <ℤ y → (a *ℤ x) <ℤ (a *ℤ y)
keeps_less (pos n) x y h o =
    let e = lt-mul_right x y n (omega (arith, ints, h)) o in
    rw (*ℤ_comm (pos n) x, *ℤ_comm (pos n) y) e
keeps_less (negsuc n) x y h o = absurd (omega (arith, ints, h))

turns_less : (a x y : ℤ) → a <ℤ (pos 0) → x <ℤ y → (a *ℤ y) <ℤ (a *ℤ x)
turns_less a x y h o =
    let k = keeps_less (neg_ℤ a) x y (omega (arith, ints, h)) o in
    let l = neg-mul_left a x in
    let r = neg-mul_left a y in
    omega (arith, ints, k, l, r)

is_less : (x y : ℤ) → x <ℤ y → int_lt x y ≡ true
is_less x y h = which (int_lt x y) refl
  where
    which : (t : Bool) → int_lt x y ≡ t → int_lt x y ≡ true
    which true e = e
    which false e = absurd (omega (arith, ints, e, h))

not_less : (x y : ℤ) → y ≤ℤ x → int_lt x y ≡ false
not_less x y h = which (int_lt x y) refl
  where
    which : (t : Bool) → int_lt x y ≡ t → int_lt x y ≡ false
    which true e = absurd (omega (arith, ints, e, h))
    which false e = e

-- products with one number are compared without being made
pub less_below : (a x y : ℤ) → a <ℤ (pos 0) → int_lt y x ≡ int_lt (a *ℤ x) (a *ℤ y)
less_below a x y h = which (int_lt y x) refl
  where
    which : (t : Bool) → int_lt y x ≡ t → int_lt y x ≡ int_lt (a *ℤ x) (a *ℤ y)
    which true e =
        e ∙ sym (is_less (a *ℤ x) (a *ℤ y) (turns_less a y x h (omega (arith, ints, e))))
    which false e =
        e ∙ sym (not_less (a *ℤ x) (a *ℤ y) (turns_order a x y h (omega (arith, ints, e))))

pub less_zero : (a x y : ℤ) → a ≡ pos 0 → false ≡ int_lt (a *ℤ x) (a *ℤ y)
less_zero a x y h =
    rw h (sym (not_less (pos 0 *ℤ x) (pos 0 *ℤ y) (omega (arith, ints))))

pub less_above : (a x y : ℤ) → (pos 0) <ℤ a → int_lt x y ≡ int_lt (a *ℤ x) (a *ℤ y)
less_above a x y h = which (int_lt x y) refl
  where
    which : (t : Bool) → int_lt x y ≡ t → int_lt x y ≡ int_lt (a *ℤ x) (a *ℤ y)
    which true e =
        e ∙ sym (is_less (a *ℤ x) (a *ℤ y) (keeps_less a x y h (omega (arith, ints, e))))
    which false e =
        e ∙ sym (not_less (a *ℤ x) (a *ℤ y)
        (keeps_order a y x (omega (arith, ints, h)) (omega (arith, ints, e))))

-- the multiple at the chosen end is at most, or at least, that at each end
end_least : (a : ℤ) (r : Range) → ((a *ℤ end_at Least a r) ≤ℤ (a *ℤ r.low))
    × ((a *ℤ end_at Least a r) ≤ℤ (a *ℤ r.high))
end_least a r = which (int_lt (a *ℤ r.high) (a *ℤ r.low)) refl
  where
    which : (t : Bool) → int_lt (a *ℤ r.high) (a *ℤ r.low) ≡ t
        → ((a *ℤ end_at Least a r) ≤ℤ (a *ℤ r.low)) × ((a *ℤ end_at Least a r) ≤ℤ (a *ℤ r.high))
    which true e = rw e (omega (arith, ints, e), omega (arith, ints))
    which false e = rw e (omega (arith, ints), omega (arith, ints, e))

end_greatest : (a : ℤ) (r : Range) → ((a *ℤ r.low) ≤ℤ (a *ℤ end_at Greatest a r))
    × ((a *ℤ r.high) ≤ℤ (a *ℤ end_at Greatest a r))
end_greatest a r = which (int_lt (a *ℤ r.low) (a *ℤ r.high)) refl
  where
    which : (t : Bool) → int_lt (a *ℤ r.low) (a *ℤ r.high) ≡ t
        → ((a *ℤ r.low) ≤ℤ (a *ℤ end_at Greatest a r))
        × ((a *ℤ r.high) ≤ℤ (a *ℤ end_at Greatest a r))
    which true e = rw e (omega (arith, ints, e), omega (arith, ints))
    which false e = rw e (omega (arith, ints), omega (arith, ints, e))

-- a multiple of a value in a range is from its least to its greatest
pub from_multiple : (a : ℤ) (r : Range) (f : Fraction) → IsFrom r.low r.high f
    → IsFrom (a *ℤ end_at Least a r) (a *ℤ end_at Greatest a r) (times (whole a) f)
from_multiple a r f p =
    within (a *ℤ end_at Least a r) (a *ℤ end_at Greatest a r) (end_least a r) (end_greatest a r)
  where
    one : pos 1 *ℤ f.den ≡ f.den
    one = omega (arith, ints)

    within : (l g : ℤ) → (l ≤ℤ (a *ℤ r.low)) × (l ≤ℤ (a *ℤ r.high))
        → ((a *ℤ r.low) ≤ℤ g) × ((a *ℤ r.high) ≤ℤ g) → IsFrom l g (times (whole a) f)
    within l g least greatest =
        let u = mul_assoc a r.low f.den in
        let w = mul_assoc a r.high f.den in
        let ll = le_times l (a *ℤ r.low) f.den p.below least.0 in
        let lh = le_times l (a *ℤ r.high) f.den p.below least.1 in
        let gl = le_times (a *ℤ r.low) g f.den p.below greatest.0 in
        let gh = le_times (a *ℤ r.high) g f.den p.below greatest.1 in
        ⊎_elim (λ (s : (a <ℤ (pos 0)) × (int_lt a (pos 0) ≡ true)).
        let low = turns_order a f.num (r.high *ℤ f.den) s.0 p.high in
        let high = turns_order a (r.low *ℤ f.den) f.num s.0 p.low in
        record {
          below = rw one p.below;
          low = rw one (omega (arith, ints, low, lh, w));
          high = rw one (omega (arith, ints, high, gl, u));
        })
        (λ (s : ((pos 0) ≤ℤ a) × (int_lt a (pos 0) ≡ false)).
        let low = keeps_order a (r.low *ℤ f.den) f.num s.0 p.low in
        let high = keeps_order a f.num (r.high *ℤ f.den) s.0 p.high in
        record {
          below = rw one p.below;
          low = rw one (omega (arith, ints, low, ll, u));
          high = rw one (omega (arith, ints, high, gh, w));
        }) (either_sign a)

-- the sum of multiples of values in ranges
pub from_sum : {A : Type 0} (P : A → Type 0) (coef : A → ℤ) (range : A → Range) (f : A → Fraction)
    → ((x : A) → P x → IsFrom (range x).low (range x).high (f x)) → (xs : List A) → Each P xs
    → IsFrom (sum_products (map (λ x. (coef x, end_at Least (coef x) (range x))) xs))
    (sum_products (map (λ x. (coef x, end_at Greatest (coef x) (range x))) xs))
    (sum_over xs (λ x. times (whole (coef x)) (f x)))
from_sum P coef range f within [] all = from_whole (pos 0)
from_sum P coef range f within (x ∷ xs) all =
    from_plus (coef x *ℤ end_at Least (coef x) (range x))
    (coef x *ℤ end_at Greatest (coef x) (range x)) _ _ (times (whole (coef x)) (f x))
    (sum_over xs (λ y. times (whole (coef y)) (f y)))
    (from_multiple (coef x) (range x) (f x) (within x all.0))
    (from_sum P coef range f within xs all.1)

-- the lesser of two is at most each
lesser_below : (a b : ℤ) → (lesser_of a b ≤ℤ a) × (lesser_of a b ≤ℤ b)
lesser_below a b = which (int_lt b a) refl
  where
    which : (t : Bool) → int_lt b a ≡ t → (lesser_of a b ≤ℤ a) × (lesser_of a b ≤ℤ b)
    which true e = rw e (omega (arith, ints, e), omega (arith, ints))
    which false e = rw e (omega (arith, ints), omega (arith, ints, e))

lesser_of_two : (x y a b : ℤ) → (lesser_of x y ≤ℤ x) × (lesser_of x y ≤ℤ y) → x ≤ℤ a → y ≤ℤ b
    → (lesser_of x y ≤ℤ a) × (lesser_of x y ≤ℤ b)
lesser_of_two x y a b h p q =
    let u = h.0 in
    let w = h.1 in
    (through (lesser_of x y) x a u p, through (lesser_of x y) y b w q)
  where
    through : (l m n : ℤ) → l ≤ℤ m → m ≤ℤ n → l ≤ℤ n
    through l m n f g = omega (arith, ints, f, g)

finish : (l a b m n y z : ℤ) → (l *ℤ (m *ℤ n)) ≤ℤ ((a *ℤ b) *ℤ (m *ℤ n))
    → ((a *ℤ (b *ℤ n)) *ℤ m) ≤ℤ ((a *ℤ z) *ℤ m) → ((a *ℤ m) *ℤ z) ≤ℤ (y *ℤ z)
    → (l *ℤ (m *ℤ n)) ≤ℤ (y *ℤ z)
finish l a b m n y z f g h =
    let u : (a *ℤ b) *ℤ (m *ℤ n) ≡ (a *ℤ (b *ℤ n)) *ℤ m = simp spread refl in
    let w : (a *ℤ z) *ℤ m ≡ (a *ℤ m) *ℤ z = simp spread refl in
    omega (arith, ints, f, g, h, u, w)

-- y is m times a value from a to b, z is n times one from c to e, and l is at most each product of
-- their ends
module _ (l a b c e m n y z : ℤ) (above_m : (pos 0) <ℤ m) (above_n : (pos 0) <ℤ n)
    (low : (a *ℤ m) ≤ℤ y) (high : y ≤ℤ (b *ℤ m)) (left : (c *ℤ n) ≤ℤ z) (right : z ≤ℤ (e *ℤ n))
  where
    -- one end of the first range, and then one of the second
    by_end : (x : ℤ) → l ≤ℤ (x *ℤ c) → l ≤ℤ (x *ℤ e) → ((x *ℤ m) *ℤ z) ≤ℤ (y *ℤ z)
        → (l *ℤ (m *ℤ n)) ≤ℤ (y *ℤ z)
    by_end x first second h =
        let positive = mul_positive m n above_m above_n in
        ⊎_elim (λ (t : (x <ℤ (pos 0)) × (int_lt x (pos 0) ≡ true)).
        finish l x e m n y z (le_times l (x *ℤ e) (m *ℤ n) positive second)
        (le_times (x *ℤ (e *ℤ n)) (x *ℤ z) m above_m (turns_order x z (e *ℤ n) t.0 right)) h)
        (λ (t : ((pos 0) ≤ℤ x) × (int_lt x (pos 0) ≡ false)).
        finish l x c m n y z (le_times l (x *ℤ c) (m *ℤ n) positive first)
        (le_times (x *ℤ (c *ℤ n)) (x *ℤ z) m above_m (keeps_order x (c *ℤ n) z t.0 left)) h)
        (either_sign x)

    product_least : l ≤ℤ (a *ℤ c) → l ≤ℤ (a *ℤ e) → l ≤ℤ (b *ℤ c) → l ≤ℤ (b *ℤ e)
        → (l *ℤ (m *ℤ n)) ≤ℤ (y *ℤ z)
    product_least f g h k =
        ⊎_elim (λ (t : (z <ℤ (pos 0)) × (int_lt z (pos 0) ≡ true)). by_end b h k (turned t.0))
        (λ (t : ((pos 0) ≤ℤ z) × (int_lt z (pos 0) ≡ false)). by_end a f g (kept t.0))
        (either_sign z)
      where
        kept : (pos 0) ≤ℤ z → ((a *ℤ m) *ℤ z) ≤ℤ (y *ℤ z)
        kept h =
            let k = keeps_order z (a *ℤ m) y h low in
            let u = *ℤ_comm z (a *ℤ m) in
            let w = *ℤ_comm z y in
            omega (arith, ints, k, u, w)

        turned : z <ℤ (pos 0) → ((b *ℤ m) *ℤ z) ≤ℤ (y *ℤ z)
        turned h =
            let k = turns_order z y (b *ℤ m) h high in
            let u = *ℤ_comm z (b *ℤ m) in
            let w = *ℤ_comm z y in
            omega (arith, ints, k, u, w)

-- where y is m times a value in the first range and z is n times one in the second, their product is
-- m times n times the least one at least
pub product_above : (r s : Range) (m n y z : ℤ) → (pos 0) <ℤ m → (pos 0) <ℤ n
    → (r.low *ℤ m) ≤ℤ y → y ≤ℤ (r.high *ℤ m) → (s.low *ℤ n) ≤ℤ z → z ≤ℤ (s.high *ℤ n)
    → (least_product r s *ℤ (m *ℤ n)) ≤ℤ (y *ℤ z)
product_above r s m n y z above_m above_n low high left right =
    let first = lesser_of (r.low *ℤ s.low) (r.low *ℤ s.high) in
    let second = lesser_of (r.high *ℤ s.low) (r.high *ℤ s.high) in
    let t = lesser_below first second in
    let a = lesser_below (r.low *ℤ s.low) (r.low *ℤ s.high) in
    let b = lesser_below (r.high *ℤ s.low) (r.high *ℤ s.high) in
    let lows = lesser_of_two first second (r.low *ℤ s.low) (r.high *ℤ s.low) t a.0 b.0 in
    let highs = lesser_of_two first second (r.low *ℤ s.high) (r.high *ℤ s.high) t a.1 b.1 in
    product_least (least_product r s) r.low r.high s.low s.high m n y z above_m above_n low high
    left right lows.0 highs.0 lows.1 highs.1
