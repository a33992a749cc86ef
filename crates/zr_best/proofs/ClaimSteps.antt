-- A claim with 1 and a claim with 0: the same multiple, and the same left side.
use Rattle.std.proofs.Common.{◌≡◌, ℕ, suc, arith, refl, sym, ap, subst, ◌∙◌, ℤ, pos, negsuc, neg_ℤ, ◌-ℤ◌, ◌*ℤ◌, ◌<ℤ◌, unsigned_abs, int_div, Result, Ok, Err, List, [], ◌∷◌, ◌++◌, length, All}
use Rattle.std.proofs.Math.Nat.{one-dvd}
use Rattle.std.proofs.lemmas.Int.{ints}
use Rattle.std.proofs.lemmas.List.Elements.{All-cons, All-nil}
use Rattle.zr_base.specs.declared.step.Wide.{Wide}
use Rattle.zr_base.specs.Fractions.{Fraction, IsSame, times, whole}
use Rattle.zr_base.specs.Lowest.{gcd_of}
use Rattle.zr_base.specs.Steps.{IsNarrow, cross_of, ◌>>=◌}
use Rattle.zr_base.proofs.CrossLaws.{cross_is, cross_ok, then_ok}
use Rattle.zr_base.proofs.Divisors.{cancel, quot_exact}
use Rattle.zr_mix.specs.Claims.{IsClaim, IsLeastMultiple}
use Rattle.zr_mix.specs.Steps.{all_negated, claim_steps, multiple_steps, negated_over}

same_multiple : (m : ℤ) (xs : List Fraction) (f g : Fraction) → f.den ≡ g.den
    → multiple_steps m (xs ++ f ∷ []) ≡ multiple_steps m (xs ++ g ∷ [])
same_multiple m [] f g e =
    ap (λ d. cross_of (m, int_div d (pos (gcd_of (unsigned_abs m) (unsigned_abs d)))) (pos 0, pos 0) >>= λ r. Ok r) e
same_multiple m (x ∷ xs) f g e =
    next (cross_of (m, int_div x.den (pos (gcd_of (unsigned_abs m) (unsigned_abs x.den)))) (pos 0, pos 0))
    (λ z. same_multiple z xs f g e)
  where
    next : (r : Result ℤ Wide) → ((z : ℤ) → multiple_steps z (xs ++ f ∷ []) ≡ multiple_steps z (xs ++ g ∷ []))
        → (r >>= λ z. multiple_steps z (xs ++ f ∷ [])) ≡ (r >>= λ z. multiple_steps z (xs ++ g ∷ []))
    next (Ok z) each = each z
    next (Err w) each = refl

-- the last multiple is narrow
multiple_narrow : (m r : ℤ) (xs : List Fraction) (f : Fraction) → multiple_steps m (xs ++ f ∷ []) ≡ Ok r → IsNarrow r
multiple_narrow m r [] f e =
    let s = then_ok (cross_of (m, int_div f.den (pos (gcd_of (unsigned_abs m) (unsigned_abs f.den)))) (pos 0, pos 0)) (λ z. Ok z) r e in
    let same : s.0 ≡ r = (let q = s.2 in cc) in
    subst IsNarrow same (cross_ok (m, int_div f.den (pos (gcd_of (unsigned_abs m) (unsigned_abs f.den)))) (pos 0, pos 0) s.0 (sym s.1)).1
multiple_narrow m r (x ∷ xs) f e =
    let s = then_ok (cross_of (m, int_div x.den (pos (gcd_of (unsigned_abs m) (unsigned_abs x.den)))) (pos 0, pos 0)) (λ z. multiple_steps z (xs ++ f ∷ [])) r e in
    multiple_narrow s.0 r xs f s.2

by_one : (z : ℤ) → int_div z (pos 1) ≡ z
by_one z = let e = quot_exact z (pos 1) (one-dvd (unsigned_abs z)) in omega (arith, ints, e)

-- a whole number's multiple is made, where it is narrow
made_whole : (m z : ℤ) → IsNarrow (neg_ℤ z *ℤ m) → negated_over m (whole z) ≡ Ok (neg_ℤ z *ℤ m)
made_whole m z h =
    let e = by_one m in
    let p : neg_ℤ z *ℤ m -ℤ pos 0 *ℤ pos 0 ≡ neg_ℤ z *ℤ m = omega (arith, ints) in
    ap (λ d. cross_of (neg_ℤ z, d) (pos 0, pos 0)) e
    ∙ (cross_is (neg_ℤ z, m) (pos 0, pos 0) h (omega (arith, ints)) (subst IsNarrow (sym p) h) ∙ ap Ok p)

abbrev pair_of : List ℤ → Result ℤ Wide → Result (List ℤ × ℤ) Wide
pair_of left r = r >>= λ right. Ok (left, right)

abbrev onward : List Fraction → Fraction → ℤ → Result (List ℤ × ℤ) Wide
onward slopes value m = all_negated m slopes >>= λ left. pair_of left (negated_over m value)

not_wide : (left : List ℤ) (w : Wide) (r q : Result ℤ Wide) (z : ℤ) → r ≡ Ok z → pair_of left r ≡ Err w
    → pair_of left q ≡ Err w
not_wide left w (Ok y) q z e h = absurd cc
not_wide left w (Err u) q z e h = absurd cc

-- what follows the multiple
record After (slopes : List Fraction) (m : ℤ) : Type 0 where
  pub zero_is : negated_over m (whole (pos 0)) ≡ Ok (neg_ℤ (pos 0) *ℤ m)
  pub one_is : negated_over m (whole (pos 1)) ≡ Ok (neg_ℤ (pos 1) *ℤ m)

after : (slopes : List Fraction) (m : ℤ) → IsNarrow m → After slopes m
after slopes m h =
    let z : neg_ℤ (pos 0) *ℤ m ≡ pos 0 = omega (arith, ints) in
    let o : neg_ℤ (pos 1) *ℤ m ≡ neg_ℤ m = omega (arith, ints) in
    record {
      zero_is = made_whole m (pos 0) (subst IsNarrow (sym z) (omega (arith, ints)));
      one_is = made_whole m (pos 1) (subst IsNarrow (sym o) (omega (arith, ints, h)));
    }

module _ (slopes : List Fraction) where
  multiples : multiple_steps (pos 1) (slopes ++ whole (pos 1) ∷ []) ≡ multiple_steps (pos 1) (slopes ++ whole (pos 0) ∷ [])
  multiples = same_multiple (pos 1) slopes (whole (pos 1)) (whole (pos 0)) refl

  -- a step that is too wide in one is in the other
  pub wide_with_zero : (w : Wide) → claim_steps slopes (whole (pos 1)) ≡ Err w → claim_steps slopes (whole (pos 0)) ≡ Err w
  wide_with_zero w e =
      start (multiple_steps (pos 1) (slopes ++ whole (pos 0) ∷ [])) refl
      (ap (λ r. r >>= onward slopes (whole (pos 1))) (sym multiples) ∙ e)
    where
      last : (m : ℤ) → After slopes m → (l : Result (List ℤ) Wide)
          → (l >>= λ left. pair_of left (negated_over m (whole (pos 1)))) ≡ Err w
          → (l >>= λ left. pair_of left (negated_over m (whole (pos 0)))) ≡ Err w
      last m a (Ok left) h =
          not_wide left w (negated_over m (whole (pos 1))) (negated_over m (whole (pos 0))) (neg_ℤ (pos 1) *ℤ m) a.one_is h
      last m a (Err u) h = h

      start : (r : Result ℤ Wide) → multiple_steps (pos 1) (slopes ++ whole (pos 0) ∷ []) ≡ r
          → (r >>= onward slopes (whole (pos 1))) ≡ Err w → (multiple_steps (pos 1) (slopes ++ whole (pos 0) ∷ []) >>= onward slopes (whole (pos 0))) ≡ Err w
      start (Ok m) is h =
          rw is (last m (after slopes m (multiple_narrow (pos 1) m slopes (whole (pos 0)) is)) (all_negated m slopes) h)
      start (Err u) is h = rw is h

all_narrow : (m : ℤ) (fs : List Fraction) (left : List ℤ) → all_negated m fs ≡ Ok left → All IsNarrow left
all_narrow m [] left e = let s : [] ≡ left = cc in subst (All IsNarrow) s (All-nil IsNarrow)
all_narrow m (f ∷ fs) left e =
    let a = then_ok (negated_over m f) (λ x. all_negated m fs >>= λ rest. Ok (x ∷ rest)) left e in
    let b = then_ok (all_negated m fs) (λ rest. Ok (a.0 ∷ rest)) left a.2 in
    let s : a.0 ∷ b.0 ≡ left = (let q = b.2 in cc) in
    subst (All IsNarrow) s (All-cons IsNarrow a.0 b.0
    (cross_ok (neg_ℤ f.num, int_div m f.den) (pos 0, pos 0) a.0 (sym a.1)).1 (all_narrow m fs b.0 b.1))

-- what a claim with 1 gives: the claim with 0, and the multiple
pub record WithZero (slopes : List Fraction) (left : List ℤ) (right : ℤ) : Type 0 where
  pub made : claim_steps slopes (whole (pos 0)) ≡ Ok (left, neg_ℤ (pos 0) *ℤ neg_ℤ right)
  pub narrow : IsNarrow (neg_ℤ right)
  pub numbers : All IsNarrow left

pub with_zero : (slopes : List Fraction) (left : List ℤ) (right : ℤ)
    → claim_steps slopes (whole (pos 1)) ≡ Ok (left, right) → WithZero slopes left right
with_zero slopes left right e =
    let s = then_ok (multiple_steps (pos 1) (slopes ++ whole (pos 1) ∷ [])) (onward slopes (whole (pos 1))) (left, right) e in
    let m = s.0 in
    let t = then_ok (all_negated m slopes) (λ l. pair_of l (negated_over m (whole (pos 1)))) (left, right) s.2 in
    let u = then_ok {B = List ℤ × ℤ} (negated_over m (whole (pos 1))) (λ r. Ok (t.0, r)) (left, right) t.2 in
    let pair : ◌≡◌ {A = List ℤ × ℤ} (t.0, u.0) (left, right) = (let q = u.2 in cc) in
    let l : t.0 ≡ left = ap (λ (p : List ℤ × ℤ). p.0) pair in
    let r : u.0 ≡ right = ap (λ (p : List ℤ × ℤ). p.1) pair in
    let a = after slopes m (multiple_narrow (pos 1) m slopes (whole (pos 1)) s.1) in
    let one : neg_ℤ (pos 1) *ℤ m ≡ right = ok_value (neg_ℤ (pos 1) *ℤ m) right (sym a.one_is ∙ (u.1 ∙ ap Ok r)) in
    let by : m ≡ neg_ℤ right = omega (arith, ints, one) in
    let zero_made = sym (multiples slopes) ∙ s.1 in
    let made_m : claim_steps slopes (whole (pos 0)) ≡ Ok (left, neg_ℤ (pos 0) *ℤ m) = rw (zero_made, t.1, l, a.zero_is) refl in
    record {
      made = made_m ∙ ap (λ (z : ℤ). Ok (left, neg_ℤ (pos 0) *ℤ z)) by;
      narrow = subst IsNarrow by (multiple_narrow (pos 1) m slopes (whole (pos 1)) s.1);
      numbers = all_narrow m slopes left (t.1 ∙ ap Ok l);
    }
  where
    ok_value : (a b : ℤ) → ◌≡◌ {A = Result ℤ Wide} (Ok a) (Ok b) → a ≡ b
    ok_value a b e = cc

-- a claim with 1 holds what a claim with 0 does
pub zero_claim : (slopes : List Fraction) (by : ℤ) (left : List ℤ) (right : ℤ)
    → IsClaim slopes (whole (pos 1)) by left right
    → IsClaim slopes (whole (pos 0)) by left (neg_ℤ (pos 0) *ℤ neg_ℤ right)
zero_claim slopes by left right c =
    let z : neg_ℤ (pos 0) *ℤ neg_ℤ right ≡ pos 0 = omega (arith, ints) in
    record {
      common = record {
        positive = c.common.positive;
        slopes = c.common.slopes;
        of_value = c.common.of_value;
        least = c.common.least;
      };
      len = c.len;
      lefts = c.lefts;
      rights = record { left = omega (arith, ints); right = omega (arith, ints); cross = rw z (omega (arith, ints)) };
    }

-- its multiple is its right side with the sign turned
pub multiple_is : (slopes : List Fraction) (by : ℤ) (left : List ℤ) (right : ℤ)
    → IsClaim slopes (whole (pos 1)) by left right → by ≡ neg_ℤ right
multiple_is slopes by left right c = let e = c.rights.cross in omega (arith, ints, e)
