-- Numbers over a common multiple, negated.
use Rattle.std.proofs.Common.{◌≡◌, ℕ, suc, ◌+◌, ◌<◌, arith, refl, ap, ◌∙◌, ℤ, pos, neg_ℤ, ◌-ℤ◌, ◌*ℤ◌, ◌<ℤ◌, int_div, Result, Ok, Err, IfOk, List, [], ◌∷◌, length, get_or}
use Rattle.std.proofs.lemmas.Int.{ints}
use Rattle.zr_base.specs.declared.step.Wide.{Wide}
use Rattle.zr_base.specs.Fractions.{Fraction}
use Rattle.zr_base.proofs.CrossLaws.{cross_ok}
use Rattle.zr_base.proofs.Divisors.{mul_positive, quot_exact}
use Rattle.zr_base.proofs.Ring.{spread}
use Rattle.zr_base.specs.Made.{made_from}
use Rattle.zr_mix.specs.Claims.{IsMultipleOf}
use Rattle.zr_mix.specs.Multiples.{IsNegatedOver}
use Rattle.zr_mix.specs.Steps.{all_negated, negated_over}
use Rattle.zr_mix.proofs.Multiples.{divides_multiple}

same_negated : (m n d q x : ℤ) → q *ℤ d ≡ m → x ≡ neg_ℤ n *ℤ q -ℤ pos 0 *ℤ pos 0
    → (m *ℤ n) *ℤ pos 1 ≡ neg_ℤ x *ℤ (pos 1 *ℤ d)
same_negated m n d q x e f =
    let one : pos 1 *ℤ d ≡ d = omega (arith, ints) in
    let f2 : x ≡ neg_ℤ n *ℤ q = omega (arith, ints, f) in
    let l : (m *ℤ n) *ℤ pos 1 ≡ m *ℤ n = omega (arith, ints) in
    rw (one, l, f2, ← e) (simp spread (omega (arith, ints)))

pub negated_exact : (m : ℤ) (f : Fraction) → (pos 0) <ℤ f.den → IsMultipleOf m f
    → (r : Result ℤ Wide) → r ≡ negated_over m f → IfOk r (IsNegatedOver m f)
negated_exact m f positive multiple (Ok x) e =
    let q = int_div m f.den in
    let exact = quot_exact m f.den (divides_multiple m f.den multiple) in
    record {
      left = mul_positive (pos 1) f.den (omega (arith, ints)) positive;
      right = omega (arith, ints);
      cross = same_negated m f.num f.den q x exact (cross_ok (neg_ℤ f.num, q) (pos 0, pos 0) x e).0;
    }
negated_exact m f positive multiple (Err w) e = tt

-- the list of them is made item by item
pub negated_made : (m : ℤ) (d : Fraction) (all xs : List Fraction) (k : ℕ)
    → ((v : ℕ) → v < length xs → get_or all (k + v) d ≡ get_or xs v d)
    → all_negated m xs ≡ made_from (λ v. negated_over m (get_or all v d)) k (length xs)
negated_made m d all [] k h = refl
negated_made m d all (x ∷ xs) k h =
    let here : get_or all k d ≡ x = ap (λ n. get_or all n d) (let z : k ≡ k + 0 = omega arith in
    z) ∙ h 0 (omega arith) in
    let rest = negated_made m d all xs (k + 1)
    (λ v b. ap (λ n. get_or all n d) (let z : k + 1 + v ≡ k + suc v = omega arith in z) ∙
    h (suc v) (omega arith)) in
    rw (here, rest) refl
