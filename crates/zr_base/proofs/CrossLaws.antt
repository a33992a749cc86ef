-- What it says that a step has a value.
use Rattle.std.proofs.Common.{◌≡◌, refl, arith, ap₂, sym, ◌∙◌, ℤ, ◌-ℤ◌, ◌*ℤ◌, Option, Some, None, option_and_then, ok_or, Result, Ok, Err}
use Rattle.std.proofs.lemmas.Bool.Decides.{nat_tests}
use Rattle.zr_base.specs.declared.step.Wide.{Wide}
use Rattle.zr_base.specs.Steps.{narrow, narrow_cross, cross_of, IsNarrow, ◌>>=◌}

pub narrow_is : (z : ℤ) → IsNarrow z → narrow z ≡ Some z
unfolding narrow
narrow_is z h = grind (arith, nat_tests)

and_then_some : {A B : Type 0} (f : A → Option B) (o : Option A) (v : B) → option_and_then f o ≡ Some v → (x : A) × (o ≡ Some x) × (f x ≡ Some v)
and_then_some f None v e = absurd cc
and_then_some f (Some x) v e = (x, refl, e)

narrow_some : (z v : ℤ) → narrow z ≡ Some v → (v ≡ z) × IsNarrow z
unfolding narrow
narrow_some z v e = grind (arith, nat_tests)

narrow_cross_some : (left right : ℤ × ℤ) (v : ℤ) → narrow_cross left right ≡ Some v → (v ≡ left.0 *ℤ left.1 -ℤ right.0 *ℤ right.1) × IsNarrow v
unfolding narrow_cross
narrow_cross_some left right v e =
    let s = and_then_some (λ first. option_and_then (λ second. narrow (first -ℤ second)) (narrow (right.0 *ℤ right.1))) (narrow (left.0 *ℤ left.1)) v e in
    let t = and_then_some (λ second. narrow (s.0 -ℤ second)) (narrow (right.0 *ℤ right.1)) v s.2 in
    let f = narrow_some (left.0 *ℤ left.1) s.0 s.1 in
    let g = narrow_some (right.0 *ℤ right.1) t.0 t.1 in
    let h = narrow_some (s.0 -ℤ t.0) v t.2 in
    (h.0 ∙ ap₂ ◌-ℤ◌ f.0 g.0, rw h.0 h.1)

ok_inner : (o : Option ℤ) (w : Wide) (v : ℤ) → ok_or o w ≡ Ok v → o ≡ Some v
ok_inner None w v e = absurd cc
ok_inner (Some x) w v e = cc

pub cross_ok : (left right : ℤ × ℤ) (v : ℤ) → Ok v ≡ cross_of left right → (v ≡ left.0 *ℤ left.1 -ℤ right.0 *ℤ right.1) × IsNarrow v
unfolding cross_of
cross_ok left right v e = narrow_cross_some left right v (ok_inner (narrow_cross left right) (record { left = left; right = right }) v (sym e))

-- where all ended, each step had a value
pub then_ok : {A B : Type 0} (r : Result A Wide) (f : A → Result B Wide) (v : B) → (r >>= f) ≡ Ok v → (x : A) × (r ≡ Ok x) × (f x ≡ Ok v)
then_ok (Ok x) f v e = (x, refl, e)
then_ok (Err w) f v e = absurd cc

-- a step whose numbers are narrow has its value
pub cross_is : (left right : ℤ × ℤ) → IsNarrow (left.0 *ℤ left.1) → IsNarrow (right.0 *ℤ right.1) → IsNarrow (left.0 *ℤ left.1 -ℤ right.0 *ℤ right.1) → cross_of left right ≡ Ok (left.0 *ℤ left.1 -ℤ right.0 *ℤ right.1)
unfolding cross_of narrow_cross
cross_is left right p q r =
    rw (narrow_is (left.0 *ℤ left.1) p, narrow_is (right.0 *ℤ right.1) q, narrow_is (left.0 *ℤ left.1 -ℤ right.0 *ℤ right.1) r) refl
