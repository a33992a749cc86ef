-- Weights of at least 1 are no more than their sum.
use Rattle.std.proofs.Common.{◌≡◌, ℕ, zero, suc, arith, ap, subst, ℤ, pos, ◌+ℤ◌, ◌≤ℤ◌, Some, [], ◌∷◌, ◌++◌, take, slice_get, FitsSigned}
use Rattle.std.specs.Int.{w128}
use Rattle.std.proofs.lemmas.Int.{ints}
use Rattle.std.proofs.lemmas.Option.{same_Some}
use Rattle.zr_base.specs.Steps.{IsNarrow}
use Rattle.zr_base.proofs.Worth.{Each}
use Rattle.zr_game.specs.Profiles.{Part, Strategy, total}
use Rattle.zr_tidy.proofs.Tidying.{HasWeight}

pub nonneg_total : (xs : Strategy) → Each HasWeight xs → (pos 0) ≤ℤ total xs
nonneg_total [] h = omega (arith, ints)
nonneg_total (p ∷ ps) h =
    let a = h.0 in let r = nonneg_total ps h.1 in omega (arith, ints, a, r)

pub weight_at_most : (xs : Strategy) (k : ℕ) (q : Part) → slice_get xs k ≡ Some q
    → Each HasWeight xs → (q.weight ≤ℤ total xs) × HasWeight q
weight_at_most [] k q e h = absurd cc
weight_at_most (p ∷ ps) zero q e h =
    let a = h.0 in
    let r = nonneg_total ps h.1 in
    subst (λ (z : Part). (z.weight ≤ℤ (p.weight +ℤ total ps)) × HasWeight z) (same_Some p q e)
    (omega (arith, ints, r), a)
weight_at_most (p ∷ ps) (suc k) q e h =
    let a = h.0 in
    let r = weight_at_most ps k q e h.1 in
    let s = r.0 in (omega (arith, ints, a, s), r.1)

pub narrow_below : (a b : ℤ) → (pos 0) ≤ℤ a → a ≤ℤ b → IsNarrow b → IsNarrow a
narrow_below a b p q n = omega (arith, ints, p, q, n)

-- ---- the first of the weights

pub total_more : (xs : Strategy) (k : ℕ) (q : Part) → slice_get xs k ≡ Some q
    → total (take (suc k) xs) ≡ total (take k xs) +ℤ q.weight
total_more [] k q e = absurd cc
total_more (p ∷ ps) zero q e =
    let w = ap (λ (z : Part). z.weight) (same_Some p q e) in omega (arith, ints, w)
total_more (p ∷ ps) (suc k) q e = let r = total_more ps k q e in omega (arith, ints, r)

first_within : (xs : Strategy) (k : ℕ) → Each HasWeight xs
    → ((pos 0) ≤ℤ total (take k xs)) × (total (take k xs) ≤ℤ total xs)
first_within xs zero h = let r = nonneg_total xs h in (omega (arith, ints), r)
first_within [] (suc k) h = (omega (arith, ints), omega (arith, ints))
first_within (p ∷ ps) (suc k) h =
    let a = h.0 in
    let r = first_within ps k h.1 in
    let b = r.0 in
    let c = r.1 in
    (omega (arith, ints, a, b), omega (arith, ints, c))

-- with the next weight they are no wider than all
pub next_narrow : (xs : Strategy) (k : ℕ) (q : Part) → slice_get xs k ≡ Some q
    → Each HasWeight xs → IsNarrow (total xs) → IsNarrow (total (take k xs) +ℤ q.weight)
next_narrow xs k q e h narrow =
    let r = first_within xs (suc k) h in
    subst IsNarrow (total_more xs k q e)
    (narrow_below (total (take (suc k) xs)) (total xs) r.0 r.1 narrow)

pub total_push : (xs : Strategy) (p : Part) → total (xs ++ p ∷ []) ≡ total xs +ℤ p.weight
total_push [] p = omega (arith, ints)
total_push (q ∷ xs) p = let r = total_push xs p in omega (arith, ints, r)

-- the sum of a prefix and the next weight fits
pub sum_fits : (s t w : ℤ) → s ≡ t → IsNarrow (t +ℤ w) → FitsSigned w128 (s +ℤ w)
sum_fits s t w e n = rw e (omega (arith, ints, n))

-- a weight among others and another, with which they are narrow
module _ (t q w : ℤ) (some : (pos 1) ≤ℤ q) (least : (pos 1) ≤ℤ w) (most : q ≤ℤ t)
    (narrow : IsNarrow (t +ℤ w)) where
  pub own_fits : FitsSigned w128 q
  own_fits = omega (arith, ints, some, least, most, narrow)

  pub other_fits : FitsSigned w128 w
  other_fits = omega (arith, ints, some, least, most, narrow)

  pub both_fit : FitsSigned w128 (q +ℤ w)
  both_fit = omega (arith, ints, some, least, most, narrow)
