-- A digit of a number in binary is turned.
use Rattle.std.proofs.Common.{◌≡◌, ℕ, zero, suc, ◌+◌, ◌^◌, ◌<◌, arith, refl, ap, Bool, true, false, List, [], ◌∷◌, All, length, set, get_or}
use Rattle.std.proofs.Math.Nat.{pow-succ'}
use Rattle.zr_simplex.specs.Binaries.{digit_of, number_of}

below_more : (x : Bool) (xs : List Bool) (i : ℕ) → suc i < length (x ∷ xs) → i < length xs
below_more x xs i h = omega (arith, h)

pub digit_set : (xs : List Bool) (i : ℕ) → i < length xs → get_or xs i false ≡ false → number_of (set xs i true) ≡ number_of xs + 2 ^ i
digit_set [] i h e = absurd (omega (arith, h))
digit_set (true ∷ xs) zero h e = absurd cc
digit_set (false ∷ xs) zero h e = omega arith
digit_set (x ∷ xs) (suc i) h e =
    let more = digit_set xs i (below_more x xs i h) e in
    let power = pow-succ' 2 i in
    omega (arith, more, power)

pub digit_cleared : (xs : List Bool) (i : ℕ) → i < length xs → get_or xs i false ≡ true → number_of (set xs i false) + 2 ^ i ≡ number_of xs
digit_cleared [] i h e = absurd (omega (arith, h))
digit_cleared (true ∷ xs) zero h e = omega arith
digit_cleared (false ∷ xs) zero h e = absurd cc
digit_cleared (x ∷ xs) (suc i) h e =
    let less = digit_cleared xs i (below_more x xs i h) e in
    let power = pow-succ' 2 i in
    omega (arith, less, power)

-- no digit is set
pub none_set : (xs : List Bool) → All (λ digit. digit ≡ false) xs → number_of xs ≡ 0
none_set [] all = refl
none_set (x ∷ xs) all =
    let here = ap digit_of (all 0 false (omega arith)) in
    let rest = none_set xs (λ k d h. all (suc k) d (omega (arith, h))) in
    omega (arith, here, rest)
