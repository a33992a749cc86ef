-- A denominator that all points of a profile share.
use Rattle.std.proofs.Common.{◌≡◌, ℕ, zero, suc, ◌<◌, arith, refl, sym, ap, subst, ◌∙◌, ℤ, pos, ◌*ℤ◌, ◌<ℤ◌, ◌≤ℤ◌, unsigned_abs, [], ◌∷◌, length}
use Rattle.std.proofs.lemmas.Int.{ints, unsigned_abs-mul}
use Rattle.std.proofs.Math.Nat.{dvd-mul_left}
use Rattle.std.specs.Int.{◌∣◌}
use Rattle.zr_base.proofs.Divisors.{mul_positive, quot_exact}
use Rattle.zr_base.proofs.Ring.{mul_assoc, spread}
use Rattle.zr_base.proofs.Worth.{Each}
use Rattle.zr_base.specs.Points.{PointOf}
use Rattle.zr_game.proofs.Shared.{AreShared, Shares}
use Rattle.zr_game.specs.Profiles.{Part, Profile, Strategy, strategy_of, total}

abbrev pub HasDen : Part → Type 0
HasDen part = (pos 0) <ℤ part.point.den

den_of : Strategy → ℤ
den_of [] = pos 1
den_of (part ∷ parts) = part.point.den *ℤ den_of parts

pub den_of_all : Profile → ℤ
den_of_all [] = pos 1
den_of_all (parts ∷ rest) = den_of parts *ℤ den_of_all rest

shares_of : (d k : ℤ) (x : PointOf) → (pos 0) <ℤ x.den → k *ℤ x.den ≡ d → Shares d x
shares_of d k x positive e =
    let divides : unsigned_abs x.den ∣ unsigned_abs d = subst (λ n. unsigned_abs x.den ∣ n)
    (sym (unsigned_abs-mul k x.den) ∙ ap unsigned_abs e)
    (dvd-mul_left (unsigned_abs x.den) (unsigned_abs k)) in
    record { below = positive; exact = quot_exact d x.den divides }

turn : (k a b : ℤ) → (k *ℤ b) *ℤ a ≡ k *ℤ (a *ℤ b)
turn k a b = simp spread refl

shared_parts : (k : ℤ) (parts : Strategy) → Each HasDen parts → AreShared (k *ℤ den_of parts) parts
unfolding den_of
shared_parts k [] all = tt
shared_parts k (part ∷ parts) all = (
  shares_of (k *ℤ (part.point.den *ℤ den_of parts)) (k *ℤ den_of parts) part.point all.0
      (turn k part.point.den (den_of parts)),
  subst (λ (m : ℤ). AreShared m parts) (mul_assoc k part.point.den (den_of parts))
      (shared_parts (k *ℤ part.point.den) parts all.1),
)

shared_all : (k : ℤ) (profile : Profile) → Each (Each HasDen) profile
    → Each (AreShared (k *ℤ den_of_all profile)) profile
unfolding den_of_all
shared_all k [] all = tt
shared_all k (s ∷ ss) all = (
  subst (λ (m : ℤ). AreShared m s) (turn k (den_of s) (den_of_all ss))
      (shared_parts (k *ℤ den_of_all ss) s all.0),
  subst (λ (m : ℤ). Each (AreShared m) ss) (mul_assoc k (den_of s) (den_of_all ss))
      (shared_all (k *ℤ den_of s) ss all.1),
)

positive_of : (parts : Strategy) → Each HasDen parts → (pos 0) <ℤ den_of parts
unfolding den_of
positive_of [] all = omega (arith, ints)
positive_of (part ∷ parts) all = mul_positive part.point.den (den_of parts) all.0
    (positive_of parts all.1)

pub positive_all : (profile : Profile) → Each (Each HasDen) profile → (pos 0) <ℤ den_of_all profile
unfolding den_of_all
positive_all [] all = omega (arith, ints)
positive_all (s ∷ ss) all = mul_positive (den_of s) (den_of_all ss) (positive_of s all.0)
    (positive_all ss all.1)

pub shared_by_all : (profile : Profile) → Each (Each HasDen) profile
    → Each (AreShared (den_of_all profile)) profile
shared_by_all profile all =
    let one : pos 1 *ℤ den_of_all profile ≡ den_of_all profile = omega (arith, ints) in
    subst (λ (m : ℤ). Each (AreShared m) profile) one (shared_all (pos 1) profile all)

-- each strategy, by its number
pub each_strategy : (P : Strategy → Type 0) (profile : Profile)
    → ((j : ℕ) → j < length profile → P (strategy_of profile j)) → Each P profile
each_strategy P [] h = tt
each_strategy P (s ∷ ss) h = (
  h zero (omega arith),
  each_strategy P ss (λ j p. h (suc j) (omega arith)),
)

total_at_least : (parts : Strategy) → Each (λ part. (pos 1) ≤ℤ part.weight) parts
    → (pos 0) ≤ℤ total parts
total_at_least [] all = omega (arith, ints)
total_at_least (part ∷ parts) all = let r = total_at_least parts all.1 in let w = all.0 in
    omega (arith, ints, r, w)

pub total_positive : (parts : Strategy) → 0 < length parts
    → Each (λ part. (pos 1) ≤ℤ part.weight) parts → (pos 0) <ℤ total parts
total_positive [] some all = absurd (omega arith)
total_positive (part ∷ parts) some all =
    let r = total_at_least parts all.1 in let w = all.0 in omega (arith, ints, r, w)
