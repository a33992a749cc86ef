-- Greatest divisors, number by number.
use Rattle.std.proofs.Common.{◌≡◌, ℕ, ◌+◌, ◌<◌, arith, below_more, ℤ, pos, ◌<ℤ◌, unsigned_abs, [], ◌∷◌, ◌++◌, length}
use Rattle.std.proofs.lemmas.Nat.Gcd.{dvd_refl, dvd_trans}
use Rattle.std.specs.Int.{IsGcd, ◌∣◌}
use Rattle.zr_base.specs.Points.{PointOf, num_of}
use Rattle.zr_base.proofs.Members.{each_back, each_front, each_join, each_of_all, each_weaker}
use Rattle.zr_base.proofs.Worth.{Each}
use Rattle.zr_game.specs.Profiles.{Part, Strategy}
use Rattle.zr_system.proofs.Joined.{all_of_each}
use Rattle.zr_tidy.specs.Points.{IsGreatestDivisor}
use Rattle.zr_tidy.specs.Tidy.{IsGreatestWeight}
use Rattle.zr_tidy.proofs.Tidying.{Divides}

-- the greatest divisor of the denominator and the first v numbers
pub record IsDivisorTo (v : ℕ) (z : ℤ) (x : PointOf) : Type 0 where
  pub positive : (pos 0) <ℤ z
  pub den : unsigned_abs z ∣ unsigned_abs x.den
  pub nums : (u : ℕ) → u < v → unsigned_abs z ∣ unsigned_abs (num_of x u)
  pub greatest : (d : ℕ) → d ∣ unsigned_abs x.den
      → ((u : ℕ) → u < v → d ∣ unsigned_abs (num_of x u)) → d ∣ unsigned_abs z

pub divisor_none : (x : PointOf) → (pos 0) <ℤ x.den → IsDivisorTo 0 x.den x
divisor_none x positive = record {
  positive = positive;
  den = dvd_refl (unsigned_abs x.den);
  nums = λ u h. absurd (omega (arith, h));
  greatest = λ d h nums. h;
}

pub divisor_more : (v : ℕ) (z g : ℤ) (x : PointOf) → IsDivisorTo v z x → (pos 0) <ℤ g
    → IsGcd (unsigned_abs (num_of x v)) (unsigned_abs z) (unsigned_abs g) → IsDivisorTo (v + 1) g x
divisor_more v z g x h positive gcd = record {
  positive = positive;
  den = dvd_trans (unsigned_abs g) gcd.1 h.den;
  nums = below_more (λ u. unsigned_abs g ∣ unsigned_abs (num_of x u)) v
      (λ u p. dvd_trans (unsigned_abs g) gcd.1 (h.nums u p)) gcd.0;
  greatest = λ d den nums. gcd.2 d (nums v (omega arith))
      (h.greatest d den (λ u p. nums u (omega (arith, p))));
}

pub divisor_all : (v : ℕ) (z : ℤ) (x : PointOf) → v ≡ length x.num → IsDivisorTo v z x
    → IsGreatestDivisor z x
divisor_all v z x e h = record {
  positive = h.positive;
  divides = (h.den, λ u p. h.nums u (omega (arith, p, e)));
  greatest = λ d divides. h.greatest d divides.0 (λ u p. divides.1 u (omega (arith, p, e)));
}

-- the greatest divisor of a weight and of those of the parts
pub record IsWeightDivisor (first : ℤ) (parts : Strategy) (z : ℤ) : Type 0 where
  pub positive : (pos 0) <ℤ z
  pub own : unsigned_abs z ∣ unsigned_abs first
  pub each : Each (Divides (unsigned_abs z)) parts
  pub greatest : (d : ℕ) → d ∣ unsigned_abs first → Each (Divides d) parts → d ∣ unsigned_abs z

pub weight_none : (first : ℤ) → (pos 0) <ℤ first → IsWeightDivisor first [] first
weight_none first positive = record {
  positive = positive;
  own = dvd_refl (unsigned_abs first);
  each = tt;
  greatest = λ d h each. h;
}

pub weight_more : (first : ℤ) (parts : Strategy) (z g : ℤ) (p : Part)
    → IsWeightDivisor first parts z → (pos 0) <ℤ g
    → IsGcd (unsigned_abs p.weight) (unsigned_abs z) (unsigned_abs g)
    → IsWeightDivisor first (parts ++ p ∷ []) g
weight_more first parts z g p h positive gcd = record {
  positive = positive;
  own = dvd_trans (unsigned_abs g) gcd.1 h.own;
  each = each_join (Divides (unsigned_abs g)) parts (p ∷ [])
      (each_weaker (Divides (unsigned_abs z)) (Divides (unsigned_abs g)) parts
      (λ q e. dvd_trans (unsigned_abs g) gcd.1 e) h.each) (gcd.0, tt);
  greatest = λ d own each. gcd.2 d (each_back (Divides d) parts (p ∷ []) each).0
      (h.greatest d own (each_front (Divides d) parts (p ∷ []) each));
}

-- the first part's weight
abbrev pub first_weight : Strategy → ℤ
first_weight [] = pos 0
first_weight (part ∷ parts) = part.weight

pub weight_all : (z : ℤ) (parts : Strategy) → 0 < length parts
    → IsWeightDivisor (first_weight parts) parts z → IsGreatestWeight z parts
weight_all z [] some h = absurd (omega arith)
weight_all z (first ∷ rest) some h = record {
  positive = h.positive;
  divides = all_of_each (Divides (unsigned_abs z)) (first ∷ rest) h.each;
  greatest = λ d divides.
      let each = each_of_all (Divides d) (first ∷ rest) divides in
      h.greatest d each.0 each;
}
