-- Pure profiles: their expected cost is the cost at their points.
use Rattle.std.proofs.Common.{◌≡◌, ℕ, zero, suc, arith, refl, sym, ap, subst, ◌∙◌, ℤ, pos, ◌+ℤ◌, ◌*ℤ◌, List, [], ◌∷◌, length, slice_set, All}
use Rattle.std.proofs.lemmas.Int.{ints}
use Rattle.zr_base.specs.Fractions.{Fraction, HaveSameCross, whole, plus, times, over}
use Rattle.zr_base.specs.Points.{PointOf}
use Rattle.zr_base.proofs.Ring.{spread, mul_assoc}
use Rattle.zr_base.proofs.Sames.{same_record}
use Rattle.zr_base.proofs.Worth.{Each}
use Rattle.zr_game.specs.Players.{PlayerOf}
use Rattle.zr_game.specs.Costs.{cost_of}
use Rattle.zr_game.specs.Profiles.{Part, Profile, Strategy, deviation, expected_cost, total, totals, tuple_sum, weighted}
use Rattle.zr_game.specs.PureProfiles.{first_point, points_of}

-- one part
abbrev pub IsOne : Strategy → Type 0
IsOne parts = length parts ≡ 1

-- the fraction with its numerator multiplied
abbrev pub scaled : ℤ → Fraction → Fraction
scaled k f = record { num = k *ℤ f.num; den = f.den }

one_weighted : (part : Part) (f : PointOf → Fraction) (k : ℤ) (g : Fraction)
    → f part.point ≡ scaled k g → weighted (part ∷ []) f ≡ scaled (total (part ∷ []) *ℤ k) g
one_weighted part f k g e =
    ap (λ h. plus (times (whole part.weight) h) (whole (pos 0))) e ∙
    same_record (plus (times (whole part.weight) (scaled k g)) (whole (pos 0)))
    (scaled (total (part ∷ []) *ℤ k) g) (num part.weight k g.num) (den g.den)
  where
    num : (w k n : ℤ)
        → (w *ℤ (k *ℤ n)) *ℤ pos 1 +ℤ pos 0 *ℤ (pos 1 *ℤ g.den) ≡ ((w +ℤ pos 0) *ℤ k) *ℤ n
    num w k n =
        let one : (w +ℤ pos 0) ≡ w = omega (arith, ints) in
        let a : (w *ℤ (k *ℤ n)) *ℤ pos 1 +ℤ pos 0 *ℤ (pos 1 *ℤ g.den) ≡ w *ℤ (k *ℤ n) = omega
        (arith, ints) in
        a ∙ sym (mul_assoc w k n) ∙ ap (λ z. (z *ℤ k) *ℤ n) (sym one)

    den : (d : ℤ) → (pos 1 *ℤ d) *ℤ pos 1 ≡ d
    den d = omega (arith, ints)

-- the sum over the one tuple
one_tuple : (profile : Profile) (f : List PointOf → Fraction) → Each IsOne profile
    → tuple_sum profile f ≡ scaled (totals profile) (f (points_of profile))
one_tuple [] f all = same_record (f []) (scaled (pos 1) (f [])) (omega (arith, ints)) refl
one_tuple ([] ∷ rest) f all = absurd (omega (arith, all.0))
one_tuple ((part ∷ []) ∷ rest) f all =
    one_weighted part (λ x. tuple_sum rest (λ points. f (x ∷ points))) (totals rest)
    (f (part.point ∷ points_of rest)) (one_tuple rest (λ points. f (part.point ∷ points)) all.1)
one_tuple ((part ∷ other ∷ parts) ∷ rest) f all = absurd (omega (arith, all.0))

each : (profile : Profile) → All IsOne profile → Each IsOne profile
each [] all = tt
each (s ∷ ss) all = (all 0 s (omega arith), each ss (λ k d h. all (suc k) d (omega arith)))

-- the expected cost of a pure profile
pub expected_is : (player : PlayerOf) (i : ℕ) (profile : Profile) → All IsOne profile
    → expected_cost player i profile ≡ over (scaled (totals profile)
    (cost_of player i (points_of profile))) (totals profile)
expected_is player i profile all = ap (λ f. over f (totals profile))
    (one_tuple profile (cost_of player i) (each profile all))

same_over : (k : ℤ) (f : Fraction) → HaveSameCross (over (scaled k f) k) f
same_over k f = flat k f.num f.den
  where
    flat : (k n d : ℤ) → (k *ℤ n) *ℤ d ≡ n *ℤ (d *ℤ k)
    flat k n d = simp spread refl

pub pure_cost : (player : PlayerOf) (i : ℕ) (profile : Profile) → All IsOne profile
    → HaveSameCross (expected_cost player i profile) (cost_of player i (points_of profile))
pure_cost player i profile all =
    subst (λ f. HaveSameCross f (cost_of player i (points_of profile)))
    (sym (expected_is player i profile all))
    (same_over (totals profile) (cost_of player i (points_of profile)))

pub points_of-deviation : (profile : Profile) (i : ℕ) (x : PointOf)
    → points_of (deviation profile i x) ≡ slice_set (points_of profile) i x
points_of-deviation [] i x = refl
points_of-deviation (s ∷ ss) zero x = refl
points_of-deviation (s ∷ ss) (suc i) x = ap (λ ps. first_point s ∷ ps) (points_of-deviation ss i x)

all_of : (profile : Profile) → Each IsOne profile → All IsOne profile
all_of [] each k d h = absurd (omega arith)
all_of (s ∷ ss) each zero d h = each.0
all_of (s ∷ ss) each (suc k) d h = all_of ss each.1 k d (omega arith)

each_deviation : (profile : Profile) (i : ℕ) (x : PointOf) → Each IsOne profile
    → Each IsOne (deviation profile i x)
each_deviation [] i x all = tt
each_deviation (s ∷ ss) zero x all = (refl, all.1)
each_deviation (s ∷ ss) (suc i) x all = (all.0, each_deviation ss i x all.1)

-- a deviation of a pure profile is pure
pub pure_deviation : (profile : Profile) (i : ℕ) (x : PointOf) → All IsOne profile
    → All IsOne (deviation profile i x)
pure_deviation profile i x all = all_of (deviation profile i x)
    (each_deviation profile i x (each profile all))
