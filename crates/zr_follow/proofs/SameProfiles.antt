-- Profiles whose points have the same values have the same expected costs.
use Rattle.std.proofs.Common.{◌≡◌, ℕ, zero, suc, arith, refl, sym, ap, ap₂, subst, ℤ, pos, ◌+ℤ◌, ◌*ℤ◌, List, [], ◌∷◌}
use Rattle.std.proofs.lemmas.Int.{ints}
use Rattle.zr_base.proofs.Ring.{spread}
use Rattle.zr_base.proofs.SameLaws.{plus_cross, same_point_refl, same_point_sym, same_point_value, same_refl, times_cross}
use Rattle.zr_base.proofs.Worth.{Each}
use Rattle.zr_base.specs.Fractions.{Fraction, HaveSameCross, IsSame, over, times, whole}
use Rattle.zr_game.proofs.CommonDen.{HasDen}
use Rattle.zr_base.specs.Points.{IsSamePoint, PointOf, value_of}
use Rattle.zr_game.proofs.SamePoints.{cost_same}
use Rattle.zr_game.specs.Costs.{cost_of, point_of}
use Rattle.zr_game.specs.Players.{PlayerOf}
use Rattle.zr_follow.specs.SameProfiles.{IsSameProfile, IsSameStrategy}
use Rattle.zr_game.specs.Profiles.{Profile, Strategy, deviation, expected_cost, total, totals, tuple_sum, weighted}

abbrev pub SamePoints : List PointOf → List PointOf → Type 0
SamePoints [] [] = Unit {0}
SamePoints (x ∷ xs) (y ∷ ys) = IsSamePoint x y × SamePoints xs ys
SamePoints [] (y ∷ ys) = ⊥
SamePoints (x ∷ xs) [] = ⊥

pub same_parts_refl : (s : Strategy) → Each HasDen s → IsSameStrategy s s
same_parts_refl [] dens = tt
same_parts_refl (p ∷ ps) dens =
    (record { weight = refl; point = same_point_refl p.point dens.0 }, same_parts_refl ps dens.1)

pub same_profile_refl : (ss : Profile) → Each (Each HasDen) ss → IsSameProfile ss ss
same_profile_refl [] dens = tt
same_profile_refl (s ∷ ss) dens = (same_parts_refl s dens.0, same_profile_refl ss dens.1)

same_strategy_sym : (s t : Strategy) → IsSameStrategy s t → IsSameStrategy t s
same_strategy_sym [] [] same = tt
same_strategy_sym [] (q ∷ qs) same = absurd same
same_strategy_sym (p ∷ ps) [] same = absurd same
same_strategy_sym (p ∷ ps) (q ∷ qs) same =
    let point = same_point_sym p.point q.point same.0.point in
    (record { weight = sym same.0.weight; point = point }, same_strategy_sym ps qs same.1)

pub same_profile_sym : (P Q : Profile) → IsSameProfile P Q → IsSameProfile Q P
same_profile_sym [] [] same = tt
same_profile_sym [] (t ∷ ts) same = absurd same
same_profile_sym (s ∷ ss) [] same = absurd same
same_profile_sym (s ∷ ss) (t ∷ ts) same =
    (same_strategy_sym s t same.0, same_profile_sym ss ts same.1)

pub same_deviation : (P Q : Profile) (i : ℕ) (x y : PointOf) → IsSameProfile P Q → IsSamePoint x y → IsSameProfile (deviation P i x) (deviation Q i y)
same_deviation [] [] i x y same point = tt
same_deviation [] (t ∷ ts) i x y same point = absurd same
same_deviation (s ∷ ss) [] i x y same point = absurd same
same_deviation (s ∷ ss) (t ∷ ts) zero x y same point = ((record { weight = refl; point = point }, tt), same.1)
same_deviation (s ∷ ss) (t ∷ ts) (suc i) x y same point = (same.0, same_deviation ss ts i x y same.1 point)

over_same : (a b : Fraction) (k : ℤ) → HaveSameCross a b → HaveSameCross (over a k) (over b k)
over_same a b k e = let m = simp spread at (ap (λ z. z *ℤ k) e) in simp spread (omega (arith, ints, m))

weighted_same : (s t : Strategy) (f g : PointOf → Fraction) → IsSameStrategy s t → ((x y : PointOf) → IsSamePoint x y → HaveSameCross (f x) (g y)) → HaveSameCross (weighted s f) (weighted t g)
weighted_same [] [] f g same h = refl
weighted_same [] (q ∷ qs) f g same h = absurd same
weighted_same (p ∷ ps) [] f g same h = absurd same
weighted_same (p ∷ ps) (q ∷ qs) f g same h =
    plus_cross (times (whole p.weight) (f p.point)) (weighted ps f) (times (whole q.weight) (g q.point)) (weighted qs g) (times_cross (whole p.weight) (f p.point) (whole q.weight) (g q.point) (ap (λ (w : ℤ). w *ℤ pos 1) same.0.weight) (h p.point q.point same.0.point)) (weighted_same ps qs f g same.1 h)

tuple_same : (P Q : Profile) (f g : List PointOf → Fraction) → IsSameProfile P Q → ((xs ys : List PointOf) → SamePoints xs ys → HaveSameCross (f xs) (g ys)) → HaveSameCross (tuple_sum P f) (tuple_sum Q g)
tuple_same [] [] f g same h = h [] [] tt
tuple_same [] (t ∷ ts) f g same h = absurd same
tuple_same (s ∷ ss) [] f g same h = absurd same
tuple_same (s ∷ ss) (t ∷ ts) f g same h =
    weighted_same s t (λ x. tuple_sum ss (λ xs. f (x ∷ xs))) (λ y. tuple_sum ts (λ ys. g (y ∷ ys))) same.0 (λ x y e. tuple_same ss ts (λ xs. f (x ∷ xs)) (λ ys. g (y ∷ ys)) same.1 (λ xs ys r. h (x ∷ xs) (y ∷ ys) (e, r)))

total_same : (s t : Strategy) → IsSameStrategy s t → total s ≡ total t
total_same [] [] same = refl
total_same [] (q ∷ qs) same = absurd same
total_same (p ∷ ps) [] same = absurd same
total_same (p ∷ ps) (q ∷ qs) same = ap₂ ◌+ℤ◌ same.0.weight (total_same ps qs same.1)

totals_same : (P Q : Profile) → IsSameProfile P Q → totals P ≡ totals Q
totals_same [] [] same = refl
totals_same [] (t ∷ ts) same = absurd same
totals_same (s ∷ ss) [] same = absurd same
totals_same (s ∷ ss) (t ∷ ts) same = ap₂ ◌*ℤ◌ (total_same s t same.0) (totals_same ss ts same.1)

values_same : (xs ys : List PointOf) → SamePoints xs ys → (k v : ℕ)
    → IsSame (value_of (point_of xs k) v) (value_of (point_of ys k) v)
values_same [] [] same k v = same_refl (value_of (point_of [] k) v) (omega (arith, ints))
values_same [] (y ∷ ys) same k v = absurd same
values_same (x ∷ xs) [] same k v = absurd same
values_same (x ∷ xs) (y ∷ ys) same zero v = same_point_value x y v same.0
values_same (x ∷ xs) (y ∷ ys) same (suc k) v = values_same xs ys same.1 k v

pub expected_same : (player : PlayerOf) (i : ℕ) (P Q : Profile) → IsSameProfile P Q → HaveSameCross (expected_cost player i P) (expected_cost player i Q)
expected_same player i P Q same =
    subst (λ (n : ℤ). HaveSameCross (expected_cost player i P) (over (tuple_sum Q (cost_of player i)) n)) (totals_same P Q same) (over_same (tuple_sum P (cost_of player i)) (tuple_sum Q (cost_of player i)) (totals P) (tuple_same P Q (cost_of player i) (cost_of player i) same (λ xs ys e. (cost_same player i xs ys (values_same xs ys e)).cross)))
