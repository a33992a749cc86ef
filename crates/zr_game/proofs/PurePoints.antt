-- Lists of points as pure profiles, and lists of the same values.
use Rattle.std.proofs.Common.{◌≡◌, ◌≢◌, ℕ, ◌<◌, ◌≤◌, arith, refl, sym, ap, subst, ◌∙◌, pos, ◌<ℤ◌, List, [], ◌∷◌, length, map, slice_set, All, ⊎_elim, get_or-set_other, get_or-set_same}
use Rattle.std.proofs.lemmas.Bool.{cases_eq, cases_lt}
use Rattle.std.proofs.lemmas.Int.{ints}
use Rattle.std.proofs.lemmas.List.{get_or-map, get_or_past, length-map}
use Rattle.std.proofs.lemmas.List.Elements.{All-map}
use Rattle.std.proofs.lemmas.Option.{slice_get_within}
use Rattle.zr_base.specs.Fractions.{HaveSameCross}
use Rattle.zr_base.specs.Points.{PointOf, value_of}
use Rattle.zr_game.specs.Players.{GameOf, PlayerOf}
use Rattle.zr_game.specs.Forms.{IsPlayer}
use Rattle.zr_game.specs.Feasible.{IsFeasible}
use Rattle.zr_game.specs.Costs.{point_of}
use Rattle.zr_game.specs.Profiles.{IsProfile, IsStrategy, Profile, Strategy, strategy_of, surely}
use Rattle.zr_game.specs.PureProfiles.{IsStableAt, first_point, points_of}
use Rattle.zr_game.proofs.Items.{at_number}
use Rattle.zr_game.proofs.MeanLaws.{surely_valid}
use Rattle.zr_game.proofs.PureEquilibria.{AreSame, costs_ordered}
use Rattle.zr_game.proofs.PureLaws.{IsOne}

-- one feasible point per player
pub record AreFeasible (game : GameOf) (points : List PointOf) : Type 0 where
  pub len : length points ≡ length game
  pub feasible : (i : ℕ) (player : PlayerOf) → IsPlayer game i player
      → IsFeasible player (point_of points i)

-- feasible points have denominators above zero, and so has the point of no player
pub feasible_dens : (game : GameOf) (points : List PointOf) → AreFeasible game points → (k : ℕ)
    → (pos 0) <ℤ (point_of points k).den
feasible_dens game points are k = ⊎_elim within past (cases_lt k (length points))
  where
    within : k < length points → (pos 0) <ℤ (point_of points k).den
    within h =
        let len = are.len in
        let player = at_number game k (omega (arith, h, len)) in
        (are.feasible k player.0 player.1).point

    past : length points ≤ k → (pos 0) <ℤ (point_of points k).den
    past h = rw (get_or_past points k (record { num = []; den = pos 1 }) h) (omega (arith, ints))

-- the profile in which each player plays its point surely
pub surely_profile : (game : GameOf) (points : List PointOf) → AreFeasible game points
    → IsProfile game (map surely points)
surely_profile game points are = record {
  len = length-map points surely ∙ are.len;
  strategies = λ i player is. subst (λ s. IsStrategy player s) (sym (played i player is))
      (surely_valid player (point_of points i) (are.feasible i player is));
}
  where
    played : (i : ℕ) (player : PlayerOf) → IsPlayer game i player
        → strategy_of (map surely points) i ≡ surely (point_of points i)
    played i player is =
        let w = slice_get_within game i player is in
        let len = are.len in
        get_or-map surely points i (record { num = List.[]; den = pos 1 }) [] (omega arith)

pub surely_pure : (points : List PointOf) → All IsOne (map surely points)
surely_pure points = All-map IsOne surely points (λ k d h. refl)

pub points_of-surely : (points : List PointOf) → points_of (map surely points) ≡ points
points_of-surely [] = refl
points_of-surely (x ∷ xs) = ap (λ ys. x ∷ ys) (points_of-surely xs)

pub first_feasible : (player : PlayerOf) (parts : Strategy) → IsStrategy player parts
    → IsFeasible player (first_point parts)
first_feasible player [] s = absurd (let h = s.some in omega arith)
first_feasible player (part ∷ parts) s = s.points 0 part (omega arith)

-- the points of a profile are feasible
pub profile_points : (game : GameOf) (profile : Profile) → IsProfile game profile
    → AreFeasible game (points_of profile)
profile_points game profile valid = record {
  len = length-map profile first_point ∙ valid.len;
  feasible = λ i player is. subst (λ x. IsFeasible player x) (sym (point i player is))
      (first_feasible player (strategy_of profile i) (valid.strategies i player is));
}
  where
    point : (i : ℕ) (player : PlayerOf) → IsPlayer game i player
        → point_of (points_of profile) i ≡ first_point (strategy_of profile i)
    point i player is =
        let w = slice_get_within game i player is in
        let len = valid.len in
        get_or-map first_point profile i [] (record { num = List.[]; den = pos 1 }) (omega arith)

-- two lists of the same values stay so where one entry of both is replaced by the same point
pub set_same : (a b : List PointOf) (i : ℕ) (x : PointOf) → i < length a → i < length b
    → (pos 0) <ℤ x.den → AreSame a b → AreSame (slice_set a i x) (slice_set b i x)
set_same a b i x in_a in_b positive s = record {
  dens = λ k. of a k in_a s.dens;
  other_dens = λ k. of b k in_b s.other_dens;
  values = λ k v. ⊎_elim
      (λ (e : k ≡ i).
      subst (λ n. HaveSameCross (value_of (point_of (slice_set a i x) n) v)
      (value_of (point_of (slice_set b i x) n) v)) (sym e) (same_here v))
      (λ (n : k ≢ i). there k v n) (cases_eq k i);
}
  where
    here : (a : List PointOf) → i < length a → point_of (slice_set a i x) i ≡ x
    here a h = get_or-set_same a i x (record { num = List.[]; den = pos 1 }) h

    other : (a : List PointOf) (k : ℕ) → k ≢ i → point_of (slice_set a i x) k ≡ point_of a k
    other a k n = get_or-set_other a i k x (record { num = List.[]; den = pos 1 }) n

    same_here : (v : ℕ)
        → HaveSameCross (value_of (point_of (slice_set a i x) i) v)
        (value_of (point_of (slice_set b i x) i) v)
    same_here v = rw (here a in_a, here b in_b) refl

    of : (a : List PointOf) (k : ℕ) → i < length a → ((k : ℕ) → (pos 0) <ℤ (point_of a k).den)
        → (pos 0) <ℤ (point_of (slice_set a i x) k).den
    of a k h dens =
        ⊎_elim (λ (e : k ≡ i). subst (λ n. (pos 0) <ℤ (point_of (slice_set a i x) n).den) (sym e)
        (subst (λ y. (pos 0) <ℤ y.den) (sym (here a h)) positive))
        (λ (n : k ≢ i). subst (λ y. (pos 0) <ℤ y.den) (sym (other a k n)) (dens k))
        (cases_eq k i)

    there : (k v : ℕ) → k ≢ i
        → HaveSameCross (value_of (point_of (slice_set a i x) k) v)
        (value_of (point_of (slice_set b i x) k) v)
    there k v n = subst (λ y. HaveSameCross (value_of y v)
        (value_of (point_of (slice_set b i x) k) v)) (sym (other a k n))
        (subst (λ y. HaveSameCross (value_of (point_of a k) v) (value_of y v)) (sym (other b k n))
        (s.values k v))

-- points of the same values are stable alike
pub stable_same : (game : GameOf) (a b : List PointOf) → length a ≡ length game
    → length b ≡ length game → AreSame a b → IsStableAt game a → IsStableAt game b
stable_same game a b a_len b_len s stable i player is x feasible =
    let w = slice_get_within game i player is in
    costs_ordered player i a (slice_set a i x) b (slice_set b i x) s
    (set_same a b i x (omega arith) (omega arith) feasible.point s)
    (stable i player is x feasible)
