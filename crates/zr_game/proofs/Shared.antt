-- Points whose denominators divide one number, and what costs and sums over tuples are worth over
-- it.
use Rattle.std.proofs.Common.{◌≡◌, ℕ, zero, suc, arith, refl, sym, ap, ◌∙◌, ℤ, pos, ◌+ℤ◌, ◌*ℤ◌, ◌<ℤ◌, unsigned_abs, int_div, Option, Some, None, List, [], ◌∷◌}
use Rattle.std.specs.Option.{ForSome, option_map_or}
use Rattle.std.proofs.lemmas.Int.{ints}
use Rattle.std.proofs.Math.Nat.{one-dvd}
use Rattle.zr_base.proofs.Divisors.{quot_exact}
use Rattle.zr_base.proofs.Ring.{mul_assoc}
use Rattle.zr_base.proofs.Worth.{Each, Worth, sum_list, worth-multiple, worth-plus, worth-sum, worth-times, worth-wider, worth-zero}
use Rattle.zr_base.specs.Fractions.{Fraction, sum_over, times, whole}
use Rattle.zr_base.specs.Points.{PointOf, num_of, value_of}
use Rattle.zr_game.proofs.Tuples.{tuples, weigh}
use Rattle.zr_game.specs.Costs.{cost_of, cross_at, other_at, own_at, point_of, value_at_place}
use Rattle.zr_game.specs.Players.{PlayerOf}
use Rattle.zr_game.specs.Profiles.{Profile, Strategy, strategy_of, tuple_sum, weighted}
use Rattle.zr_game.specs.declared.player.CrossTerm.{CrossTerm}
use Rattle.zr_game.specs.declared.player.Other.{Other}

pub record Shares (d : ℤ) (x : PointOf) : Type 0 where
  pub below : (pos 0) <ℤ x.den
  pub exact : int_div d x.den *ℤ x.den ≡ d

-- the numerator of variable v over d
abbrev pub num_over : ℤ → PointOf → ℕ → ℤ
num_over d x v = num_of x v *ℤ int_div d x.den

pub worth-value : (d : ℤ) (x : PointOf) (v : ℕ) → Shares d x
    → Worth d (value_of x v) (num_over d x v)
worth-value d x v s = record {
  below = s.below;
  equal = ap (λ y. num_of x v *ℤ y) (sym s.exact) ∙
      sym (mul_assoc (num_of x v) (int_div d x.den) x.den);
}

abbrev pub AreShared : ℤ → Strategy → Type 0
AreShared d parts = Each (λ part. Shares d part.point) parts

pub worth-weighted : (e d : ℤ) (parts : Strategy) (f : PointOf → Fraction) (n : PointOf → ℤ)
    → ((x : PointOf) → Shares d x → Worth e (f x) (n x)) → AreShared d parts
    → Worth e (weighted parts f) (weigh parts n)
worth-weighted e d parts f n h all =
    worth-sum e (λ part. Shares d part.point) parts
    (λ part. times (whole part.weight) (f part.point)) (λ part. part.weight *ℤ n part.point)
    (λ part s. worth-multiple e part.weight (f part.point) (n part.point) (h part.point s)) all

pub worth-tuples : (e d : ℤ) (profile : Profile) (f : List PointOf → Fraction) (n : List PointOf
    → ℤ) → ((points : List PointOf) → Each (Shares d) points → Worth e (f points) (n points))
    → Each (AreShared d) profile → Worth e (tuple_sum profile f) (tuples profile n)
worth-tuples e d [] f n h all = h [] tt
worth-tuples e d (s ∷ ss) f n h all =
    worth-weighted e d s (λ x. tuple_sum ss (λ points. f (x ∷ points)))
    (λ x. tuples ss (λ points. n (x ∷ points)))
    (λ x one. worth-tuples e d ss (λ points. f (x ∷ points)) (λ points. n (x ∷ points))
    (λ points rest. h (x ∷ points) (one, rest)) all.1) all.0

pub shared_point : (d : ℤ) (points : List PointOf) (k : ℕ) → Each (Shares d) points
    → Shares d (point_of points k)
shared_point d [] k all = record {
  below = omega (arith, ints);
  exact = quot_exact d (pos 1) (one-dvd (unsigned_abs d));
}
shared_point d (x ∷ xs) zero all = all.0
shared_point d (x ∷ xs) (suc k) all = shared_point d xs k all.1

pub shared_strategy : (d : ℤ) (profile : Profile) (k : ℕ) → Each (AreShared d) profile
    → AreShared d (strategy_of profile k)
shared_strategy d [] k all = tt
shared_strategy d (x ∷ xs) zero all = all.0
shared_strategy d (x ∷ xs) (suc k) all = shared_strategy d xs k all.1

pub worth-sum_all : {A : Type 0} (d : ℤ) (xs : List A) (f : A → Fraction) (n : A → ℤ)
    → ((x : A) → Worth d (f x) (n x)) → Worth d (sum_over xs f) (sum_list xs n)
worth-sum_all d [] f n h = worth-zero d
worth-sum_all d (x ∷ xs) f n h =
    worth-plus d (f x) (sum_over xs f) (n x) (sum_list xs n) (h x) (worth-sum_all d xs f n h)

-- the numerator of a player's variable over d
abbrev pub place_num : ℤ → List PointOf → ℕ × ℕ → ℤ
place_num d points at = num_over d (point_of points at.0) at.1

-- the numerators over the square of d of a player's terms, where its variables have these
-- numerators over d
abbrev pub own_num : ℤ → (ℕ → ℤ) → ℕ × ℤ → ℤ
own_num d own t = (t.1 *ℤ own t.0) *ℤ d

abbrev pub cross_num : (ℕ → ℤ) → (ℕ × ℕ → ℤ) → CrossTerm → ℤ
cross_num own n t = t.coef *ℤ (own t.own *ℤ n (t.player, t.var))

abbrev pub other_num : ℤ → (ℕ × ℕ → ℤ) → Other → ℤ
other_num d n t = let one = t.coef *ℤ n t.first in
    option_map_or (λ at. one *ℤ n at) t.second (one *ℤ d)

abbrev pub own_nums : PlayerOf → ℕ → ℤ → List PointOf → ℤ
own_nums player i d points = sum_list player.cost (own_num d (num_over d (point_of points i)))

abbrev pub cross_nums : PlayerOf → ℕ → ℤ → List PointOf → ℤ
cross_nums player i d points =
    sum_list player.cross (cross_num (num_over d (point_of points i)) (place_num d points))

abbrev pub other_nums : PlayerOf → ℤ → List PointOf → ℤ
other_nums player d points = sum_list player.others (other_num d (place_num d points))

-- the cost's numerator over the square of d
abbrev pub cost_num : PlayerOf → ℕ → ℤ → List PointOf → ℤ
cost_num player i d points = (own_nums player i d points +ℤ cross_nums player i d points) +ℤ
    other_nums player d points

pub worth-other : (d : ℤ) (value : ℕ × ℕ → Fraction) (n : ℕ × ℕ → ℤ) (t : Other)
    → Worth d (value t.first) (n t.first) → ForSome t.second (λ at. Worth d (value at) (n at))
    → Worth (d *ℤ d) (other_at value t) (other_num d n t)
worth-other d value n t first second = on t.second second
  where
    one : Worth d (times (whole t.coef) (value t.first)) (t.coef *ℤ n t.first)
    one = worth-multiple d t.coef (value t.first) (n t.first) first

    on : (o : Option (ℕ × ℕ)) → ForSome o (λ at. Worth d (value at) (n at))
        → Worth (d *ℤ d)
        (option_map_or (λ at. times (times (whole t.coef) (value t.first)) (value at)) o
        (times (whole t.coef) (value t.first)))
        (option_map_or (λ at. (t.coef *ℤ n t.first) *ℤ n at) o ((t.coef *ℤ n t.first) *ℤ d))
    on None h = worth-wider d d (times (whole t.coef) (value t.first)) (t.coef *ℤ n t.first) one
    on (Some at) h = worth-times d d (times (whole t.coef) (value t.first)) (value at)
        (t.coef *ℤ n t.first) (n at) one (h at refl)

pub worth-cost : (player : PlayerOf) (i : ℕ) (d : ℤ) (points : List PointOf)
    → Each (Shares d) points → Worth (d *ℤ d) (cost_of player i points) (cost_num player i d points)
worth-cost player i d points all =
    let s = d *ℤ d in
    let value = value_of (point_of points i) in
    let num = num_over d (point_of points i) in
    let far = value_at_place points in
    let far_num = place_num d points in
    let own = λ (v : ℕ). worth-value d (point_of points i) v (shared_point d points i all) in
    let other = λ (at : ℕ × ℕ). worth-value d (point_of points at.0) at.1
    (shared_point d points at.0 all) in
    let first = λ (t : ℕ × ℤ). worth-wider d d (own_at value t) (t.1 *ℤ num t.0)
    (worth-multiple d t.1 (value t.0) (num t.0) (own t.0)) in
    let pair = λ (t : CrossTerm). worth-times d d (value t.own) (far (t.player, t.var)) (num t.own)
    (far_num (t.player, t.var)) (own t.own) (other (t.player, t.var)) in
    let second = λ (t : CrossTerm). worth-multiple s t.coef
    (times (value t.own) (far (t.player, t.var))) (num t.own *ℤ far_num (t.player, t.var))
    (pair t) in
    let third = λ (t : Other). worth-other d far far_num t (other t.first) (λ at e. other at) in
    let owns = worth-sum_all s player.cost (own_at value) (own_num d num) first in
    let crosses = worth-sum_all s player.cross (cross_at value far) (cross_num num far_num) second
    in
    let others = worth-sum_all s player.others (other_at far) (other_num d far_num) third in
    worth-plus s _ _ _ _ (worth-plus s _ _ _ _ owns crosses) others
