-- Along a ray on which the aim falls, a deviation's cost falls below each number.
use Rattle.std.proofs.Common.{◌≡◌, ℕ, zero, suc, ◌+◌, ◌<◌, arith, refl, sym, ap, subst, ◌∙◌, ℤ, pos, neg_ℤ, ◌+ℤ◌, ◌-ℤ◌, ◌*ℤ◌, ◌<ℤ◌, ◌≤ℤ◌, unsigned_abs, List, [], ◌∷◌, map, length, slice_index_or}
use Rattle.std.specs.List.{zip}
use Rattle.std.proofs.Math.IntN.{*ℤ_comm}
use Rattle.std.proofs.lemmas.Int.{ints}
use Rattle.zr_base.specs.Fractions.{Fraction, IsAtMost, IsLess, IsSame, plus, whole}
use Rattle.zr_base.specs.Points.{PointOf, num_of, value_of}
use Rattle.zr_base.specs.Sums.{sum_to}
use Rattle.zr_base.proofs.Dense.{sum_to-add, sum_to-mul, sum_to_same}
use Rattle.zr_base.proofs.Divisors.{mul_positive}
use Rattle.zr_base.proofs.Ring.{spread}
use Rattle.zr_base.proofs.SameLaws.{same_sym}
use Rattle.zr_base.proofs.Worth.{Worth, at_most, le_times, worth-plus, worth-whole, worth-wider, worth_of_same}
use Rattle.zr_game.specs.Forms.{IsGame, IsPlayer}
use Rattle.zr_game.specs.Means.{along_slope, rest, slope}
use Rattle.zr_game.specs.Players.{GameOf, PlayerOf}
use Rattle.zr_game.specs.Profiles.{IsProfile, Profile, deviation, expected_cost}
use Rattle.zr_game.specs.Rays.{Direction, IsRay, StaysFeasible, change_of, moved}
use Rattle.zr_game.proofs.MeanLaws.{at_deviation, rest_den}
use Rattle.zr_game.proofs.RayLaws.{leads}
use Rattle.zr_simplex.specs.Programs.{numbers}
use Rattle.zr_branch.specs.Values.{aim_value}
use Rattle.zr_mix.specs.Claims.{IsClaim}
use Rattle.zr_mix.specs.Values.{AreInLowestTerms}
use Rattle.zr_best.specs.Best.{FallsWithoutEnd, deviation_cost}
use Rattle.zr_best.proofs.Along.{at_point}

moved_at : (m : ℤ) (xs ys : List ℤ) (v : ℕ) → length xs ≡ length ys
    → slice_index_or (map (λ p. p.0 +ℤ m *ℤ p.1) (zip xs ys)) v (pos 0)
    ≡ slice_index_or xs v (pos 0) +ℤ m *ℤ slice_index_or ys v (pos 0)
moved_at m [] [] v e = omega (arith, ints)
moved_at m [] (y ∷ ys) v e = absurd (omega arith)
moved_at m (x ∷ xs) [] v e = absurd (omega arith)
moved_at m (x ∷ xs) (y ∷ ys) zero e = refl
moved_at m (x ∷ xs) (y ∷ ys) (suc v) e = moved_at m xs ys v (omega arith)

-- the aim's value at a moved point
moved_value : (player : PlayerOf) (aim : List ℤ) (base : PointOf) (dir : Direction)
    → length base.num ≡ length dir → (t : ℕ)
    → aim_value player aim (num_of (moved base dir t))
    ≡ aim_value player aim (num_of base) +ℤ (pos t *ℤ base.den) *ℤ aim_value player aim (change_of dir)
moved_value player aim base dir len t =
    let m = pos t *ℤ base.den in
    let n = length player.vars in
    sum_to_same n (λ j. numbers aim j *ℤ num_of (moved base dir t) j)
    (λ j. numbers aim j *ℤ num_of base j +ℤ m *ℤ (numbers aim j *ℤ change_of dir j))
    (λ j h. ap (λ z. numbers aim j *ℤ z) (moved_at m base.num dir j len)
    ∙ spreads (numbers aim j) (num_of base j) m (change_of dir j))
    ∙ sum_to-add n (λ j. numbers aim j *ℤ num_of base j) (λ j. m *ℤ (numbers aim j *ℤ change_of dir j))
    ∙ ap (λ z. aim_value player aim (num_of base) +ℤ z) (sum_to-mul n m (λ j. numbers aim j *ℤ change_of dir j))
  where
    spreads : (a x m c : ℤ) → a *ℤ (x +ℤ m *ℤ c) ≡ a *ℤ x +ℤ m *ℤ (a *ℤ c)
    spreads a x m c = simp spread (omega (arith, ints))

-- from some step on the sum is below the number
far : (a p q d by s bound : ℤ) → (pos 0) <ℤ q → (pos 0) <ℤ d → s <ℤ (pos 0)
    → (t : ℕ) × ((a +ℤ (pos t *ℤ d) *ℤ s) *ℤ q +ℤ p *ℤ (by *ℤ d)) ≤ℤ (bound *ℤ ((by *ℤ d) *ℤ q))
far a p q d by s bound qp dp falls =
    let c = a *ℤ q +ℤ p *ℤ (by *ℤ d) -ℤ bound *ℤ ((by *ℤ d) *ℤ q) in
    let t = unsigned_abs c + 1 in
    let k : (pos 0) <ℤ ((d *ℤ q) *ℤ neg_ℤ s) = mul_positive (d *ℤ q) (neg_ℤ s) (mul_positive d q dp qp) (omega (arith, ints, falls)) in
    let l = le_times (pos 1) ((d *ℤ q) *ℤ neg_ℤ s) (pos t) (omega (arith, ints)) (omega (arith, ints, k)) in
    let one : pos 1 *ℤ pos t ≡ pos t = omega (arith, ints) in
    let e : ((d *ℤ q) *ℤ neg_ℤ s) *ℤ pos t ≡ neg_ℤ ((pos t *ℤ d) *ℤ s *ℤ q) = turn d q s (pos t) in
    let f : (a +ℤ (pos t *ℤ d) *ℤ s) *ℤ q ≡ a *ℤ q +ℤ (pos t *ℤ d) *ℤ s *ℤ q = parts a ((pos t *ℤ d) *ℤ s) q in
    let above : c <ℤ pos t = omega (arith, ints) in
    (t, omega (arith, ints, l, one, e, f, above))
  where
    turn : (d q s t : ℤ) → ((d *ℤ q) *ℤ neg_ℤ s) *ℤ t ≡ neg_ℤ ((t *ℤ d) *ℤ s *ℤ q)
    turn d q s t = simp spread (omega (arith, ints))

    parts : (a b q : ℤ) → (a +ℤ b) *ℤ q ≡ a *ℤ q +ℤ b *ℤ q
    parts a b q = simp spread (omega (arith, ints))

module _ (game : GameOf) (form : IsGame game) (profile : Profile) (valid : IsProfile game profile)
    (i : ℕ) (player : PlayerOf) (is : IsPlayer game i player) (slopes : List Fraction)
    (zero_value : Fraction) (by : ℤ) (left : List ℤ) (right : ℤ)
    (are : AreInLowestTerms slopes (length player.vars) (slope player profile))
    (claim : IsClaim slopes zero_value by left right) (base : PointOf) (dir : Direction)
    (ray : IsRay player base dir)
    (falls : aim_value player (map neg_ℤ left) (change_of dir) <ℤ (pos 0)) where
  len : length base.num ≡ length dir
  len = ray.base_is.len ∙ sym ray.len

  stays : StaysFeasible player base dir
  stays t =
      let rules = form.players i player is in
      leads base dir len t player ray rules.pairs rules.from_zero

  r : Fraction
  r = rest player profile

  r_den : (pos 0) <ℤ (rest player profile).den
  r_den = rest_den game profile valid i player is (form.players i player is)

  cost_worth : (t : ℕ) → Worth ((by *ℤ base.den) *ℤ (rest player profile).den)
      (deviation_cost player i profile (moved base dir t))
      ((aim_value player (map neg_ℤ left) (num_of base)
      +ℤ (pos t *ℤ base.den) *ℤ aim_value player (map neg_ℤ left) (change_of dir))
      *ℤ (rest player profile).den +ℤ (rest player profile).num *ℤ (by *ℤ base.den))
  cost_worth t =
      let x = moved base dir t in
      let others = rest player profile in
      let along = along_slope player profile (value_of x) in
      let n = aim_value player (map neg_ℤ left) (num_of base)
      +ℤ (pos t *ℤ base.den) *ℤ aim_value player (map neg_ℤ left) (change_of dir) in
      let here : Worth (by *ℤ base.den) along n =
      subst (Worth (by *ℤ base.den) along) (moved_value player (map neg_ℤ left) base dir len t)
      (at_point game form profile valid i player is slopes zero_value by left right are claim x
      ray.base_is.point) in
      let first = worth-wider (by *ℤ base.den) others.den along n here in
      let own : Worth others.den others others.num = record { below = r_den; equal = refl } in
      let second = subst (λ d. Worth d others (others.num *ℤ (by *ℤ base.den)))
      (*ℤ_comm others.den (by *ℤ base.den))
      (worth-wider others.den (by *ℤ base.den) others others.num own) in
      let both = worth-plus ((by *ℤ base.den) *ℤ others.den) along others (n *ℤ others.den)
      (others.num *ℤ (by *ℤ base.den)) first second in
      let same = same_sym (deviation_cost player i profile x) (plus along others)
      (at_deviation game profile valid i player is x (stays t) (form.players i player is)) in
      worth_of_same ((by *ℤ base.den) *ℤ others.den) (plus along others)
      (deviation_cost player i profile x) (n *ℤ others.den +ℤ others.num *ℤ (by *ℤ base.den))
      same.right same.cross both

  below : (bound : ℤ) → (t : ℕ)
      × IsLess (deviation_cost player i profile (moved base dir t)) (whole bound)
  below bound =
      let others = rest player profile in
      let d = (by *ℤ base.den) *ℤ others.den in
      let less = bound -ℤ pos 1 in
      let f = far (aim_value player (map neg_ℤ left) (num_of base)) others.num others.den base.den by
      (aim_value player (map neg_ℤ left) (change_of dir)) less r_den ray.base_is.point falls in
      let positive = mul_positive (by *ℤ base.den) others.den
      (mul_positive by base.den claim.common.positive ray.base_is.point) r_den in
      let w = cost_worth f.0 in
      let cost = deviation_cost player i profile (moved base dir f.0) in
      let m = at_most d cost (whole less) _ (less *ℤ d) positive w (worth-whole d less) f.1 in
      (f.0, strictly cost.num cost.den bound w.below m)
    where
      strictly : (n c b : ℤ) → (pos 0) <ℤ c → (n *ℤ pos 1) ≤ℤ ((b -ℤ pos 1) *ℤ c)
          → (n *ℤ pos 1) <ℤ (b *ℤ c)
      strictly n c b positive h =
          let e : (b -ℤ pos 1) *ℤ c ≡ b *ℤ c -ℤ c = simp spread (omega (arith, ints)) in
          omega (arith, ints, h, e, positive)

  pub falls_without_end : FallsWithoutEnd player i profile base dir
  falls_without_end = record { ray = ray; stays = stays; falls = below }
