-- A profile whose claims hold is an equilibrium, and the other way round.
use Rattle.std.proofs.Common.{◌≡◌, ℕ, ◌<◌, arith, refl, sym, ap, ◌∙◌, ℤ, pos, negsuc, neg_ℤ, ◌*ℤ◌, ◌<ℤ◌, Ok, List, length, slice_index_or}
use Rattle.std.proofs.Math.IntN.{*ℤ_comm}
use Rattle.std.proofs.lemmas.Int.{ints}
use Rattle.zr_base.specs.Fractions.{Fraction, IsAtMost, IsSame, HaveSameCross, plus, times, whole}
use Rattle.zr_base.specs.Lowest.{add_of}
use Rattle.zr_base.specs.Points.{PointOf, num_of, value_of}
use Rattle.zr_base.specs.Sums.{sum_to}
use Rattle.zr_base.proofs.Dense.{sum_to-mul, sum_to_same}
use Rattle.zr_base.proofs.Divisors.{mul_positive}
use Rattle.zr_base.proofs.Ring.{neg-mul_left}
use Rattle.zr_base.proofs.Reduced.{add_of_exact}
use Rattle.zr_base.proofs.SameLaws.{plus_same, same_sym, same_through}
use Rattle.zr_base.proofs.Worth.{Worth, at_most, of_at_most, worth-below, worth-times, worth-wider, worth_of_same}
use Rattle.zr_game.specs.Equilibria.{IsEquilibrium}
use Rattle.zr_game.specs.Feasible.{IsFeasible}
use Rattle.zr_game.specs.Forms.{IsGame, IsPlayer}
use Rattle.zr_game.specs.Leaves.{BoundHolds, bound_with}
use Rattle.zr_game.specs.Means.{along_slope, mean, rest, slope}
use Rattle.zr_game.specs.Players.{GameOf, PlayerOf}
use Rattle.zr_game.specs.Profiles.{IsProfile, Profile, expected_cost, strategy_of}
use Rattle.zr_game.proofs.MeanLaws.{along_den, at_mean, equilibria, mean_den, slope_den}
use Rattle.zr_mix.specs.Checks.{ClaimHolds, HasClaims, IsClaimOf}
use Rattle.zr_mix.specs.Values.{IsReduced, item_of}

claim_worth : (d n : ℤ) (f : Fraction) → (pos 0) <ℤ f.den
    → HaveSameCross (times (whole d) f) (whole n) → Worth d f n
claim_worth d n f positive e =
    let one : pos 1 *ℤ f.den ≡ f.den = omega (arith, ints) in
    let s = *ℤ_comm d f.num in
    record { below = positive; equal = sym s ∙ omega (arith, ints, e) ∙ ap (λ z. n *ℤ z) one }

module _ (game : GameOf) (form : IsGame game) (profile : Profile) (valid : IsProfile game profile)
    (i : ℕ) (player : PlayerOf) (is : IsPlayer game i player) where
  own_den : (pos 0) <ℤ (along_slope player profile (mean (strategy_of profile i))).den
  own_den = along_den game profile valid i player is (form.players i player is)
      (mean (strategy_of profile i)) (mean_den game profile valid i player is
      (form.players i player is))

  -- the sum that is made of value and rest is the expected cost
  pub made_cost : (value others f : Fraction)
      → IsReduced value (along_slope player profile (mean (strategy_of profile i)))
      → IsReduced others (rest player profile) → add_of value others ≡ Ok f
      → IsReduced f (expected_cost player i profile)
  made_cost value others f of_value of_rest made =
      let along = along_slope player profile (mean (strategy_of profile i)) in
      let r = rest player profile in
      let cost = expected_cost player i profile in
      let left = of_value.lowest.ratio.positive in
      let right = of_rest.lowest.ratio.positive in
      let exact = add_of_exact value others f left right made in
      let parts = plus_same value others along r of_value.same of_rest.same in
      let sum : IsSame f (plus value others) = record {
        left = exact.lowest.ratio.positive;
        right = mul_positive value.den others.den left right;
        cross = exact.same;
      } in
      let by_means = same_sym cost (plus along r)
      (at_mean game profile valid i player is (form.players i player is)) in
      record {
        lowest = exact.lowest;
        same = same_through f (plus along r) cost
            (same_through f (plus value others) (plus along r) sum parts) by_means;
      }

  module _ (left : List ℤ) (right : ℤ) (claim : IsClaimOf player i profile left right) (x : PointOf)
      (feasible : IsFeasible player x) where
    slope_worth : (v : ℕ) → v < length player.vars
        → Worth claim.by (slope player profile v) (neg_ℤ (slice_index_or left v (pos 0)))
    slope_worth v h =
        let s = claim.are_slopes.each v h in
        let len = claim.are_slopes.len in
        worth_of_same claim.by (item_of claim.slopes v) (slope player profile v)
        (neg_ℤ (slice_index_or left v (pos 0)))
        (slope_den game profile valid i player is (form.players i player is) v) s.same.cross
        (claim_worth claim.by (neg_ℤ (slice_index_or left v (pos 0))) (item_of claim.slopes v)
        s.same.left (claim.claim.lefts v (omega (arith, h, len))).cross)

    at_point : Worth (claim.by *ℤ x.den) (along_slope player profile (value_of x))
        (sum_to (length player.vars) (λ v. neg_ℤ (slice_index_or left v (pos 0)) *ℤ num_of x v))
    at_point =
        worth-below (claim.by *ℤ x.den) (length player.vars)
        (λ v. times (slope player profile v) (value_of x v))
        (λ v. neg_ℤ (slice_index_or left v (pos 0)) *ℤ num_of x v)
        (λ v h. worth-times claim.by x.den (slope player profile v) (value_of x v)
        (neg_ℤ (slice_index_or left v (pos 0))) (num_of x v) (slope_worth v h)
        (record { below = feasible.point; equal = refl }))

    at_own : Worth (claim.by *ℤ x.den) (along_slope player profile (mean (strategy_of profile i)))
        (neg_ℤ right *ℤ x.den)
    at_own =
        worth-wider claim.by x.den (along_slope player profile (mean (strategy_of profile i)))
        (neg_ℤ right) (worth_of_same claim.by claim.value
        (along_slope player profile (mean (strategy_of profile i))) (neg_ℤ right) own_den
        claim.is_value.same.cross (claim_worth claim.by (neg_ℤ right) claim.value
        claim.is_value.same.left claim.claim.rights.cross))

    turned : sum_to (length player.vars) (λ v. neg_ℤ (slice_index_or left v (pos 0)) *ℤ num_of x v)
        ≡ negsuc 0 *ℤ sum_to (length player.vars) (λ v. slice_index_or left v (pos 0) *ℤ num_of x v)
    turned =
        sum_to_same (length player.vars) (λ v. neg_ℤ (slice_index_or left v (pos 0)) *ℤ num_of x v)
        (λ v. negsuc 0 *ℤ (slice_index_or left v (pos 0) *ℤ num_of x v))
        (λ v h. neg-mul_left (slice_index_or left v (pos 0)) (num_of x v) ∙
        omega (arith, ints)) ∙ sum_to-mul (length player.vars) (negsuc 0)
        (λ v. slice_index_or left v (pos 0) *ℤ num_of x v)

    scale : (pos 0) <ℤ (claim.by *ℤ x.den)
    scale = mul_positive claim.by x.den claim.claim.common.positive feasible.point

    pub no_gain : BoundHolds player x (bound_with left right)
        → IsAtMost (along_slope player profile (mean (strategy_of profile i)))
        (along_slope player profile (value_of x))
    no_gain holds =
        at_most (claim.by *ℤ x.den) (along_slope player profile (mean (strategy_of profile i)))
        (along_slope player profile (value_of x)) (neg_ℤ right *ℤ x.den)
        (sum_to (length player.vars) (λ v. neg_ℤ (slice_index_or left v (pos 0)) *ℤ num_of x v))
        scale at_own at_point (let m = neg-mul_left right x.den in
        rw (turned, m) (omega (arith, ints, holds)))

    pub row_holds : IsAtMost (along_slope player profile (mean (strategy_of profile i)))
        (along_slope player profile (value_of x)) → BoundHolds player x (bound_with left right)
    row_holds below =
        let le = of_at_most (claim.by *ℤ x.den)
        (along_slope player profile (mean (strategy_of profile i)))
        (along_slope player profile (value_of x)) (neg_ℤ right *ℤ x.den)
        (sum_to (length player.vars) (λ v. neg_ℤ (slice_index_or left v (pos 0)) *ℤ num_of x v))
        scale at_own at_point below in
        let m = neg-mul_left right x.den in
        let h = rw (turned, m) at le in
        omega (arith, ints, h)

pub enough : (game : GameOf) → IsGame game → (profile : Profile) → IsProfile game profile
    → HasClaims game profile → IsEquilibrium game profile
enough game form profile valid claims =
    (equilibria game form profile valid).1 (λ i player is x feasible. let c = claims i player is in
    no_gain game form profile valid i player is c.0 c.1 c.2.0 x feasible (c.2.1 x feasible))

pub needed : (game : GameOf) → IsGame game → (profile : Profile) → IsEquilibrium game profile
    → (i : ℕ) (player : PlayerOf) → IsPlayer game i player → (left : List ℤ) (right : ℤ)
    → IsClaimOf player i profile left right → ClaimHolds player left right
needed game form profile equilibrium i player is left right claim x feasible =
    row_holds game form profile equilibrium.valid i player is left right claim x feasible
    ((equilibria game form profile equilibrium.valid).0 equilibrium i player is x feasible)
