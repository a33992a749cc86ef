-- The expected cost of a pure profile is the cost at its points.
use Rattle.std.proofs.Common.{ℕ, sym, subst, pos, ◌<ℤ◌, slice_set, All}
use Rattle.zr_base.proofs.Divisors.{mul_positive}
use Rattle.zr_base.specs.Fractions.{Fraction, IsSame}
use Rattle.zr_base.specs.Points.{PointOf}
use Rattle.zr_game.specs.Players.{GameOf, PlayerOf}
use Rattle.zr_game.specs.Forms.{IsPlayer}
use Rattle.zr_game.specs.Feasible.{IsFeasible}
use Rattle.zr_game.specs.Costs.{cost_of}
use Rattle.zr_game.specs.Profiles.{IsProfile, Profile, deviation, expected_cost, totals}
use Rattle.zr_game.specs.PureProfiles.{points_of}
use Rattle.zr_game.proofs.ByMeans.{totals_positive}
use Rattle.zr_game.proofs.MeanLaws.{deviation_valid, full}
use Rattle.zr_game.proofs.PureEquilibria.{cost_den}
use Rattle.zr_game.proofs.PureLaws.{IsOne, expected_is, points_of-deviation, pure_cost, pure_deviation}
use Rattle.zr_game.proofs.PurePoints.{feasible_dens, profile_points}

pub played : (game : GameOf) (profile : Profile) → IsProfile game profile → All IsOne profile
    → (i : ℕ) (player : PlayerOf) → IsPlayer game i player
    → IsSame (expected_cost player i profile) (cost_of player i (points_of profile))
played game profile valid one i player is =
    let cost = cost_of player i (points_of profile) in
    let den = cost_den player i (points_of profile)
    (feasible_dens game (points_of profile) (profile_points game profile valid)) in
    let all = totals_positive profile (full game profile valid) in
    record {
      left = subst (λ (f : Fraction). (pos 0) <ℤ f.den) (sym (expected_is player i profile one))
          (mul_positive cost.den (totals profile) den all);
      right = den;
      cross = pure_cost player i profile one;
    }

pub deviated : (game : GameOf) (profile : Profile) → IsProfile game profile → All IsOne profile
    → (i : ℕ) (player : PlayerOf) → IsPlayer game i player → (x : PointOf) → IsFeasible player x
    → IsSame (expected_cost player i (deviation profile i x))
    (cost_of player i (slice_set (points_of profile) i x))
deviated game profile valid one i player is x feasible =
    let dev = deviation profile i x in
    let of = played game dev (deviation_valid game profile valid i player is x feasible)
    (pure_deviation profile i x one) i player is in
    subst (λ points. IsSame (expected_cost player i dev) (cost_of player i points))
    (points_of-deviation profile i x) of
