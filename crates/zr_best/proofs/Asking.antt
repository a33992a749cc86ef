-- What is asked of a slope's aim may be asked along the slope.
use Rattle.std.proofs.Common.{◌≡◌, ℕ, arith, refl, sym, ap, subst, ◌∙◌, ℤ, pos, neg_ℤ, ◌*ℤ◌, ◌<ℤ◌, List, [], ◌∷◌, map, length, inl, inr, ◌⊎◌}
use Rattle.std.proofs.lemmas.Int.{ints}
use Rattle.zr_base.specs.Fractions.{Fraction, IsAtMost, IsSame, HaveSameCross, whole}
use Rattle.zr_base.specs.Points.{PointOf, value_of}
use Rattle.zr_base.proofs.Divisors.{cancel, mul_positive}
use Rattle.zr_base.proofs.Ring.{spread}
use Rattle.zr_base.proofs.SameLaws.{order_same, same_refl, same_sym}
use Rattle.zr_game.specs.Forms.{IsGame, IsPlayer}
use Rattle.zr_game.specs.Means.{along_slope, slope}
use Rattle.zr_game.specs.Players.{GameOf, PlayerOf}
use Rattle.zr_game.specs.Profiles.{IsProfile, Profile}
use Rattle.zr_asked.specs.declared.question.Asked.{Asked}
use Rattle.zr_asked.specs.declared.question.Asked.TheVariants.{Branch, Choices}
use Rattle.zr_asked.specs.declared.question.AskedLp.{AskedLp}
use Rattle.zr_asked.specs.Stuck.{Aims, IsStuckAsked, IsStuckQuestion}
use Rattle.zr_lin.specs.declared.stuck.Stuck.{Stuck}
use Rattle.zr_bnb.specs.Answers.{MayAsk}
use Rattle.zr_bnb.specs.Values.{IsLeastAt, IsLeastValue, scaled_aim}
use Rattle.zr_mix.specs.Claims.{IsClaim}
use Rattle.zr_mix.specs.Values.{AreInLowestTerms}
use Rattle.zr_best.specs.Aims.{IsLeastAlong, IsSlopeAim, MayAskAlong}
use Rattle.zr_best.proofs.Along.{point_den}
use Rattle.zr_best.proofs.Claims.{claim_of_value}
use Rattle.zr_best.proofs.Leasts.{none_lower, over_value, value_at}
use Rattle.zr_best.proofs.Quotients.{quotient}

scaled_turned : (m : ℤ) (left : List ℤ)
    → map (λ z. m *ℤ z) (map neg_ℤ left) ≡ map neg_ℤ (map (λ z. m *ℤ z) left)
scaled_turned m [] = refl
scaled_turned m (z ∷ left) =
    ap (λ y. y ∷ map (λ z. m *ℤ z) (map neg_ℤ left)) (turn m z)
    ∙ ap (λ ys. neg_ℤ (m *ℤ z) ∷ ys) (scaled_turned m left)
  where
    turn : (a b : ℤ) → a *ℤ neg_ℤ b ≡ neg_ℤ (a *ℤ b)
    turn a b = simp spread (omega (arith, ints))

-- a stuck question is one with other aims that may be asked
pub asked_also : (i : ℕ) (player : PlayerOf) (May Also : Aims) → ((aim : List ℤ) → May aim → Also aim)
    → (asked : AskedLp) → IsStuckAsked i player May asked → IsStuckAsked i player Also asked
asked_also i player May Also also asked h = question asked.question asked.stuck h
  where
    question : (q : Asked) (stuck : Stuck) → IsStuckQuestion i player May q stuck
        → IsStuckQuestion i player Also q stuck
    question (Branch p path aim) stuck h = (h.0, also aim.items h.1, h.2)
    question (Choices path) stuck h = absurd h

module _ (game : GameOf) (form : IsGame game) (profile : Profile) (valid : IsProfile game profile)
    (i : ℕ) (player : PlayerOf) (is : IsPlayer game i player) (slopes : List Fraction)
    (by : ℤ) (left : List ℤ) (right : ℤ)
    (are : AreInLowestTerms slopes (length player.vars) (slope player profile))
    (claim : IsClaim slopes (whole (pos 0)) by left right) where
  pub first_aim : IsSlopeAim player profile (whole (pos 0)) (map neg_ℤ left)
  first_aim = record {
    slopes = slopes;
    by = by;
    left = left;
    right = right;
    are_slopes = are;
    claim = claim;
    aim_is = refl;
  }

  second_aim : (f : Fraction) (x : PointOf) → IsLeastAt player (map neg_ℤ left) f x
      → (value : Fraction) × IsLeastAlong player profile value
      × IsSlopeAim player profile value (scaled_aim f (map neg_ℤ left))
  second_aim f x least =
      let above = least.lowest.ratio.positive in
      let q = quotient f.num (f.den *ℤ by) (mul_positive f.den by above claim.common.positive) in
      let along = along_slope player profile (value_of x) in
      let positive = point_den game form profile valid i player is slopes (whole (pos 0)) by left right are claim x least.feasible.point in
      let same : IsSame q.value along = record {
        left = q.positive;
        right = positive;
        cross = turn q.value.num q.value.den along.num along.den (f.den *ℤ by) f.num
            (mul_positive f.den by above claim.common.positive) q.same
            (value_at game form profile valid i player is slopes by left right are claim f x least).equal;
      } in (
        q.value,
        record {
          point = x;
          feasible = least.feasible;
          value_is = record { coprime = q.coprime; same = same };
          least = λ y feasible.
              let other = along_slope player profile (value_of y) in
              let there = point_den game form profile valid i player is slopes (whole (pos 0)) by left right are claim y feasible.point in
              order_same along other q.value other (same_sym q.value along same) (same_refl other there)
              (none_lower game form profile valid i player is slopes by left right are claim f x least y feasible);
        },
        record {
          slopes = slopes;
          by = f.den *ℤ by;
          left = map (λ z. f.den *ℤ z) left;
          right = neg_ℤ f.num;
          are_slopes = are;
          claim = claim_of_value slopes by left right claim f.num f.den above least.lowest.coprime q.value q.positive q.coprime q.same;
          aim_is = scaled_turned f.den left;
        },
      )
    where
      turn : (a b c d k n : ℤ) → (pos 0) <ℤ k → a *ℤ k ≡ n *ℤ b → c *ℤ k ≡ n *ℤ d → a *ℤ d ≡ c *ℤ b
      turn a b c d k n positive e g =
          let p = simp spread at (ap (λ z. z *ℤ d) e) in
          let q = simp spread at (ap (λ z. z *ℤ b) g) in
          cancel (a *ℤ d) (c *ℤ b) k positive (simp spread (omega (arith, ints, p, q)))

  pub may_along : (aim : List ℤ) → MayAsk player (map neg_ℤ left) aim → MayAskAlong player profile aim
  may_along aim (inl e) =
      inl (subst (IsSlopeAim player profile (whole (pos 0))) (sym e) first_aim)
  may_along aim (inr (inl (f, least, e))) =
      let s = second_aim f least.0 least.1 in
      inr (inl (s.0, s.1, subst (IsSlopeAim player profile s.0) (sym e) s.2))
  may_along aim (inr (inr h)) = inr (inr h)
