-- Values along a slope, as whole numbers: those of its aim.
use Rattle.std.proofs.Common.{◌≡◌, ℕ, zero, suc, ◌<◌, arith, refl, sym, ap, subst, ◌∙◌, ℤ, pos, neg_ℤ, ◌+ℤ◌, ◌*ℤ◌, ◌<ℤ◌, ◌≤ℤ◌, List, [], ◌∷◌, map, length, slice_index_or}
use Rattle.std.proofs.Math.IntN.{*ℤ_comm}
use Rattle.std.proofs.lemmas.Int.{ints}
use Rattle.zr_base.specs.Fractions.{Fraction, IsAtMost, IsSame, HaveSameCross, ratio, times, whole}
use Rattle.zr_base.specs.Points.{PointOf, num_of, value_of}
use Rattle.zr_base.specs.Sums.{sum_to}
use Rattle.zr_base.proofs.Dense.{sum_to-mul, sum_to_same}
use Rattle.zr_base.proofs.Divisors.{cancel, mul_positive}
use Rattle.zr_base.proofs.Ring.{spread}
use Rattle.zr_base.proofs.Worth.{Worth, at_most, le_times, le_of_times, worth-below, worth-times, worth-wider, worth_of_same, worth-rescale}
use Rattle.zr_game.specs.Forms.{IsGame, IsPlayer}
use Rattle.zr_game.specs.Means.{along_slope, slope}
use Rattle.zr_game.specs.Players.{GameOf, PlayerOf}
use Rattle.zr_game.specs.Profiles.{IsProfile, Profile}
use Rattle.zr_game.proofs.MeanLaws.{along_den, slope_den}
use Rattle.zr_simplex.specs.Programs.{numbers}
use Rattle.zr_branch.specs.Values.{IsNotBelow, IsValue, aim_value}
use Rattle.zr_mix.specs.Claims.{IsClaim}
use Rattle.zr_mix.specs.Values.{AreInLowestTerms, item_of}

claim_worth : (d n : ℤ) (f : Fraction) → (pos 0) <ℤ f.den
    → HaveSameCross (times (whole d) f) (whole n) → Worth d f n
claim_worth d n f positive e =
    let one : pos 1 *ℤ f.den ≡ f.den = omega (arith, ints) in
    let s = *ℤ_comm d f.num in
    record { below = positive; equal = sym s ∙ omega (arith, ints, e) ∙ ap (λ z. n *ℤ z) one }

pub numbers_turned : (left : List ℤ) (j : ℕ) → numbers (map neg_ℤ left) j ≡ neg_ℤ (numbers left j)
numbers_turned [] j = refl
numbers_turned (z ∷ left) zero = refl
numbers_turned (z ∷ left) (suc j) = numbers_turned left j

module _ (game : GameOf) (form : IsGame game) (profile : Profile) (valid : IsProfile game profile)
    (i : ℕ) (player : PlayerOf) (is : IsPlayer game i player) (slopes : List Fraction)
    (zero_value : Fraction) (by : ℤ) (left : List ℤ) (right : ℤ)
    (are : AreInLowestTerms slopes (length player.vars) (slope player profile))
    (claim : IsClaim slopes zero_value by left right) where
  slope_worth : (v : ℕ) → v < length player.vars
      → Worth by (slope player profile v) (numbers (map neg_ℤ left) v)
  slope_worth v h =
      let s = are.each v h in
      let len = are.len in
      subst (Worth by (slope player profile v)) (sym (numbers_turned left v))
      (worth_of_same by (item_of slopes v) (slope player profile v) (neg_ℤ (numbers left v))
      (slope_den game profile valid i player is (form.players i player is) v) s.same.cross
      (claim_worth by (neg_ℤ (numbers left v)) (item_of slopes v) s.same.left
      (claim.lefts v (omega (arith, h, len))).cross))

  -- the value at a point is that of the aim, over `by` and the denominator
  pub at_point : (x : PointOf) → (pos 0) <ℤ x.den
      → Worth (by *ℤ x.den) (along_slope player profile (value_of x))
      (aim_value player (map neg_ℤ left) (num_of x))
  at_point x positive =
      worth-below (by *ℤ x.den) (length player.vars) (λ v. times (slope player profile v) (value_of x v))
      (λ v. numbers (map neg_ℤ left) v *ℤ num_of x v)
      (λ v h. worth-times by x.den (slope player profile v) (value_of x v) (numbers (map neg_ℤ left) v)
      (num_of x v) (slope_worth v h) (record { below = positive; equal = refl }))

  pub point_den : (x : PointOf) → (pos 0) <ℤ x.den
      → (pos 0) <ℤ (along_slope player profile (value_of x)).den
  point_den x positive =
      along_den game profile valid i player is (form.players i player is) (value_of x) (λ v. positive)

  module _ (f : Fraction) (above : (pos 0) <ℤ f.den) where
    -- a value of the aim, over `by`
    pub value_worth : (x : PointOf) → (pos 0) <ℤ x.den → IsValue player (map neg_ℤ left) f x
        → Worth (f.den *ℤ by) (along_slope player profile (value_of x)) f.num
    value_worth x positive e =
        worth-rescale (by *ℤ x.den) (f.den *ℤ by) (along_slope player profile (value_of x))
        (aim_value player (map neg_ℤ left) (num_of x)) f.num
        (mul_positive by x.den claim.common.positive positive)
        (turn (aim_value player (map neg_ℤ left) (num_of x)) f.num f.den by x.den e)
        (at_point x positive)
      where
        turn : (a n m b d : ℤ) → n *ℤ d ≡ m *ℤ a → a *ℤ (m *ℤ b) ≡ n *ℤ (b *ℤ d)
        turn a n m b d e =
            let s = simp spread at (ap (λ z. z *ℤ b) e) in
            omega (arith, ints, s)

    -- and one that no point of this denominator is below
    pub least_worth : (x y : PointOf) → (pos 0) <ℤ x.den → (pos 0) <ℤ y.den
        → IsValue player (map neg_ℤ left) f x → IsNotBelow player (map neg_ℤ left) f y
        → IsAtMost (along_slope player profile (value_of x)) (along_slope player profile (value_of y))
    least_worth x y first second e h =
        at_most ((f.den *ℤ by) *ℤ y.den) (along_slope player profile (value_of x))
        (along_slope player profile (value_of y)) (f.num *ℤ y.den)
        (f.den *ℤ aim_value player (map neg_ℤ left) (num_of y))
        (mul_positive (f.den *ℤ by) y.den (mul_positive f.den by above claim.common.positive) second)
        (worth-wider (f.den *ℤ by) y.den (along_slope player profile (value_of x)) f.num
        (value_worth x first e))
        (worth-rescale (by *ℤ y.den) ((f.den *ℤ by) *ℤ y.den) (along_slope player profile (value_of y))
        (aim_value player (map neg_ℤ left) (num_of y))
        (f.den *ℤ aim_value player (map neg_ℤ left) (num_of y))
        (mul_positive by y.den claim.common.positive second)
        (turn (aim_value player (map neg_ℤ left) (num_of y)) f.den by y.den) (at_point y second)) h
      where
        turn : (a m b d : ℤ) → a *ℤ ((m *ℤ b) *ℤ d) ≡ (m *ℤ a) *ℤ (b *ℤ d)
        turn a m b d = simp spread (omega (arith, ints))
