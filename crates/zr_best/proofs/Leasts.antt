-- The least cost of a deviation, from the aim's least value.
use Rattle.std.proofs.Common.{◌≡◌, ℕ, arith, refl, sym, ap, subst, ◌∙◌, ℤ, pos, neg_ℤ, ◌*ℤ◌, ◌<ℤ◌, Ok, List, map, length}
use Rattle.std.proofs.lemmas.Int.{ints}
use Rattle.zr_base.specs.Fractions.{Fraction, IsAtMost, IsSame, plus, times, whole}
use Rattle.zr_base.specs.Lowest.{IsLowest, add_of, div_of}
use Rattle.zr_base.specs.Points.{PointOf, value_of}
use Rattle.zr_base.proofs.Divisors.{cancel, mul_positive}
use Rattle.zr_base.proofs.Reduced.{add_of_exact, div_of_exact}
use Rattle.zr_base.proofs.Ring.{spread}
use Rattle.zr_base.proofs.SameLaws.{order_same, plus_same, same_refl, same_sym, same_through}
use Rattle.zr_base.proofs.Worth.{Worth, le_times}
use Rattle.zr_game.specs.Feasible.{IsFeasible}
use Rattle.zr_game.specs.Forms.{IsGame, IsPlayer}
use Rattle.zr_game.specs.Leaves.{Bound, root_leaf}
use Rattle.zr_game.specs.Means.{along_slope, rest, slope}
use Rattle.zr_game.specs.Players.{GameOf, PlayerOf}
use Rattle.zr_game.specs.Profiles.{IsProfile, Profile, deviation, expected_cost}
use Rattle.zr_game.proofs.MeanLaws.{at_deviation, rest_den}
use Rattle.zr_tree.specs.Nodes.{NodeOf}
use Rattle.zr_tree.specs.Right.{IsRight}
use Rattle.zr_tree.specs.Trees.{TreeOf, preorder}
use Rattle.zr_bnb.specs.Values.{IsLeastAt, least_row}
use Rattle.zr_mix.specs.Claims.{IsClaim}
use Rattle.zr_mix.specs.Values.{AreInLowestTerms, IsInLowestTerms, IsReduced}
use Rattle.zr_check.specs.Right.{IsRowTree}
use Rattle.zr_best.specs.Best.{IsClaimAt, IsLeastCostAt, ProvesLeast, deviation_cost}
use Rattle.zr_best.proofs.Along.{least_worth, point_den, value_worth}
use Rattle.zr_best.proofs.Claims.{claim_of_value, row_is}

-- the sum with a third fraction keeps the order
more_at_most : (a b r : Fraction) → (pos 0) <ℤ r.den → IsAtMost a b → IsAtMost (plus a r) (plus b r)
more_at_most a b r positive h =
    let square = mul_positive r.den r.den positive positive in
    let m = simp spread at (le_times (a.num *ℤ b.den) (b.num *ℤ a.den) (r.den *ℤ r.den) square h) in
    simp spread (omega (arith, ints, m))

module _ (game : GameOf) (form : IsGame game) (profile : Profile) (valid : IsProfile game profile)
    (i : ℕ) (player : PlayerOf) (is : IsPlayer game i player) (slopes : List Fraction)
    (by : ℤ) (left : List ℤ) (right : ℤ)
    (are : AreInLowestTerms slopes (length player.vars) (slope player profile))
    (claim : IsClaim slopes (whole (pos 0)) by left right) (f : Fraction) (x : PointOf)
    (least : IsLeastAt player (map neg_ℤ left) f x) where
  above : (pos 0) <ℤ f.den
  above = least.lowest.ratio.positive

  pub value_at : Worth (f.den *ℤ by) (along_slope player profile (value_of x)) f.num
  value_at =
      value_worth game form profile valid i player is slopes (whole (pos 0)) by left right are claim f
      above x least.feasible.point least.value

  -- no feasible point is lower along the slope
  pub none_lower : (y : PointOf) → IsFeasible player y
      → IsAtMost (along_slope player profile (value_of x)) (along_slope player profile (value_of y))
  none_lower y feasible =
      least_worth game form profile valid i player is slopes (whole (pos 0)) by left right are claim f
      above x y least.feasible.point feasible.point least.value (least.least y feasible)

  -- a fraction of this value has, times the denominators, the numerator
  pub over_value : (value : Fraction) → IsSame value (along_slope player profile (value_of x))
      → value.num *ℤ (f.den *ℤ by) ≡ f.num *ℤ value.den
  over_value value same =
      let along = along_slope player profile (value_of x) in
      turn value.num value.den along.num along.den (f.den *ℤ by) f.num same.right same.cross value_at.equal
    where
      turn : (a b c d k n : ℤ) → (pos 0) <ℤ d → a *ℤ d ≡ c *ℤ b → c *ℤ k ≡ n *ℤ d → a *ℤ k ≡ n *ℤ b
      turn a b c d k n positive e g =
          let p = simp spread at (ap (λ z. z *ℤ k) e) in
          let q = simp spread at (ap (λ z. z *ℤ b) g) in
          cancel (a *ℤ k) (n *ℤ b) d positive (simp spread (omega (arith, ints, p, q)))

  -- what is made by division is the value
  pub value_made : (value : Fraction) → div_of f (whole by) ≡ Ok value
      → IsReduced value (along_slope player profile (value_of x))
  value_made value e =
      let along = along_slope player profile (value_of x) in
      let one : (pos 0) <ℤ pos 1 = omega (arith, ints) in
      let p = claim.common.positive in
      let d = div_of_exact f (whole by) value above one (λ z. absurd (omega (arith, ints, p, z))) e in
      let positive = point_den game form profile valid i player is slopes (whole (pos 0)) by left right are claim x least.feasible.point in
      record {
        lowest = d.0;
        same = record {
          left = d.0.ratio.positive;
          right = positive;
          cross = turn value.num value.den along.num along.den f.num f.den by above claim.common.positive d.1 value_at.equal;
        };
      }
    where
      turn : (a b c d n m k : ℤ) → (pos 0) <ℤ m → (pos 0) <ℤ k → (a *ℤ k) *ℤ m ≡ n *ℤ (b *ℤ pos 1)
          → c *ℤ (m *ℤ k) ≡ n *ℤ d → a *ℤ d ≡ c *ℤ b
      turn a b c d n m k mp kp e g =
          let one : b *ℤ pos 1 ≡ b = omega (arith, ints) in
          let h = e ∙ ap (λ z. n *ℤ z) one in
          let p = simp spread at (ap (λ z. z *ℤ d) h) in
          let q = simp spread at (ap (λ z. z *ℤ b) g) in
          cancel (a *ℤ d) (c *ℤ b) (m *ℤ k) (mul_positive m k mp kp) (simp spread (omega (arith, ints, p, q)))

  -- what is made by adding the rest is the least cost
  pub cost_made : (value others cost : Fraction) → div_of f (whole by) ≡ Ok value
      → IsReduced others (rest player profile) → add_of value others ≡ Ok cost
      → IsLeastCostAt player i profile cost x
  cost_made value others cost e of_rest made =
      let v = value_made value e in
      let along = along_slope player profile (value_of x) in
      let r = rest player profile in
      let g = form.players i player is in
      let exact = add_of_exact value others cost v.lowest.ratio.positive of_rest.lowest.ratio.positive made in
      let sum : IsSame cost (plus value others) = record {
        left = exact.lowest.ratio.positive;
        right = mul_positive value.den others.den v.lowest.ratio.positive of_rest.lowest.ratio.positive;
        cross = exact.same;
      } in
      let parts = plus_same value others along r v.same of_rest.same in
      let whole_cost = same_through cost (plus value others) (plus along r) sum parts in
      let here = at_deviation game profile valid i player is x least.feasible g in
      let cost_is = same_through cost (plus along r) (deviation_cost player i profile x) whole_cost
      (same_sym (deviation_cost player i profile x) (plus along r) here) in
      record {
        feasible = least.feasible;
        cost_is = record { lowest = exact.lowest; same = cost_is };
        least = λ y feasible.
            let other = along_slope player profile (value_of y) in
            let there = at_deviation game profile valid i player is y feasible g in
            order_same (plus along r) (plus other r) cost (deviation_cost player i profile y)
            (same_sym cost (plus along r) whole_cost)
            (same_sym (deviation_cost player i profile y) (plus other r) there)
            (more_at_most along other r (rest_den game profile valid i player is g) (none_lower y feasible));
      }

  -- the tree that proves the aim's least value proves the claim
  pub least_proved : (value : Fraction) → div_of f (whole by) ≡ Ok value → (nodes : List NodeOf)
      → (t : TreeOf) → preorder t ≡ nodes → IsRight player (least_row (map neg_ℤ left) f) (root_leaf player) t
      → ProvesLeast player profile x nodes
  least_proved value e nodes t listed right_tree =
      let v = value_made value e in
      record {
        left = map (λ z. f.den *ℤ z) left;
        right = neg_ℤ f.num;
        claim = record {
          slopes = slopes;
          value = value;
          by = f.den *ℤ by;
          are_slopes = are;
          is_value = record { coprime = v.lowest.coprime; same = v.same };
          claim = claim_of_value slopes by left right claim f.num f.den above least.lowest.coprime value
              v.lowest.ratio.positive v.lowest.coprime (over_value value v.same);
        };
        proof = record {
          tree = t;
          listed = listed;
          right = subst (λ (b : Bound). IsRight player b (root_leaf player) t)
              (row_is slopes by left right claim f.num f.den above least.lowest.coprime value
              v.lowest.ratio.positive v.lowest.coprime (over_value value v.same)) right_tree;
        };
      }
