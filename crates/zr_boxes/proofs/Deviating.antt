-- Where the least gain of a point is above zero, the player pays less at the point than anywhere in
-- the box.
use Rattle.std.proofs.Common.{◌≡◌, ℕ, ◌<◌, ◌==◌, arith, refl, sym, ap₂, subst, ◌∙◌, ℤ, pos, ◌*ℤ◌, ◌<ℤ◌, ◌≤ℤ◌, Bool, true, false, cond, ◌||◌, IsSome, Option, Some, None, List, [], ◌∷◌, length, map, set, int_le, ◌⊎◌, ⊎_elim, inl, inr}
use Rattle.std.specs.List.{filter, list_any}
use Rattle.std.specs.Option.{unwrap_or}
use Rattle.std.proofs.lemmas.Bool.Decides.{nat_tests}
use Rattle.std.proofs.lemmas.Int.{ints}
use Rattle.std.proofs.lemmas.List.{get_or-map}
use Rattle.std.proofs.lemmas.Option.{slice_get_within}
use Rattle.zr_base.specs.Fractions.{Fraction, IsAtMost, IsLess, plus, sum_over, times, whole}
use Rattle.zr_base.specs.Points.{PointOf, num_of, value_of}
use Rattle.zr_base.specs.Terms.{Terms, coef_at}
use Rattle.zr_base.proofs.Members.{each_filter, each_of_all}
use Rattle.zr_base.proofs.Worth.{Each}
use Rattle.zr_game.specs.declared.player.CrossTerm.{CrossTerm}
use Rattle.zr_game.specs.Players.{GameOf, PlayerOf}
use Rattle.zr_game.specs.Forms.{IsCrossForm, IsGame, IsPlayer}
use Rattle.zr_game.specs.Costs.{cost_of, point_of}
use Rattle.zr_game.specs.Feasible.{IsFeasible}
use Rattle.zr_game.specs.Means.{along_slope, mean, slope}
use Rattle.zr_game.specs.Profiles.{Profile, strategy_of, surely}
use Rattle.zr_game.proofs.Items.{at_number}
use Rattle.zr_game.proofs.MeanLaws.{to_slope}
use Rattle.zr_game.proofs.PureEquilibria.{of_points}
use Rattle.zr_game.proofs.PurePoints.{AreFeasible, points_of-surely, surely_profile, surely_pure}
use Rattle.zr_boxes.specs.Boxes.{BoxOf}
use Rattle.zr_boxes.specs.Ranges.{HasRange, least_product, range_of}
use Rattle.zr_boxes.specs.Gains.{IsBounded, counts, cross_of_var, least_gain, slope_range, var_gain, way_range}
use Rattle.zr_boxes.specs.Right.{IsBetter}
use Rattle.zr_boxes.proofs.Exceeding.{Exceeds, exceeds_sum, exceeds_times, exceeds_zero, not_at_most}
use Rattle.zr_boxes.proofs.Ranged.{IsFrom, from_plus, from_sum, from_whole}

-- each player's point is within its bounds in the box
pub record AreWithin (game : GameOf) (box : BoxOf) (points : List PointOf) : Type 0 where
  pub lows : (k : ℕ) (player : PlayerOf) → IsPlayer game k player → (v : ℕ) (l : ℤ)
      → v < length player.vars → (box k).low v ≡ Some l
      → (l *ℤ (point_of points k).den) ≤ℤ num_of (point_of points k) v
  pub highs : (k : ℕ) (player : PlayerOf) → IsPlayer game k player → (v : ℕ) (h : ℤ)
      → v < length player.vars → (box k).high v ≡ Some h
      → num_of (point_of points k) v ≤ℤ (h *ℤ (point_of points k).den)

bound_is : (o : Option ℤ) → IsSome o → o ≡ Some (unwrap_or o (pos 0))
bound_is None h = absurd cc
bound_is (Some b) h = refl

-- the mean of one point
mean_from : (x : PointOf) (v : ℕ) (l h : ℤ) → (pos 0) <ℤ x.den → (l *ℤ x.den) ≤ℤ num_of x v
    → num_of x v ≤ℤ (h *ℤ x.den) → IsFrom l h (mean (surely x) v)
mean_from x v l h positive low high =
    let n : (mean (surely x) v).num ≡ num_of x v = omega (arith, ints) in
    let d : (mean (surely x) v).den ≡ x.den = omega (arith, ints) in
    record { below = rw d positive; low = rw (n, d) low; high = rw (n, d) high }

mean_positive : (x : PointOf) (v : ℕ) → (pos 0) <ℤ x.den → (pos 0) <ℤ (mean (surely x) v).den
mean_positive x v positive =
    let d : (mean (surely x) v).den ≡ x.den = omega (arith, ints) in rw d positive

at_most_or_less : (a b : ℤ) → (a ≤ℤ b) ⊎ (b <ℤ a)
at_most_or_less a b = which (int_le a b) refl
  where
    which : (t : Bool) → int_le a b ≡ t → (a ≤ℤ b) ⊎ (b <ℤ a)
    which true e = inl (omega (arith, ints, e))
    which false e = inr (omega (arith, ints, e))

-- a variable that stands in no term has the slope 0
no_own : (ts : Terms) (v : ℕ) → list_any (λ t. t.0 == v) ts ≡ false → coef_at ts v ≡ pos 0
no_own [] v e = refl
no_own (t ∷ ts) v e = on (t.0 == v) e (no_own ts v)
  where
    on : (b : Bool) → b || list_any (λ t. t.0 == v) ts ≡ false
        → (list_any (λ t. t.0 == v) ts ≡ false → coef_at ts v ≡ pos 0)
        → cond b t.1 (coef_at ts v) ≡ pos 0
    on true e rest = absurd cc
    on false e rest = rest e

no_cross : (ts : List CrossTerm) (v : ℕ) → list_any (λ t. t.own == v) ts ≡ false
    → filter (λ t. t.own == v) ts ≡ []
no_cross [] v e = refl
no_cross (t ∷ ts) v e = on (t.own == v) e (no_cross ts v)
  where
    on : (b : Bool) → b || list_any (λ t. t.own == v) ts ≡ false
        → (list_any (λ t. t.own == v) ts ≡ false → filter (λ t. t.own == v) ts ≡ [])
        → cond b (t ∷ filter (λ t. t.own == v) ts) (filter (λ t. t.own == v) ts) ≡ []
    on true e rest = absurd cc
    on false e rest = rest e

both_false : (a b : Bool) → a || b ≡ false → (a ≡ false) × (b ≡ false)
both_false true b e = absurd cc
both_false false b e = (refl, e)

one_true : (a b : Bool) → a || b ≡ true → (a ≡ true) ⊎ (b ≡ true)
one_true true b e = inl refl
one_true false b e = inr e

-- a variable that counts stands in a term
module _ {A : Type 0} (number : A → ℕ) (P : ℕ → Type 0) (v : ℕ) where
  some_term : (xs : List A) → Each (λ x. P (number x)) xs
      → list_any (λ x. number x == v) xs ≡ true → P v
  some_term [] all e = absurd cc
  some_term (x ∷ xs) all e =
      ⊎_elim (λ (h : (number x == v) ≡ true). subst P (equal (number x) h) all.0)
      (some_term xs all.1) (one_true (number x == v) (list_any (λ y. number y == v) xs) e)
    where
      equal : (n : ℕ) → (n == v) ≡ true → n ≡ v
      equal n h = grind (arith, nat_tests)

module _ (game : GameOf) (form : IsGame game) (box : BoxOf) (points : List PointOf)
    (are : AreFeasible game points) (within : AreWithin game box points) where
  -- the value of a player's variable is in its range
  value_from : (k : ℕ) (player : PlayerOf) → IsPlayer game k player → (v : ℕ)
      → v < length player.vars → HasRange box k v
      → IsFrom (range_of box k v).low (range_of box k v).high (mean (surely (point_of points k)) v)
  value_from k player is v below has =
      mean_from (point_of points k) v (range_of box k v).low (range_of box k v).high
      (are.feasible k player is).point
      (within.lows k player is v _ below (bound_is ((box k).low v) has.low))
      (within.highs k player is v _ below (bound_is ((box k).high v) has.high))

  abbrev profile : Profile
  profile = map surely points

  played : (k : ℕ) (player : PlayerOf) → IsPlayer game k player
      → strategy_of profile k ≡ surely (point_of points k)
  played k player is =
      let w = slice_get_within game k player is in
      let n = are.len in
      get_or-map surely points k (record { num = List.[]; den = pos 1 }) [] (omega (arith, w, n))

  module _ (i : ℕ) (player : PlayerOf) (is : IsPlayer game i player)
      (bounded : IsBounded player i box) where
    abbrev mean_of : CrossTerm → Fraction
    mean_of t = mean (strategy_of profile t.player) t.var

    -- a cross term's variable is one of another player, whose bounds are there
    abbrev IsRanged : CrossTerm → Type 0
    IsRanged t = IsCrossForm game i (length player.vars) t × HasRange box t.player t.var

    other_from : (t : CrossTerm) → IsRanged t
        → IsFrom (range_of box t.player t.var).low (range_of box t.player t.var).high (mean_of t)
    other_from t h =
        let other = at_number game t.player h.0.player in
        subst (λ s. IsFrom (range_of box t.player t.var).low (range_of box t.player t.var).high
        (mean s t.var)) (sym (played t.player other.0 other.1))
        (value_from t.player other.0 other.1 t.var (h.0.var other.0 other.1) h.1)

    all_ranged : Each IsRanged player.cross
    all_ranged =
        each_of_all IsRanged player.cross
        (λ k d h. ((form.players i player is).cross k d h, bounded.others k d h))

    -- the slope along v is in its range
    slope_from : (v : ℕ) → IsFrom (slope_range player box v).low (slope_range player box v).high
        (slope player profile v)
    slope_from v =
        from_plus (coef_at player.cost v) (coef_at player.cost v) _ _
        (whole (coef_at player.cost v)) _ (from_whole (coef_at player.cost v))
        (from_sum IsRanged (λ t. t.coef) (λ t. range_of box t.player t.var) mean_of other_from
        (cross_of_var player v) (each_filter IsRanged (λ t. t.own == v) player.cross all_ranged))

    module _ (x : PointOf) (feasible : IsFeasible player x) where
      abbrev at_points : ℕ → Fraction
      at_points v = times (slope player profile v) (mean (strategy_of profile i) v)

      abbrev at_point : ℕ → Fraction
      at_point v = times (slope player profile v) (value_of x v)

      counted : (v : ℕ) → counts player v ≡ true → HasRange box i v
      counted v e =
          ⊎_elim (some_term (λ t. t.0) (HasRange box i) v player.cost
          (each_of_all (λ t. HasRange box i t.0) player.cost bounded.own))
          (some_term (λ t. t.own) (HasRange box i) v player.cross
          (each_of_all (λ t. HasRange box i t.own) player.cross bounded.cross))
          (one_true (list_any (λ t. t.0 == v) player.cost)
          (list_any (λ t. t.own == v) player.cross) e)

      flat_slope : (v : ℕ) → counts player v ≡ false → (slope player profile v).num ≡ pos 0
      flat_slope v e =
          let f = both_false (list_any (λ t. t.0 == v) player.cost)
          (list_any (λ t. t.own == v) player.cross) e in
          ap₂ (λ (c : ℤ) (ts : List CrossTerm).
          (plus (whole c) (sum_over ts (λ t. times (whole t.coef) (mean_of t)))).num)
          (no_own player.cost v f.0) (no_cross player.cross v f.1) ∙ omega (arith, ints)

      by_var : (v : ℕ) → v < length player.vars
          → Exceeds x.den (var_gain player i box x v) (at_points v) (at_point v)
      by_var v below = on (counts player v) refl
        where
          value : HasRange box i v → IsFrom (range_of box i v).low (range_of box i v).high
              (mean (strategy_of profile i) v)
          value has =
              subst (λ s. IsFrom (range_of box i v).low (range_of box i v).high (mean s v))
              (sym (played i player is)) (value_from i player is v below has)

          mean_above : (pos 0) <ℤ (mean (strategy_of profile i) v).den
          mean_above =
              subst (λ s. (pos 0) <ℤ (mean s v).den) (sym (played i player is))
              (mean_positive (point_of points i) v (are.feasible i player is).point)

          on : (b : Bool) → counts player v ≡ b → Exceeds x.den
              (cond b (least_product (way_range i box x v) (slope_range player box v)) (pos 0))
              (at_points v) (at_point v)
          on true e =
              exceeds_times x.den (num_of x v) (range_of box i v) (slope_range player box v)
              (slope player profile v) (mean (strategy_of profile i) v) feasible.point
              (slope_from v) (value (counted v e))
          on false e =
              exceeds_zero x.den (num_of x v) (slope player profile v)
              (mean (strategy_of profile i) v) feasible.point (slope_from v).below mean_above
              (flat_slope v e)

      pub exceeds : Exceeds x.den (least_gain player i box x)
          (along_slope player profile (mean (strategy_of profile i)))
          (along_slope player profile (value_of x))
      exceeds =
          exceeds_sum x.den (length player.vars) (var_gain player i box x) at_points at_point by_var

  module _ (i : ℕ) (player : PlayerOf) (is : IsPlayer game i player) (x : PointOf)
      (better : IsBetter player i box x) where
    not_best : IsAtMost (cost_of player i points) (cost_of player i (set points i x)) → ⊥
    not_best h =
        let valid = surely_profile game points are in
        let pure = surely_pure points in
        let g = subst (λ ps. IsAtMost (cost_of player i ps) (cost_of player i (set ps i x)))
        (sym (points_of-surely points)) h in
        let e = of_points game profile valid pure i player is x better.feasible g in
        let s = to_slope game profile valid i player is x better.feasible (form.players i player is)
        e in
        not_at_most x.den (least_gain player i box x)
        (along_slope player profile (mean (strategy_of profile i)))
        (along_slope player profile (value_of x)) better.feasible.point better.gain
        (exceeds i player is better.bounded x better.feasible) s

    -- a better point costs less than the profile's
    pub pays_less : IsLess (cost_of player i (set points i x)) (cost_of player i points)
    pays_less =
        let p = cost_of player i points in
        let q = cost_of player i (set points i x) in
        ⊎_elim (λ (h : (p.num *ℤ q.den) ≤ℤ (q.num *ℤ p.den)). absurd (not_best h))
        (λ (h : (q.num *ℤ p.den) <ℤ (p.num *ℤ q.den)). h)
        (at_most_or_less (p.num *ℤ q.den) (q.num *ℤ p.den))
