-- At an equilibrium the least value along a player's aim is that of its strategy's mean.
use Rattle.std.proofs.Common.{◌≡◌, ℕ, zero, suc, ◌<◌, arith, refl, sym, ap, subst, ◌∙◌, ℤ, pos, negsuc, neg_ℤ, int_div, [], ◌∷◌, ◌*ℤ◌, ◌<ℤ◌, ◌≤ℤ◌, List, map, length, slice_index_or}
use Rattle.std.proofs.lemmas.Int.{ints}
use Rattle.std.proofs.Math.IntN.{*ℤ_comm}
use Rattle.zr_base.specs.Fractions.{Fraction, HaveSameCross, times, whole}
use Rattle.zr_base.specs.Points.{PointOf, num_of, value_of}
use Rattle.zr_base.specs.Sums.{sum_to}
use Rattle.zr_base.proofs.Dense.{sum_to-mul, sum_to_same}
use Rattle.zr_base.proofs.Divisors.{cancel, mul_positive, positive_factor}
use Rattle.zr_base.proofs.Members.{each_of_all, each_weaker}
use Rattle.zr_base.proofs.Ring.{neg-mul_left, spread}
use Rattle.zr_base.proofs.Sames.{same_record}
use Rattle.zr_base.proofs.Worth.{Each, Worth, le_of_times, le_times, worth-below, worth-over, worth-times, worth-wider, worth_of_same}
use Rattle.zr_game.specs.Equilibria.{IsEquilibrium}
use Rattle.zr_game.specs.Feasible.{IsFeasible}
use Rattle.zr_game.specs.Forms.{IsGame, IsPlayer}
use Rattle.zr_game.specs.Leaves.{bound_with}
use Rattle.zr_game.specs.Means.{along_slope, mean, slope}
use Rattle.zr_game.specs.Players.{GameOf, PlayerOf}
use Rattle.zr_game.specs.Profiles.{Part, Profile, strategy_of, total, weighted}
use Rattle.zr_game.proofs.CommonDen.{HasDen, den_of_all, positive_all, shared_by_all, total_positive}
use Rattle.zr_game.proofs.MeanLaws.{along_den, mean_den, slope_den}
use Rattle.zr_game.proofs.Shared.{AreShared, Shares, num_over, worth-value, worth-weighted}
use Rattle.zr_game.proofs.Tuples.{weigh, weigh-constant, weigh-mul}
use Rattle.zr_simplex.specs.Programs.{numbers}
use Rattle.zr_branch.specs.Values.{IsNotBelow, aim_value}
use Rattle.zr_bnb.specs.Values.{IsLeastAt, least_row}
use Rattle.zr_mix.specs.Checks.{IsClaimOf}
use Rattle.zr_mix.specs.Values.{item_of}
use Rattle.zr_mix.proofs.Checking.{needed}
use Rattle.zr_costs.proofs.Averages.{exchanged, weigh_le}
use Rattle.zr_costs.proofs.Coprime.{whole_den}

pub numbers_turned : (left : List ℤ) (j : ℕ) → numbers (map neg_ℤ left) j ≡ neg_ℤ (numbers left j)
numbers_turned [] j = refl
numbers_turned (z ∷ left) zero = refl
numbers_turned (z ∷ left) (suc j) = numbers_turned left j

-- the row of a least value that is the claim's
pub row_is : (left : List ℤ) (right : ℤ)
    → least_row (map neg_ℤ left) (whole (neg_ℤ right)) ≡ bound_with left right
row_is left right = λ k. record { coef = λ j. coef j k; le = le k }
  where
    turned : (a l : ℤ) → a ≡ neg_ℤ l → neg_ℤ (pos 1 *ℤ a) ≡ l
    turned a l e = omega (arith, ints, e)

    coef : (j : ℕ) → neg_ℤ (pos 1 *ℤ numbers (map neg_ℤ left) j) ≡ slice_index_or left j (pos 0)
    coef j = turned (numbers (map neg_ℤ left) j) (numbers left j) (numbers_turned left j)

    le : neg_ℤ (neg_ℤ right) ≡ right
    le = omega (arith, ints)

claim_worth : (d n : ℤ) (f : Fraction) → (pos 0) <ℤ f.den
    → HaveSameCross (times (whole d) f) (whole n) → Worth d f n
claim_worth d n f positive e =
    let one : pos 1 *ℤ f.den ≡ f.den = omega (arith, ints) in
    let s = *ℤ_comm d f.num in
    record { below = positive; equal = sym s ∙ omega (arith, ints, e) ∙ ap (λ z. n *ℤ z) one }

-- over one denominator a fraction has one numerator
worth_once : (d : ℤ) (f : Fraction) (n m : ℤ) → Worth d f n → Worth d f m → n ≡ m
worth_once d f n m p q = cancel n m f.den p.below (sym p.equal ∙ q.equal)

-- ---- plain numbers

over_more : (m n s q den : ℤ) → (pos 0) <ℤ q → (n *ℤ den) ≤ℤ (m *ℤ s)
    → (n *ℤ (q *ℤ den)) ≤ℤ ((q *ℤ s) *ℤ m)
over_more m n s q den positive h =
    let l = simp spread at (le_times (n *ℤ den) (m *ℤ s) q positive h) in
    simp spread (omega (arith, ints, l))

from_average : (n r m d t : ℤ) → (pos 0) <ℤ (d *ℤ t)
    → (t *ℤ (n *ℤ d)) ≤ℤ ((neg_ℤ r *ℤ (d *ℤ t)) *ℤ m) → n ≤ℤ (neg_ℤ r *ℤ m)
from_average n r m d t positive h =
    le_of_times n (neg_ℤ r *ℤ m) (d *ℤ t) positive
    (let l = simp spread at h in simp spread (omega (arith, ints, l)))

from_point : (n r m b a den : ℤ) → (pos 0) <ℤ den → (pos 0) <ℤ m → b ≤ℤ (r *ℤ den)
    → a ≡ negsuc 0 *ℤ b → n *ℤ den ≡ m *ℤ a → (neg_ℤ r *ℤ m) ≤ℤ n
from_point n r m b a den positive above h turn same =
    let one : negsuc 0 *ℤ b ≡ neg_ℤ b = omega (arith, ints) in
    let c = turn ∙ one in
    let l = simp spread at (le_times b (r *ℤ den) m above h) in
    let e = simp spread at (same ∙ ap (λ z. m *ℤ z) c) in
    le_of_times (neg_ℤ r *ℤ m) n den positive (simp spread (omega (arith, ints, l, e)))

both : {A : Type 0} (P Q : A → Type 0) (xs : List A) → Each P xs → Each Q xs
    → Each (λ x. P x × Q x) xs
both P Q [] a b = tt
both P Q (x ∷ xs) a b = ((a.0, b.0), both P Q xs a.1 b.1)

-- what a part of a strategy is
abbrev IsPartOf : PlayerOf → ℤ → Part → Type 0
IsPartOf player d part =
    ((pos 1) ≤ℤ part.weight) × (IsFeasible player part.point × Shares d part.point)

module _ (game : GameOf) (form : IsGame game) (profile : Profile)
    (equilibrium : IsEquilibrium game profile) (i : ℕ) (player : PlayerOf)
    (is : IsPlayer game i player) (left : List ℤ) (right : ℤ)
    (claim : IsClaimOf player i profile left right) where
  own_den : (pos 0) <ℤ (along_slope player profile (mean (strategy_of profile i))).den
  own_den =
      along_den game profile equilibrium.valid i player is (form.players i player is)
      (mean (strategy_of profile i))
      (mean_den game profile equilibrium.valid i player is (form.players i player is))

  slope_worth : (v : ℕ) → v < length player.vars
      → Worth claim.by (slope player profile v) (numbers (map neg_ℤ left) v)
  slope_worth v h =
      let s = claim.are_slopes.each v h in
      let len = claim.are_slopes.len in
      subst (Worth claim.by (slope player profile v)) (sym (numbers_turned left v))
      (worth_of_same claim.by (item_of claim.slopes v) (slope player profile v)
      (neg_ℤ (numbers left v))
      (slope_den game profile equilibrium.valid i player is (form.players i player is) v)
      s.same.cross (claim_worth claim.by (neg_ℤ (numbers left v)) (item_of claim.slopes v)
      s.same.left (claim.claim.lefts v (omega (arith, h, len))).cross))

  at_own : (e : ℤ) → Worth (claim.by *ℤ e)
      (along_slope player profile (mean (strategy_of profile i))) (neg_ℤ right *ℤ e)
  at_own e =
      worth-wider claim.by e (along_slope player profile (mean (strategy_of profile i)))
      (neg_ℤ right) (worth_of_same claim.by claim.value
      (along_slope player profile (mean (strategy_of profile i))) (neg_ℤ right) own_den
      claim.is_value.same.cross (claim_worth claim.by (neg_ℤ right) claim.value
      claim.is_value.same.left claim.claim.rights.cross))

  -- the aim's value at a point, over d
  abbrev value_over : ℤ → PointOf → ℤ
  value_over d x = sum_to (length player.vars) (λ v. numbers (map neg_ℤ left) v *ℤ num_over d x v)

  module _ (d : ℤ) (positive : (pos 0) <ℤ total (strategy_of profile i))
      (shared : AreShared d (strategy_of profile i)) where
    at_mean : (v : ℕ) → Worth (d *ℤ total (strategy_of profile i)) (mean (strategy_of profile i) v)
        (weigh (strategy_of profile i) (λ x. num_over d x v))
    at_mean v =
        worth-over d (total (strategy_of profile i))
        (weighted (strategy_of profile i) (λ x. value_of x v))
        (weigh (strategy_of profile i) (λ x. num_over d x v)) positive
        (worth-weighted d d (strategy_of profile i) (λ x. value_of x v) (λ x. num_over d x v)
        (λ x o. worth-value d x v o) shared)

    by_parts : Worth (claim.by *ℤ (d *ℤ total (strategy_of profile i)))
        (along_slope player profile (mean (strategy_of profile i)))
        (sum_to (length player.vars) (λ v. numbers (map neg_ℤ left) v
        *ℤ weigh (strategy_of profile i) (λ x. num_over d x v)))
    by_parts =
        worth-below (claim.by *ℤ (d *ℤ total (strategy_of profile i))) (length player.vars)
        (λ v. times (slope player profile v) (mean (strategy_of profile i) v))
        (λ v. numbers (map neg_ℤ left) v *ℤ weigh (strategy_of profile i) (λ x. num_over d x v))
        (λ v h. worth-times claim.by (d *ℤ total (strategy_of profile i)) (slope player profile v)
        (mean (strategy_of profile i) v) (numbers (map neg_ℤ left) v)
        (weigh (strategy_of profile i) (λ x. num_over d x v)) (slope_worth v h) (at_mean v))

    -- the parts' sum of the aim's values is the claim's right side with its sign turned
    averaged : neg_ℤ right *ℤ (d *ℤ total (strategy_of profile i))
        ≡ weigh (strategy_of profile i) (λ x. value_over d x)
    averaged =
        worth_once (claim.by *ℤ (d *ℤ total (strategy_of profile i)))
        (along_slope player profile (mean (strategy_of profile i))) _ _
        (at_own (d *ℤ total (strategy_of profile i))) by_parts
        ∙ exchanged (length player.vars) (λ v. numbers (map neg_ℤ left) v) (strategy_of profile i)
        (num_over d)

  over_value : (d : ℤ) (x : PointOf)
      → value_over d x ≡ int_div d x.den *ℤ aim_value player (map neg_ℤ left) (num_of x)
  over_value d x =
      sum_to_same (length player.vars) (λ v. numbers (map neg_ℤ left) v *ℤ num_over d x v)
      (λ v. int_div d x.den *ℤ (numbers (map neg_ℤ left) v *ℤ num_of x v))
      (λ v h. moved (numbers (map neg_ℤ left) v) (num_of x v) (int_div d x.den))
      ∙ sum_to-mul (length player.vars) (int_div d x.den)
      (λ v. numbers (map neg_ℤ left) v *ℤ num_of x v)
    where
      moved : (l k q : ℤ) → l *ℤ (k *ℤ q) ≡ q *ℤ (l *ℤ k)
      moved l k q = simp spread refl

  -- the aim's value at a point is the claim's left side with its sign turned
  pub aim_is : (x : PointOf) → aim_value player (map neg_ℤ left) (num_of x)
      ≡ negsuc 0 *ℤ sum_to (length player.vars) (λ j. slice_index_or left j (pos 0) *ℤ num_of x j)
  aim_is x =
      sum_to_same (length player.vars) (λ j. numbers (map neg_ℤ left) j *ℤ num_of x j)
      (λ j. negsuc 0 *ℤ (slice_index_or left j (pos 0) *ℤ num_of x j))
      (λ j h. ap (λ z. z *ℤ num_of x j) (numbers_turned left j)
      ∙ turned (numbers left j) (num_of x j))
      ∙ sum_to-mul (length player.vars) (negsuc 0)
      (λ j. slice_index_or left j (pos 0) *ℤ num_of x j)
    where
      turned : (a b : ℤ) → neg_ℤ a *ℤ b ≡ negsuc 0 *ℤ (a *ℤ b)
      turned a b = neg-mul_left a b ∙ omega (arith, ints)

  module _ (f : Fraction) (point : PointOf)
      (least : IsLeastAt player (map neg_ℤ left) f point) where
    at_part : (d : ℤ) (x : PointOf) → (pos 0) <ℤ d → Shares d x
        → IsNotBelow player (map neg_ℤ left) f x → (f.num *ℤ d) ≤ℤ (value_over d x *ℤ f.den)
    at_part d x positive shares holds =
        let q = positive_factor (int_div d x.den) x.den
        (subst (λ z. (pos 0) <ℤ z) (sym shares.exact) positive) shares.below in
        let r = over_more f.den f.num (aim_value player (map neg_ℤ left) (num_of x))
        (int_div d x.den) x.den q holds in
        let s = subst (λ z. (f.num *ℤ z) ≤ℤ
        ((int_div d x.den *ℤ aim_value player (map neg_ℤ left) (num_of x)) *ℤ f.den))
        shares.exact r in
        subst (λ z. (f.num *ℤ d) ≤ℤ (z *ℤ f.den)) (sym (over_value d x)) s

    weights : Each (λ (part : Part). (pos 1) ≤ℤ part.weight) (strategy_of profile i)
    weights =
        each_of_all (λ (part : Part). (pos 1) ≤ℤ part.weight) (strategy_of profile i)
        (equilibrium.valid.strategies i player is).weights

    points : Each (λ (part : Part). IsFeasible player part.point) (strategy_of profile i)
    points =
        each_of_all (λ (part : Part). IsFeasible player part.point) (strategy_of profile i)
        (equilibrium.valid.strategies i player is).points

    dens : Each (Each HasDen) (strategy_of profile i ∷ [])
    dens = (
      each_weaker (λ (part : Part). IsFeasible player part.point) HasDen (strategy_of profile i)
          (λ part f. f.point) points,
      tt,
    )

    abbrev d : ℤ
    d = den_of_all (strategy_of profile i ∷ [])

    d_positive : (pos 0) <ℤ den_of_all (strategy_of profile i ∷ [])
    d_positive = positive_all (strategy_of profile i ∷ []) dens

    shared : AreShared (den_of_all (strategy_of profile i ∷ [])) (strategy_of profile i)
    shared = (shared_by_all (strategy_of profile i ∷ []) dens).0

    t_positive : (pos 0) <ℤ total (strategy_of profile i)
    t_positive =
        total_positive (strategy_of profile i) (equilibrium.valid.strategies i player is).some
        weights

    summed : weigh (strategy_of profile i) (λ x. f.num *ℤ d)
        ≤ℤ weigh (strategy_of profile i) (λ x. value_over d x *ℤ f.den)
    summed =
        weigh_le (IsPartOf player d) (strategy_of profile i) (λ x. f.num *ℤ d)
        (λ x. value_over d x *ℤ f.den)
        (λ part p. (p.0, at_part d part.point d_positive p.1.1 (least.least part.point p.1.0)))
        (both (λ (part : Part). (pos 1) ≤ℤ part.weight)
        (λ (part : Part). IsFeasible player part.point × Shares d part.point)
        (strategy_of profile i) weights
        (both (λ (part : Part). IsFeasible player part.point) (λ (part : Part). Shares d part.point)
        (strategy_of profile i) points shared))

    above : f.num ≤ℤ (neg_ℤ right *ℤ f.den)
    above =
        let t = total (strategy_of profile i) in
        let e = weigh-constant (strategy_of profile i) (f.num *ℤ d) in
        let g = weigh-mul (strategy_of profile i) f.den (λ x. value_over d x)
        ∙ ap (λ z. z *ℤ f.den) (sym (averaged d t_positive shared)) in
        from_average f.num right f.den d t (mul_positive d t d_positive t_positive)
        (subst (λ z. z ≤ℤ ((neg_ℤ right *ℤ (d *ℤ t)) *ℤ f.den)) e
        (subst (λ z. weigh (strategy_of profile i) (λ x. f.num *ℤ d) ≤ℤ z) g summed))

    den_positive : (pos 0) <ℤ f.den
    den_positive = least.lowest.ratio.positive

    below : (neg_ℤ right *ℤ f.den) ≤ℤ f.num
    below =
        from_point f.num right f.den
        (sum_to (length player.vars) (λ j. slice_index_or left j (pos 0) *ℤ num_of point j))
        (aim_value player (map neg_ℤ left) (num_of point)) point.den least.feasible.point
        den_positive
        (needed game form profile equilibrium i player is left right claim point least.feasible)
        (aim_is point) least.value

    exactly : f.num ≡ neg_ℤ right *ℤ f.den
    exactly = let a = above in let b = below in omega (arith, ints, a, b)

    -- the least value is the claim's right side with its sign turned
    pub whole_least : f ≡ whole (neg_ℤ right)
    whole_least =
        let one = whole_den f.num f.den (neg_ℤ right) den_positive exactly least.lowest.coprime in
        let n = exactly ∙ ap (λ z. neg_ℤ right *ℤ z) one in
        let by : neg_ℤ right *ℤ pos 1 ≡ neg_ℤ right = omega (arith, ints) in
        same_record f (whole (neg_ℤ right)) (n ∙ by) one
