-- The laws of means, over the definitions.
use Rattle.std.proofs.Common.{◌≡◌, ◌≢◌, ◌↔◌, ℕ, zero, suc, ◌<◌, ◌==◌, arith, refl, sym, ap, ap₂, subst, ◌∙◌, pos, ◌*ℤ◌, ◌<ℤ◌, ◌≤ℤ◌, ◌≤◌, Option, List, [], ◌∷◌, length, get_or, slice_get, Some, None, ⊎_elim, get_or-set_other, get_or-set_same, length-set}
use Rattle.std.specs.List.{filter}
use Rattle.std.specs.Option.{option_map_or}
use Rattle.std.proofs.lemmas.Int.{ints}
use Rattle.std.proofs.lemmas.Bool.{cases_eq}
use Rattle.std.proofs.lemmas.List.Elements.{All-cons, All-nil}
use Rattle.std.proofs.lemmas.Option.{slice_get_within, slice_get_cases}
use Rattle.zr_base.proofs.Divisors.{mul_positive}
use Rattle.zr_base.proofs.Members.{each_filter, each_of_all, each_weaker}
use Rattle.zr_base.proofs.Ring.{spread}
use Rattle.zr_base.proofs.SameLaws.{order_same, same_sym}
use Rattle.zr_base.proofs.Worth.{Each, le_of_times, le_times}
use Rattle.zr_base.specs.Fractions.{Fraction, IsAtMost, HaveSameCross, IsSame, plus, sum_below, sum_over, times, whole}
use Rattle.zr_base.specs.Points.{PointOf, value_of}
use Rattle.zr_base.specs.Terms.{Ascends, coef_at}
use Rattle.zr_game.specs.declared.player.CrossTerm.{CrossTerm}
use Rattle.zr_game.specs.declared.player.Other.{Other}
use Rattle.zr_game.proofs.ByMeans.{IsCross, IsFar, IsOther, by_means, expected_positive, mean_positive, rest_positive, slope_positive}
use Rattle.zr_game.proofs.TermColumns.{ascends}
use Rattle.zr_game.proofs.CommonDen.{HasDen, den_of_all, each_strategy, positive_all, shared_by_all, total_positive}
use Rattle.zr_game.specs.Costs.{other_at}
use Rattle.zr_game.specs.Equilibria.{IsEquilibrium}
use Rattle.zr_game.specs.Feasible.{IsFeasible}
use Rattle.zr_game.specs.Forms.{IsCrossForm, IsGame, IsOtherForm, IsOthersVar, IsPlayer, IsPlayerForm}
use Rattle.zr_game.specs.Means.{IsBestAlongSlope, along_slope, mean, mean_at_place, rest, slope}
use Rattle.zr_game.specs.Players.{GameOf, PlayerOf}
use Rattle.zr_game.specs.Profiles.{IsProfile, IsStrategy, Part, Profile, Strategy, deviation, expected_cost, strategy_of, surely, total}

at_index : {A : Type 0} (xs : List A) (j : ℕ) → j < length xs → (x : A) × (slice_get xs j ≡ Some x)
at_index {A} xs j h =
    ⊎_elim (λ (s : (x : A) × (j < length xs) × (slice_get xs j ≡ Some x) × (get_or xs j x ≡ x)).
    (s.0, s.2)) (λ (n : (length xs ≤ j) × (slice_get xs j ≡ None)). absurd (omega (arith, n.0)))
    (slice_get_cases xs j).1

below_den : (n : ℕ) (f : ℕ → Fraction) → ((v : ℕ) → (pos 0) <ℤ (f v).den)
    → (pos 0) <ℤ (sum_below n f).den
below_den zero f h = omega (arith, ints)
below_den (suc n) f h = mul_positive (sum_below n f).den (f n).den (below_den n f h) (h n)

below_same : (n : ℕ) (f g : ℕ → Fraction) → ((v : ℕ) → f v ≡ g v) → sum_below n f ≡ sum_below n g
below_same zero f g h = refl
below_same (suc n) f g h = ap₂ plus (below_same n f g h) (h n)

over_same : {A : Type 0} (P : A → Type 0) (xs : List A) (f g : A → Fraction)
    → ((x : A) → P x → f x ≡ g x) → Each P xs → sum_over xs f ≡ sum_over xs g
over_same P [] f g h all = refl
over_same P (x ∷ xs) f g h all = ap₂ plus (h x all.0) (over_same P xs f g h all.1)

-- the same added to both changes no comparison
module _ (a b r : Fraction) (positive : (pos 0) <ℤ r.den) where
  square : (pos 0) <ℤ (r.den *ℤ r.den)
  square = mul_positive r.den r.den positive positive

  more_at_most : IsAtMost a b → IsAtMost (plus a r) (plus b r)
  more_at_most h =
      let m = simp spread at (le_times (a.num *ℤ b.den) (b.num *ℤ a.den) (r.den *ℤ r.den) square h)
      in
      simp spread (omega (arith, ints, m))

  less_at_most : IsAtMost (plus a r) (plus b r) → IsAtMost a b
  less_at_most h =
      let m = simp spread at h in
      le_of_times (a.num *ℤ b.den) (b.num *ℤ a.den) (r.den *ℤ r.den) square
      (simp spread (omega (arith, ints, m)))

-- a term in the others' variables, where these have equal values
other_equal : (f g : ℕ × ℕ → Fraction) (t : Other) → f t.first ≡ g t.first
    → ((at : ℕ × ℕ) → t.second ≡ Some at → f at ≡ g at) → other_at f t ≡ other_at g t
other_equal f g t first second = on t.second second
  where
    one : times (whole t.coef) (f t.first) ≡ times (whole t.coef) (g t.first)
    one = ap (times (whole t.coef)) first

    on : (o : Option (ℕ × ℕ)) → ((at : ℕ × ℕ) → o ≡ Some at → f at ≡ g at)
        → option_map_or (λ at. times (times (whole t.coef) (f t.first)) (f at)) o
        (times (whole t.coef) (f t.first)) ≡ option_map_or
        (λ at. times (times (whole t.coef) (g t.first)) (g at)) o (times (whole t.coef) (g t.first))
    on None h = one
    on (Some at) h = ap₂ times one (h at refl)

mean_surely : (x : PointOf) (v : ℕ) → HaveSameCross (mean (surely x) v) (value_of x v)
mean_surely x v =
    let n : (mean (surely x) v).num ≡ (value_of x v).num = omega (arith, ints) in
    let d : (mean (surely x) v).den ≡ (value_of x v).den = omega (arith, ints) in
    ap₂ ◌*ℤ◌ n (sym d)

pub surely_valid : (player : PlayerOf) (x : PointOf) → IsFeasible player x
    → IsStrategy player (surely x)
surely_valid player x f = record {
  some = omega arith;
  weights = All-cons (λ (part : Part). (pos 1) ≤ℤ part.weight)
      (record { weight = pos 1; point = x }) [] (omega (arith, ints))
      (All-nil (λ (part : Part). (pos 1) ≤ℤ part.weight));
  points = All-cons (λ (part : Part). IsFeasible player part.point)
      (record { weight = pos 1; point = x }) [] f
      (All-nil (λ (part : Part). IsFeasible player part.point));
}

module _ (game : GameOf) (profile : Profile) (valid : IsProfile game profile) where
  strategy_is : (P : Strategy → Type 0) → ((player : PlayerOf) (parts : Strategy)
      → IsStrategy player parts → P parts) → (j : ℕ) → j < length profile
      → P (strategy_of profile j)
  strategy_is P h j below =
      let len = valid.len in
      let found = at_index game j (omega arith) in
      h found.0 (strategy_of profile j) (valid.strategies j found.0 found.1)

  pub full : (j : ℕ) → j < length profile → (pos 0) <ℤ total (strategy_of profile j)
  full =
      strategy_is (λ parts. (pos 0) <ℤ total parts)
      (λ player parts s. total_positive parts s.some
      (each_of_all (λ part. (pos 1) ≤ℤ part.weight) parts s.weights))

  dens : Each (Each HasDen) profile
  dens =
      each_strategy (Each HasDen) profile (strategy_is (Each HasDen)
      (λ player parts s. each_weaker (λ part. IsFeasible player part.point) HasDen parts
      (λ part f. f.point) (each_of_all (λ part. IsFeasible player part.point) parts s.points)))

  module _ (i : ℕ) (player : PlayerOf) (is : IsPlayer game i player) where
    here : i < length profile
    here = let w = slice_get_within game i player is in let len = valid.len in omega arith

  module _ (i : ℕ) (player : PlayerOf) (is : IsPlayer game i player)
      (form : IsPlayerForm game i player) where
    cross_form : Each (IsCross i (length player.vars) (length profile)) player.cross
    cross_form =
        let Form = IsCrossForm game i (length player.vars) in
        let of = λ (t : CrossTerm) (f : IsCrossForm game i (length player.vars) t). cross_of t f in
        each_weaker Form (IsCross i (length player.vars) (length profile)) player.cross of
        (each_of_all Form player.cross form.cross)
      where
        cross_of : (t : CrossTerm) → IsCrossForm game i (length player.vars) t
            → IsCross i (length player.vars) (length profile) t
        cross_of t f = record {
          own = f.own;
          player = subst (λ n. t.player < n) (sym valid.len) f.player;
          apart = f.other;
        }

    other_form : Each (IsOther i (length profile)) player.others
    other_form =
        each_weaker (IsOtherForm game i) (IsOther i (length profile)) player.others other_of
        (each_of_all (IsOtherForm game i) player.others form.others)
      where
        far : (at : ℕ × ℕ) → IsOthersVar game i at → IsFar i (length profile) at
        far at f = record {
          player = subst (λ n. at.0 < n) (sym valid.len) f.player;
          apart = f.other;
        }

        other_of : (t : Other) → IsOtherForm game i t → IsOther i (length profile) t
        other_of t f = record {
          first = far t.first f.first;
          second = λ at e. far at (f.second at e).1;
          apart = λ at e same. let below = (f.second at e).0 in omega (arith, below, same);
        }

    cost_form : Ascends 0 (length player.vars) player.cost
    cost_form = ascends player.cost 0 (length player.vars) form.cost

    pub along : (f : ℕ → Fraction) → ((v : ℕ) → v < length player.vars → (pos 0) <ℤ (f v).den)
        → ((v : ℕ) → v < length player.vars → HaveSameCross (mean (strategy_of profile i) v) (f v))
        → IsSame (expected_cost player i profile)
        (plus (along_slope player profile f) (rest player profile))
    along f positive same =
        by_means player i (length player.vars) profile (den_of_all profile)
        (positive_all profile dens) (shared_by_all profile dens) full (here i player is)
        cost_form cross_form other_form f positive same

    pub mean_den : (v : ℕ) → (pos 0) <ℤ (mean (strategy_of profile i) v).den
    mean_den v =
        mean_positive player i (length player.vars) profile (den_of_all profile)
        (positive_all profile dens) (shared_by_all profile dens) full (here i player is)
        cost_form cross_form other_form i v (here i player is)

    pub slope_den : (v : ℕ) → (pos 0) <ℤ (slope player profile v).den
    slope_den v =
        slope_positive player i (length player.vars) profile (den_of_all profile)
        (positive_all profile dens) (shared_by_all profile dens) full (here i player is)
        cost_form cross_form other_form v

    pub rest_den : (pos 0) <ℤ (rest player profile).den
    rest_den =
        rest_positive player i (length player.vars) profile (den_of_all profile)
        (positive_all profile dens) (shared_by_all profile dens) full (here i player is)
        cost_form cross_form other_form

    pub at_mean : IsSame (expected_cost player i profile)
        (plus (along_slope player profile (mean (strategy_of profile i))) (rest player profile))
    at_mean = along (mean (strategy_of profile i)) (λ v h. mean_den v) (λ v h. refl)

    pub expected_den : (pos 0) <ℤ (expected_cost player i profile).den
    expected_den =
        expected_positive player i (length player.vars) profile (den_of_all profile)
        (positive_all profile dens) (shared_by_all profile dens) full (here i player is)
        cost_form cross_form other_form

    pub along_den : (f : ℕ → Fraction) → ((v : ℕ) → (pos 0) <ℤ (f v).den)
        → (pos 0) <ℤ (along_slope player profile f).den
    along_den f positive =
        below_den (length player.vars) (λ v. times (slope player profile v) (f v))
        (λ v. mul_positive (slope player profile v).den (f v).den (slope_den v) (positive v))

module _ (game : GameOf) (profile : Profile) (valid : IsProfile game profile) (i : ℕ)
    (player : PlayerOf) (is : IsPlayer game i player) (x : PointOf) (feasible : IsFeasible player x)
  where
    replaced : strategy_of (deviation profile i x) i ≡ surely x
    replaced = get_or-set_same profile i (surely x) [] (here game profile valid i player is)

    others : (k : ℕ) → k ≢ i → strategy_of (deviation profile i x) k ≡ strategy_of profile k
    others k n = get_or-set_other profile i k (surely x) [] n

    pub deviation_valid : IsProfile game (deviation profile i x)
    deviation_valid = record {
      len = length-set profile i (surely x) ∙ valid.len;
      strategies = λ k other is_other. ⊎_elim (λ (e : k ≡ i).
          subst (λ j. IsStrategy other (strategy_of (deviation profile i x) j)) (sym e)
          (subst (λ s. IsStrategy other s) (sym replaced)
          (surely_valid other x
          (subst (λ p. IsFeasible p x) (same_player k other e is_other) feasible))))
          (λ (n : k ≢ i). subst (λ s. IsStrategy other s) (sym (others k n))
          (valid.strategies k other is_other)) (cases_eq k i);
    }
      where
        same_player : (k : ℕ) (other : PlayerOf) → k ≡ i → IsPlayer game k other → player ≡ other
        same_player k other e is_other = cc

    module _ (form : IsPlayerForm game i player) where
      slope_same : (v : ℕ) → slope player (deviation profile i x) v ≡ slope player profile v
      slope_same v =
          let Cross = IsCross i (length player.vars) (length profile) in
          let ts = filter (λ t. t.own == v) player.cross in
          let f = λ (t : CrossTerm). times (whole t.coef)
          (mean (strategy_of (deviation profile i x) t.player) t.var) in
          let g = λ (t : CrossTerm). times (whole t.coef) (mean (strategy_of profile t.player) t.var)
          in
          let kept = λ (t : CrossTerm) (form : IsCross i (length player.vars) (length profile) t).
          ap (λ s. times (whole t.coef) (mean s t.var)) (others t.player form.apart) in
          let all = each_filter Cross (λ t. t.own == v) player.cross
          (cross_form game profile valid i player is form) in
          ap (plus (whole (coef_at player.cost v))) (over_same Cross ts f g kept all)

      along_same : (f : ℕ → Fraction)
          → along_slope player (deviation profile i x) f ≡ along_slope player profile f
      along_same f =
          below_same (length player.vars) (λ v. times (slope player (deviation profile i x) v) (f v))
          (λ v. times (slope player profile v) (f v))
          (λ v. ap (λ s. times s (f v)) (slope_same v))

      rest_kept : rest player (deviation profile i x) ≡ rest player profile
      rest_kept =
          let f = mean_at_place (deviation profile i x) in
          let g = mean_at_place profile in
          over_same (IsOther i (length profile)) player.others (other_at f) (other_at g)
          (λ t form. other_equal f g t (far t.first form.first)
          (λ at e. far at (form.second at e))) (other_form game profile valid i player is form)
        where
          far : (at : ℕ × ℕ) → IsFar i (length profile) at
              → mean_at_place (deviation profile i x) at ≡ mean_at_place profile at
          far at f = ap (λ s. mean s at.1) (others at.0 f.apart)

      pub at_deviation : IsSame (expected_cost player i (deviation profile i x))
          (plus (along_slope player profile (value_of x)) (rest player profile))
      at_deviation =
          let dev = deviation profile i x in
          let cost = expected_cost player i dev in
          let to_value = λ (v : ℕ) (h : v < length player.vars).
          subst (λ s. HaveSameCross (mean s v) (value_of x v)) (sym replaced) (mean_surely x v) in
          let by = along game dev deviation_valid i player is form (value_of x)
          (λ v h. feasible.point) to_value in
          subst (λ r. IsSame cost (plus (along_slope player profile (value_of x)) r)) rest_kept
          (subst (λ a. IsSame cost (plus a (rest player dev))) (along_same (value_of x)) by)

      rest_above : (pos 0) <ℤ (rest player profile).den
      rest_above = rest_den game profile valid i player is form

      pub to_slope : IsAtMost (expected_cost player i profile)
          (expected_cost player i (deviation profile i x))
          → IsAtMost (along_slope player profile (mean (strategy_of profile i)))
          (along_slope player profile (value_of x))
      to_slope h =
          let own = along_slope player profile (mean (strategy_of profile i)) in
          let other = along_slope player profile (value_of x) in
          let r = rest player profile in
          let here = at_mean game profile valid i player is form in
          less_at_most own other r rest_above (order_same (expected_cost player i profile)
          (expected_cost player i (deviation profile i x)) (plus own r) (plus other r) here
          at_deviation h)

      pub of_slope : IsAtMost (along_slope player profile (mean (strategy_of profile i)))
          (along_slope player profile (value_of x))
          → IsAtMost (expected_cost player i profile) (expected_cost player i (deviation profile i x))
      of_slope h =
          let own = along_slope player profile (mean (strategy_of profile i)) in
          let other = along_slope player profile (value_of x) in
          let r = rest player profile in
          let before = expected_cost player i profile in
          let after = expected_cost player i (deviation profile i x) in
          let here = same_sym before (plus own r) (at_mean game profile valid i player is form) in
          let there = same_sym after (plus other r) at_deviation in
          order_same (plus own r) (plus other r) before after here there
          (more_at_most own other r rest_above h)

pub equilibria : (game : GameOf) → IsGame game → (profile : Profile) → IsProfile game profile
    → IsEquilibrium game profile ↔ IsBestAlongSlope game profile
equilibria game form profile valid = (
  λ e i player is x feasible. to_slope game profile valid i player is x feasible
      (form.players i player is) (e.stable i player is x feasible),
  λ b. record {
    valid = valid;
    stable = λ i player is x feasible. of_slope game profile valid i player is x feasible
        (form.players i player is) (b i player is x feasible);
  },
)
