-- An expected cost goes by means: over a denominator that all points share.
use Rattle.std.proofs.Common.{◌≡◌, ◌≢◌, ℕ, zero, suc, ◌<◌, ◌==◌, arith, refl, sym, ap, ap₂, subst, ◌∙◌, ℤ, pos, ◌+ℤ◌, ◌*ℤ◌, ◌<ℤ◌, Option, Some, None, List, [], ◌∷◌, length}
use Rattle.std.specs.List.{filter}
use Rattle.std.specs.Option.{ForSome, option_map_or}
use Rattle.std.proofs.lemmas.Int.{ints}
use Rattle.zr_base.proofs.Dense.{sum_to-add, sum_to_same}
use Rattle.zr_base.proofs.Divisors.{cancel, mul_positive}
use Rattle.zr_base.proofs.Members.{each_filter, each_weaker}
use Rattle.zr_base.proofs.Ring.{mul-add_right, mul_assoc, spread}
use Rattle.zr_base.proofs.Worth.{Each, Worth, sum_list, worth-below, worth-multiple, worth-over, worth-plus, worth-rescale, worth-same, worth-sum, worth-times, worth-whole, worth_of_same}
use Rattle.zr_base.specs.Fractions.{Fraction, HaveSameCross, IsSame, plus, sum_below, times, whole}
use Rattle.zr_base.specs.Points.{PointOf, value_of}
use Rattle.zr_base.specs.Sums.{sum_to}
use Rattle.zr_base.specs.Terms.{Ascends, coef_at}
use Rattle.zr_game.proofs.Columns.{cross_columns, own_columns}
use Rattle.zr_game.proofs.Shared.{AreShared, cost_num, cross_nums, num_over, other_num, other_nums, own_nums, place_num, shared_strategy, worth-cost, worth-other, worth-tuples, worth-value, worth-weighted}
use Rattle.zr_game.proofs.Tuples.{alone, apart, sum_list-mul, sum_list_same, tuples, tuples-add, tuples-mul, tuples-sum, tuples_same, weigh}
use Rattle.zr_game.specs.Costs.{cost_of, other_at, point_of}
use Rattle.zr_game.specs.Means.{mean, mean_at_place, rest, slope}
use Rattle.zr_game.specs.Players.{PlayerOf}
use Rattle.zr_game.specs.Profiles.{Profile, expected_cost, strategy_of, total, totals, tuple_sum, weighted}
use Rattle.zr_game.specs.declared.player.CrossTerm.{CrossTerm}
use Rattle.zr_game.specs.declared.player.Other.{Other}

-- a cross term of player i
pub record IsCross (i columns players : ℕ) (t : CrossTerm) : Type 0 where
  pub own : t.own < columns
  pub player : t.player < players
  pub apart : t.player ≢ i

-- a variable of another player than i
pub record IsFar (i players : ℕ) (at : ℕ × ℕ) : Type 0 where
  pub player : at.0 < players
  pub apart : at.0 ≢ i

-- a term of player i in the others' variables alone
pub record IsOther (i players : ℕ) (t : Other) : Type 0 where
  pub first : IsFar i players t.first
  pub second : ForSome t.second (IsFar i players)
  pub apart : ForSome t.second (λ at. t.first.0 ≢ at.0)

pub totals_positive : (profile : Profile) → ((j : ℕ) → j < length profile
    → (pos 0) <ℤ total (strategy_of profile j)) → (pos 0) <ℤ totals profile
totals_positive [] h = omega (arith, ints)
totals_positive (s ∷ ss) h =
    mul_positive (total s) (totals ss) (h zero (omega arith))
    (totals_positive ss (λ j p. h (suc j) (omega arith)))

swap_scale : (a b c e d : ℤ) → a *ℤ c ≡ b *ℤ e → b *ℤ (d *ℤ e) ≡ a *ℤ (d *ℤ c)
swap_scale a b c e d h = let m = simp spread at (ap (λ x. d *ℤ x) h) in
    simp spread (omega (arith, ints, m))

-- a product of two sums, each of which is known times a total
independent : (p ei ej ti tj wi wj t : ℤ) → (pos 0) <ℤ (ti *ℤ tj) → ei *ℤ ti ≡ wi *ℤ t
    → ej *ℤ tj ≡ wj *ℤ t → p *ℤ (ti *ℤ tj) ≡ (wi *ℤ wj) *ℤ t → p *ℤ t ≡ ei *ℤ ej
independent p ei ej ti tj wi wj t positive a b c =
    let m = simp spread at (ap₂ ◌*ℤ◌ a b) in
    let n = simp spread at (ap (λ x. x *ℤ t) c) in
    cancel (p *ℤ t) (ei *ℤ ej) (ti *ℤ tj) positive (simp spread (omega (arith, ints, m, n)))

tuples-multiple : (profile : Profile) (m : ℤ) (f : List PointOf → ℤ)
    → tuples profile (λ t. m *ℤ f t) ≡ m *ℤ tuples profile f
tuples-multiple profile m f =
    tuples_same profile (λ t. m *ℤ f t) (λ t. f t *ℤ m) (λ t. simp spread refl) ∙
    tuples-mul profile m f ∙ turn (tuples profile f)
  where
    turn : (a : ℤ) → a *ℤ m ≡ m *ℤ a
    turn a = simp spread refl

sum_list_same_each : {A : Type 0} (P : A → Type 0) (xs : List A) (f g : A → ℤ)
    → ((x : A) → P x → f x ≡ g x) → Each P xs → sum_list xs f ≡ sum_list xs g
sum_list_same_each P [] f g h all = refl
sum_list_same_each P (x ∷ xs) f g h all = ap₂ ◌+ℤ◌ (h x all.0) (sum_list_same_each P xs f g h all.1)

-- the sum over all tuples of variable v of player j
abbrev pub mean_num : Profile → ℤ → ℕ → ℕ → ℤ
mean_num profile d j v = tuples profile (λ points. num_over d (point_of points j) v)

abbrev pub slope_num : PlayerOf → Profile → ℤ → ℕ → ℤ
slope_num player profile d v =
    coef_at player.cost v *ℤ (d *ℤ totals profile) +ℤ sum_list
    (filter (λ t. t.own == v) player.cross) (λ t. t.coef *ℤ mean_num profile d t.player t.var)

-- the sum over all tuples of the variable at a place
abbrev pub mean_place : Profile → ℤ → ℕ × ℕ → ℤ
mean_place profile d at = mean_num profile d at.0 at.1

own_shift : (c e d t : ℤ) → c *ℤ ((d *ℤ t) *ℤ e) ≡ ((c *ℤ e) *ℤ d) *ℤ t
own_shift c e d t = simp spread refl

cross_shift : (c a b p t : ℤ) → p *ℤ t ≡ b *ℤ a → (c *ℤ a) *ℤ b ≡ (c *ℤ p) *ℤ t
cross_shift c a b p t h = let m = simp spread at (ap (λ x. c *ℤ x) h) in
    simp spread (omega (arith, ints, m))

last_scale : (n d t : ℤ) → n *ℤ ((d *ℤ t) *ℤ (d *ℤ t)) ≡ (n *ℤ t) *ℤ ((d *ℤ d) *ℤ t)
last_scale n d t = simp spread refl

two_shift : (c a b p t : ℤ) → p *ℤ t ≡ a *ℤ b → (c *ℤ p) *ℤ t ≡ (c *ℤ a) *ℤ b
two_shift c a b p t h = mul_assoc c p t ∙ ap (λ x. c *ℤ x) h ∙ sym (mul_assoc c a b)

module _ (player : PlayerOf) (i columns : ℕ) (profile : Profile) (d : ℤ) (positive : (pos 0) <ℤ d)
    (shared : Each (AreShared d) profile) (full : (j : ℕ) → j < length profile
    → (pos 0) <ℤ total (strategy_of profile j)) (here : i < length profile)
    (cost_form : Ascends 0 columns player.cost)
    (cross_form : Each (IsCross i columns (length profile)) player.cross)
    (other_form : Each (IsOther i (length profile)) player.others) where
  scale_positive : (pos 0) <ℤ (d *ℤ totals profile)
  scale_positive = mul_positive d (totals profile) positive (totals_positive profile full)

  worth-mean : (j v : ℕ) → j < length profile
      → Worth (d *ℤ totals profile) (mean (strategy_of profile j) v) (mean_num profile d j v)
  worth-mean j v h =
      let s = strategy_of profile j in
      let t = total s in
      let num = λ (x : PointOf). num_over d x v in
      let value = λ (x : PointOf). value_of x v in
      let n = weigh s num in
      let m = mean_num profile d j v in
      let sum = worth-weighted d d s value num (λ x o. worth-value d x v o)
      (shared_strategy d profile j shared) in
      let divided = worth-over d t (weighted s value) n (full j h) sum in
      let scales = swap_scale m n t (totals profile) d (alone profile j num h) in
      worth-rescale (d *ℤ t) (d *ℤ totals profile) (mean s v) n m
      (mul_positive d t positive (full j h)) scales divided

  pub mean_positive : (j v : ℕ) → j < length profile
      → (pos 0) <ℤ (mean (strategy_of profile j) v).den
  mean_positive j v h = (worth-mean j v h).below

  worth-slope : (v : ℕ)
      → Worth (d *ℤ totals profile) (slope player profile v) (slope_num player profile d v)
  worth-slope v =
      let s = d *ℤ totals profile in
      let ts = filter (λ t. t.own == v) player.cross in
      let value = λ (t : CrossTerm). times (whole t.coef)
      (mean (strategy_of profile t.player) t.var) in
      let num = λ (t : CrossTerm). t.coef *ℤ mean_num profile d t.player t.var in
      let one = λ (t : CrossTerm) (form : IsCross i columns (length profile) t). worth-multiple s
      t.coef (mean (strategy_of profile t.player) t.var) (mean_num profile d t.player t.var)
      (worth-mean t.player t.var form.player) in
      let all = each_filter (IsCross i columns (length profile)) (λ t. t.own == v) player.cross
      cross_form in
      worth-plus s _ _ _ _ (worth-whole s (coef_at player.cost v))
      (worth-sum s (IsCross i columns (length profile)) ts value num one all)

  pub slope_positive : (v : ℕ) → (pos 0) <ℤ (slope player profile v).den
  slope_positive v = (worth-slope v).below

  abbrev rest_num : ℤ
  rest_num = sum_list player.others (other_num (d *ℤ totals profile) (mean_place profile d))

  worth-rest : Worth ((d *ℤ totals profile) *ℤ (d *ℤ totals profile)) (rest player profile) rest_num
  worth-rest =
      let s = d *ℤ totals profile in
      let value = mean_at_place profile in
      let num = mean_place profile d in
      let one = λ (t : Other) (form : IsOther i (length profile) t). worth-other s value num t
      (worth-mean t.first.0 t.first.1 form.first.player)
      (λ at e. worth-mean at.0 at.1 (form.second at e).player) in
      worth-sum (s *ℤ s) (IsOther i (length profile)) player.others (other_at value)
      (other_num s num) one other_form

  pub rest_positive : (pos 0) <ℤ (rest player profile).den
  rest_positive = worth-rest.below

  worth-expected : Worth ((d *ℤ d) *ℤ totals profile) (expected_cost player i profile)
      (tuples profile (cost_num player i d))
  worth-expected =
      let cost = cost_of player i in
      let num = cost_num player i d in
      let sum = worth-tuples (d *ℤ d) d profile cost num (worth-cost player i d) shared in
      worth-over (d *ℤ d) (totals profile) (tuple_sum profile cost) (tuples profile num)
      (totals_positive profile full) sum

  pub expected_positive : (pos 0) <ℤ (expected_cost player i profile).den
  expected_positive = worth-expected.below

  own_part : tuples profile (own_nums player i d) *ℤ totals profile ≡ sum_list player.cost
      (λ t. t.1 *ℤ ((d *ℤ totals profile) *ℤ mean_num profile d i t.0))
  own_part =
      let all = totals profile in
      let f = λ (t : ℕ × ℤ) (points : List PointOf).
      (t.1 *ℤ num_over d (point_of points i) t.0) *ℤ d in
      let g = λ (t : ℕ × ℤ). (t.1 *ℤ mean_num profile d i t.0) *ℤ d in
      let h = λ (t : ℕ × ℤ). t.1 *ℤ ((d *ℤ all) *ℤ mean_num profile d i t.0) in
      let one = λ (t : ℕ × ℤ). tuples-mul profile d
      (λ points. t.1 *ℤ num_over d (point_of points i) t.0) ∙
      ap (λ a. a *ℤ d) (tuples-multiple profile t.1
      (λ points. num_over d (point_of points i) t.0)) in
      let apiece = tuples-sum profile player.cost f ∙
      sum_list_same player.cost (λ t. tuples profile (f t)) g one in
      let shift = λ (t : ℕ × ℤ). sym (own_shift t.1 (mean_num profile d i t.0) d all) in
      ap (λ a. a *ℤ all) apiece ∙ sym (sum_list-mul player.cost all g) ∙
      sum_list_same player.cost (λ t. g t *ℤ all) h shift

  -- the product of two players' variables
  pair_is : (j k v w : ℕ) → j ≢ k → j < length profile → k < length profile
      → tuples profile (λ points. num_over d (point_of points j) v *ℤ num_over d (point_of points k)
      w) *ℤ totals profile ≡ mean_num profile d j v *ℤ mean_num profile d k w
  pair_is j k v w differ below within =
      let a = λ (x : PointOf). num_over d x v in
      let b = λ (x : PointOf). num_over d x w in
      let p = tuples profile (λ points. num_over d (point_of points j) v *ℤ num_over d
      (point_of points k) w) in
      let s = strategy_of profile j in
      let t = strategy_of profile k in
      let both = mul_positive (total s) (total t) (full j below) (full k within) in
      independent p (mean_num profile d j v) (mean_num profile d k w) (total s) (total t)
      (weigh s a) (weigh t b) (totals profile) both (alone profile j a below)
      (alone profile k b within) (apart profile j k a b differ below within)

  cross_part : tuples profile (cross_nums player i d) *ℤ totals profile ≡ sum_list player.cross
      (λ t. (t.coef *ℤ mean_num profile d t.player t.var) *ℤ mean_num profile d i t.own)
  cross_part =
      let all = totals profile in
      let pair = λ (t : CrossTerm) (points : List PointOf). num_over d (point_of points i)
      t.own *ℤ num_over d (point_of points t.player) t.var in
      let f = λ (t : CrossTerm) (points : List PointOf). t.coef *ℤ pair t points in
      let g = λ (t : CrossTerm). t.coef *ℤ tuples profile (pair t) in
      let h = λ (t : CrossTerm). (t.coef *ℤ mean_num profile d t.player t.var) *ℤ mean_num profile d
      i t.own in
      let one = λ (t : CrossTerm). tuples-multiple profile t.coef (pair t) in
      let apiece = tuples-sum profile player.cross f ∙
      sum_list_same player.cross (λ t. tuples profile (f t)) g one in
      let shift = λ (t : CrossTerm) (form : IsCross i columns (length profile) t).
      sym (cross_shift t.coef (mean_num profile d t.player t.var) (mean_num profile d i t.own)
      (tuples profile (pair t)) all (pair_is i t.player t.own t.var (λ e. form.apart (sym e))
      here form.player)) in
      ap (λ a. a *ℤ all) apiece ∙ sym (sum_list-mul player.cross all g) ∙
      sum_list_same_each (IsCross i columns (length profile)) player.cross (λ t. g t *ℤ all) h
      shift cross_form

  -- a term in the others' variables alone
  other_is : (t : Other) → IsOther i (length profile) t
      → tuples profile (λ points. other_num d (place_num d points) t) *ℤ totals profile ≡ other_num
      (d *ℤ totals profile) (mean_place profile d) t
  other_is t form = on t.second form.second form.apart
    where
      one : tuples profile (λ points. t.coef *ℤ place_num d points t.first) ≡ t.coef *ℤ mean_place
          profile d t.first
      one = tuples-multiple profile t.coef (λ points. place_num d points t.first)

      on : (o : Option (ℕ × ℕ)) → ForSome o (IsFar i (length profile))
          → ForSome o (λ at. t.first.0 ≢ at.0)
          → tuples profile (λ points. option_map_or
          (λ at. (t.coef *ℤ place_num d points t.first) *ℤ place_num d points at) o
          ((t.coef *ℤ place_num d points t.first) *ℤ d)) *ℤ totals profile ≡ option_map_or
          (λ at. (t.coef *ℤ mean_place profile d t.first) *ℤ mean_place profile d at) o
          ((t.coef *ℤ mean_place profile d t.first) *ℤ (d *ℤ totals profile))
      on None far differ =
          let times_d = tuples-mul profile d (λ points. t.coef *ℤ place_num d points t.first) in
          ap (λ a. a *ℤ totals profile) (times_d ∙ ap (λ a. a *ℤ d) one) ∙
          mul_assoc (t.coef *ℤ mean_place profile d t.first) d (totals profile)
      on (Some at) far differ =
          let f = λ (points : List PointOf). place_num d points t.first in
          let g = λ (points : List PointOf). place_num d points at in
          let pair = λ (points : List PointOf). f points *ℤ g points in
          let regroup = tuples_same profile (λ points. (t.coef *ℤ f points) *ℤ g points)
          (λ points. t.coef *ℤ pair points) (λ points. mul_assoc t.coef (f points) (g points))
          in
          let product = pair_is t.first.0 at.0 t.first.1 at.1 (differ at refl) form.first.player
          (far at refl).player in
          let shift = two_shift t.coef (mean_place profile d t.first) (mean_place profile d at)
          (tuples profile pair) (totals profile) product in
          ap (λ a. a *ℤ totals profile) (regroup ∙ tuples-multiple profile t.coef pair) ∙ shift

  other_part : tuples profile (other_nums player d) *ℤ totals profile ≡ rest_num
  other_part =
      let all = totals profile in
      let f = λ (t : Other) (points : List PointOf). other_num d (place_num d points) t in
      let g = λ (t : Other). tuples profile (f t) in
      let h = other_num (d *ℤ all) (mean_place profile d) in
      let apiece = tuples-sum profile player.others f in
      ap (λ a. a *ℤ all) apiece ∙ sym (sum_list-mul player.others all g) ∙
      sum_list_same_each (IsOther i (length profile)) player.others (λ t. g t *ℤ all) h other_is
      other_form

  -- the own and the cross terms, regrouped by own variable
  regroup : sum_to columns (λ v. slope_num player profile d v *ℤ mean_num profile d i v) ≡
      (tuples profile (own_nums player i d) +ℤ tuples profile (cross_nums player i d)) *ℤ totals
      profile
  regroup =
      let e = mean_num profile d i in
      let m = d *ℤ totals profile in
      let h = λ (t : CrossTerm). t.coef *ℤ mean_num profile d t.player t.var in
      let a = tuples profile (own_nums player i d) in
      let b = tuples profile (cross_nums player i d) in
      let own = λ (v : ℕ). coef_at player.cost v *ℤ m in
      let cross = λ (v : ℕ). sum_list (filter (λ t. t.own == v) player.cross) h in
      let split = sum_to_same columns (λ v. slope_num player profile d v *ℤ e v)
      (λ v. own v *ℤ e v +ℤ cross v *ℤ e v) (λ v p. mul-add_right (own v) (cross v) (e v)) in
      let sums = sum_to-add columns (λ v. own v *ℤ e v) (λ v. cross v *ℤ e v) in
      let owns = own_columns columns player.cost m e cost_form ∙ sym own_part in
      let all = each_weaker (IsCross i columns (length profile)) (λ t. t.own < columns) player.cross
      (λ t form. form.own) cross_form in
      let crosses = cross_columns columns player.cross h e all ∙ sym cross_part in
      split ∙ sums ∙ ap₂ ◌+ℤ◌ owns crosses ∙ sym (mul-add_right a b (totals profile))

  all_parts : sum_to columns (λ v. slope_num player profile d v *ℤ mean_num profile d i v) +ℤ
      rest_num ≡ tuples profile (cost_num player i d) *ℤ totals profile
  all_parts =
      let own = own_nums player i d in
      let cross = cross_nums player i d in
      let other = other_nums player d in
      let first = tuples profile own +ℤ tuples profile cross in
      let together = tuples-add profile (λ points. own points +ℤ cross points) other ∙
      ap (λ a. a +ℤ tuples profile other) (tuples-add profile own cross) in
      ap₂ ◌+ℤ◌ regroup (sym other_part) ∙
      sym (mul-add_right first (tuples profile other) (totals profile)) ∙
      ap (λ x. x *ℤ totals profile) (sym together)

  module _ (f : ℕ → Fraction) (positive_f : (v : ℕ) → v < columns
      → (pos 0) <ℤ (f v).den) (same : (v : ℕ) → v < columns
      → HaveSameCross (mean (strategy_of profile i) v) (f v)) where
    abbrev dot : Fraction
    dot = sum_below columns (λ v. times (slope player profile v) (f v))

    worth-dot : Worth ((d *ℤ totals profile) *ℤ (d *ℤ totals profile)) dot
        (sum_to columns (λ v. slope_num player profile d v *ℤ mean_num profile d i v))
    worth-dot =
        let s = d *ℤ totals profile in
        let value = λ (v : ℕ). times (slope player profile v) (f v) in
        let num = λ (v : ℕ). slope_num player profile d v *ℤ mean_num profile d i v in
        let of_f = λ (v : ℕ) (h : v < columns). worth_of_same s (mean (strategy_of profile i) v)
        (f v) (mean_num profile d i v) (positive_f v h) (same v h) (worth-mean i v here) in
        let one = λ (v : ℕ) (h : v < columns). worth-times s s (slope player profile v) (f v)
        (slope_num player profile d v) (mean_num profile d i v) (worth-slope v) (of_f v h) in
        worth-below (s *ℤ s) columns value num one

    pub by_means : IsSame (expected_cost player i profile)
        (plus (sum_below columns (λ v. times (slope player profile v) (f v))) (rest player profile))
    by_means =
        let t = totals profile in
        let n = tuples profile (cost_num player i d) in
        let s = d *ℤ t in
        let m = sum_to columns (λ v. slope_num player profile d v *ℤ mean_num profile d i v) in
        let squared = mul_positive (d *ℤ d) t (mul_positive d d positive positive)
        (totals_positive profile full) in
        let left = worth-rescale ((d *ℤ d) *ℤ t) (s *ℤ s) (expected_cost player i profile) n
        (n *ℤ t) squared (last_scale n d t) worth-expected in
        let sum = worth-plus (s *ℤ s) dot (rest player profile) m rest_num worth-dot worth-rest in
        let right = subst (λ k. Worth (s *ℤ s) (plus dot (rest player profile)) k) all_parts sum in
        record {
          left = left.below;
          right = sum.below;
          cross = worth-same (s *ℤ s) (expected_cost player i profile)
              (plus dot (rest player profile)) (n *ℤ t)
              (mul_positive s s scale_positive scale_positive) left right;
        }
