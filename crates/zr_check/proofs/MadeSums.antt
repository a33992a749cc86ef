-- Means, slopes, values and rests that were made in whole, and what they are.
use Rattle.std.proofs.Common.{◌≡◌, ℕ, zero, suc, ◌+◌, ◌<◌, ◌==◌, arith, refl, sym, ap, subst, ◌∙◌, ℤ, pos, ◌+ℤ◌, ◌*ℤ◌, ◌<ℤ◌, Option, Some, None, Result, Ok, Bool, true, false, cond, List, [], ◌∷◌, length, get_or, ⊎_elim, ◌≤◌}
use Rattle.std.specs.List.{filter, zip}
use Rattle.std.specs.Option.{option_map_or}
use Rattle.std.proofs.Math.IntN.{*ℤ_comm, zero-*ℤ}
use Rattle.std.proofs.lemmas.Int.{ints}
use Rattle.std.proofs.lemmas.Bool.{cases_lt}
use Rattle.std.proofs.lemmas.List.{get_or_default, get_or_past}
use Rattle.zr_base.specs.declared.step.Wide.{Wide}
use Rattle.zr_base.specs.Steps.{IsNarrow, ◌>>=◌}
use Rattle.zr_base.specs.Fractions.{Fraction, IsSame, over, plus, ratio, sum_below, sum_over, times, whole}
use Rattle.zr_base.specs.Lowest.{IsLowest, IsRatio, add_of, mul_of, reduce}
use Rattle.zr_base.specs.Points.{PointOf, num_of, value_of}
use Rattle.zr_base.specs.Terms.{Ascends, coef_at}
use Rattle.zr_base.proofs.CrossLaws.{then_ok}
use Rattle.zr_base.proofs.Divisors.{mul_positive, positive_factor}
use Rattle.zr_base.proofs.Members.{each_filter, each_of_all}
use Rattle.zr_base.proofs.Reduced.{add_of_exact, mul_of_exact, reduce_lowest}
use Rattle.zr_base.proofs.SameLaws.{plus_same, reduce_is_same, same_refl, same_through, times_same}
use Rattle.zr_base.proofs.Sames.{plus_assoc, same_record}
use Rattle.zr_base.proofs.Wholes.{lowest_whole}
use Rattle.zr_base.proofs.Worth.{Each}
use Rattle.zr_game.specs.declared.player.CrossTerm.{CrossTerm}
use Rattle.zr_game.specs.declared.player.Other.{Other}
use Rattle.zr_game.specs.Costs.{other_at}
use Rattle.zr_game.specs.CostSteps.{sum_made}
use Rattle.zr_game.specs.Forms.{IsCrossForm, IsGame, IsOtherForm, IsOthersVar, IsPlayer}
use Rattle.zr_game.specs.Means.{mean, rest, slope}
use Rattle.zr_game.specs.Players.{GameOf, PlayerOf}
use Rattle.zr_game.specs.Profiles.{Part, Profile, Strategy, total, weighted}
use Rattle.zr_game.proofs.CostSums.{none_plus, plus_first, plus_last, same_plus_none, times_first, zero_lowest}
use Rattle.zr_game.proofs.Items.{at_number}
use Rattle.zr_game.proofs.TermColumns.{ascends}
use Rattle.zr_mix.specs.Steps.{mean_in, mean_steps, rest_steps, rest_term, share, slope_steps, slope_term, times_mean, value_steps}
use Rattle.zr_mix.specs.Values.{AreMeans, AreReduced, IsReduced, item_of, term_at}
use Rattle.zr_mix.proofs.Filtered.{plus_none}
use Rattle.zr_mix.proofs.Places.{at_means, rest_at_means}
use Rattle.zr_mix.proofs.Products.{product_made, product_of, value_along}
use Rattle.zr_mix.proofs.Scaling.{one_share}
use Rattle.zr_cert.specs.Forms.{IsPartForm, IsWeight}

-- a sum and a product that were made
pub sum_reduced : (a b f : Fraction) → (pos 0) <ℤ a.den → (pos 0) <ℤ b.den → add_of a b ≡ Ok f → IsReduced f (plus a b)
sum_reduced a b f above below e =
    let x = add_of_exact a b f above below e in
    record {
      lowest = x.lowest;
      same = record { left = x.lowest.ratio.positive; right = mul_positive a.den b.den above below; cross = x.same };
    }

pub product_reduced : (a b f : Fraction) → (pos 0) <ℤ a.den → (pos 0) <ℤ b.den → mul_of a b ≡ Ok f → IsReduced f (times a b)
product_reduced a b f above below e =
    let x = mul_of_exact a b f above below e in
    record {
      lowest = x.lowest;
      same = record { left = x.lowest.ratio.positive; right = mul_positive a.den b.den above below; cross = x.same };
    }

module _ {A : Type 0} (make : A → Result Fraction Wide) (g : A → Fraction) (P : A → Type 0) (exact : (x : A) → P x → (a : Fraction) → make x ≡ Ok a → IsReduced a (g x)) where
  -- a sum whose items are made exactly is exact
  pub sum_exact : (xs : List A) (s f : Fraction) → Each P xs → IsLowest s → sum_made make s xs ≡ Ok f → IsReduced f (plus s (sum_over xs g))
  sum_exact [] s f all lowest e =
      let same : s ≡ f = cc in
      subst (λ (z : Fraction). IsReduced z (plus s (whole (pos 0)))) same (record { lowest = lowest; same = same_plus_none s lowest })
  sum_exact (x ∷ xs) s f all lowest e =
      let made = then_ok (make x) (λ a. add_of s a >>= λ r. sum_made make r xs) f e in
      let a = made.0 in
      let added = then_ok (add_of s a) (λ r. sum_made make r xs) f made.2 in
      let r = added.0 in
      let item = exact x all.0 a made.1 in
      let sum = sum_reduced s a r lowest.ratio.positive item.lowest.ratio.positive added.1 in
      let rest = sum_exact xs r f all.1 sum.lowest added.2 in
      let so_far = plus_last r s a (g x) sum.same item.same in
      let tail = sum_over xs g in
      let whole_sum = plus_first f tail r (plus s (g x)) rest.same so_far in
      record {
        lowest = rest.lowest;
        same = subst (λ (z : Fraction). IsSame f z) (sym (plus_assoc s (g x) tail)) whole_sum;
      }

  -- a sum from 0 on
  pub sum_from_zero : (xs : List A) (f : Fraction) → Each P xs → sum_made make (whole (pos 0)) xs ≡ Ok f → IsReduced f (sum_over xs g)
  sum_from_zero xs f all e =
      subst (IsReduced f) (none_plus (sum_over xs g)) (sum_exact xs (whole (pos 0)) f all zero_lowest e)

-- what two ratios that were reduced first multiply to
reduced_product : (w t : ℤ) (x : Fraction) → IsRatio w t → IsRatio x.num x.den → (a : Fraction) → mul_of (reduce w t) (reduce x.num x.den) ≡ Ok a → IsReduced a (times (ratio w t) x)
reduced_product w t x first second a e =
    let p = reduce w t in
    let q = reduce x.num x.den in
    let above = (reduce_lowest w t first).ratio.positive in
    let below = (reduce_lowest x.num x.den second).ratio.positive in
    let m = product_reduced p q a above below e in
    let both = times_same p q (ratio w t) x (reduce_is_same w t first) (reduce_is_same x.num x.den second) in
    record { lowest = m.lowest; same = same_through a (times p q) (times (ratio w t) x) m.same both }

number_narrow : (x : PointOf) (v : ℕ) → ((k : ℕ) (d : ℤ) → k < length x.num → IsNarrow (get_or x.num k d)) → IsNarrow (num_of x v)
number_narrow x v all = ⊎_elim (λ (h : v < length x.num). all v (pos 0) h) (λ (h : length x.num ≤ v). past h) (cases_lt v (length x.num))
  where
    past : length x.num ≤ v → IsNarrow (num_of x v)
    past h = let e = get_or_past x.num v (pos 0) h in rw e (omega arith)

-- the shares of a mean
module _ (t : ℤ) (v : ℕ) where
  abbrev share_value : Part → Fraction
  share_value part = times (ratio part.weight t) (value_of part.point v)

  module _ (weight : IsWeight t) where
    positive : (pos 0) <ℤ t
    positive = let h = weight.0 in omega (arith, ints, h)

    share_exact : (part : Part) → IsPartForm part → (a : Fraction) → share t v part ≡ Ok a → IsReduced a (share_value part)
    share_exact part form a e =
        let first : IsRatio part.weight t = record { positive = positive; narrow_num = form.weight.1; narrow_den = weight.1 } in
        let second : IsRatio (num_of part.point v) part.point.den = record { positive = form.point.0; narrow_num = number_narrow part.point v form.point.2; narrow_den = form.point.1 } in
        reduced_product part.weight t (value_of part.point v) first second a e

    turned : (a b : Fraction) → plus a b ≡ plus b a
    turned a b = same_record (plus a b) (plus b a) (num a.num a.den b.num b.den) (*ℤ_comm a.den b.den)
      where
        num : (n d m e : ℤ) → n *ℤ e +ℤ m *ℤ d ≡ m *ℤ d +ℤ n *ℤ e
        num n d m e = omega (arith, ints)

    -- their sum is the weighted sum over the total
    shares_over : (parts : Strategy) → Each IsPartForm parts → IsSame (sum_over parts share_value) (over (weighted parts (λ x. value_of x v)) t)
    shares_over [] all = record { left = omega (arith, ints); right = mul_positive (pos 1) t (omega (arith, ints)) positive; cross = zero-*ℤ (pos 1 *ℤ t) }
    shares_over (part ∷ parts) all =
        let rest = shares_over parts all.1 in
        let a = share_value part in
        let x = value_of part.point v in
        let s = sum_over parts share_value in
        let w = weighted parts (λ y. value_of y v) in
        let own = times (whole part.weight) x in
        let below = all.0.point.0 in
        let above = positive_factor w.den t rest.right positive in
        let both = plus_same a s a (over w t) (same_refl a (mul_positive t x.den positive below)) rest in
        let swapped = subst (λ (z : Fraction). IsSame (plus a s) z) (turned a (over w t)) both in
        let more = one_share (plus a s) w x part.weight t positive above below swapped in
        subst (λ (z : Fraction). IsSame (plus a s) (over z t)) (turned w own) more

    pub mean_exact : (parts : Strategy) → Each IsPartForm parts → t ≡ total parts → (f : Fraction) → mean_steps t parts v ≡ Ok f → IsReduced f (mean parts v)
    mean_exact parts all whole_total f e =
        let x = sum_from_zero (share t v) share_value IsPartForm share_exact parts f all e in
        let sum = weighted parts (λ x. value_of x v) in
        let r = same_through f (sum_over parts share_value) (over sum t) x.same (shares_over parts all) in
        record { lowest = x.lowest; same = subst (λ (n : ℤ). IsSame f (over sum n)) whole_total r }

-- slopes at means
coef_narrow : (low columns : ℕ) (ts : List (ℕ × ℤ)) (v : ℕ) → Ascends low columns ts → IsNarrow (coef_at ts v)
coef_narrow low columns [] v all = omega arith
coef_narrow low columns (s ∷ ss) v all = either (s.0 == v) (coef_narrow (s.0 + 1) columns ss v all.3)
  where
    either : (b : Bool) → IsNarrow (coef_at ss v) → IsNarrow (cond b s.1 (coef_at ss v))
    either true rest = all.2
    either false rest = rest

module _ (game : GameOf) (form : IsGame game) (i : ℕ) (player : PlayerOf) (is : IsPlayer game i player) (profile : Profile) (means : List Fraction) (are : AreMeans game profile means) where
  term_exact : (t : CrossTerm) → IsCrossForm game i (length player.vars) t → (a : Fraction) → slope_term game means t ≡ Ok a → IsReduced a (term_at game means t)
  term_exact t f a e =
      let other = at_number game t.player f.player in
      let m = are t.player other.0 other.1 t.var (f.var other.0 other.1) in
      product_reduced (whole t.coef) (mean_in game means (t.player, t.var)) a (omega (arith, ints)) m.lowest.ratio.positive e

  pub slope_exact : (v : ℕ) (f : Fraction) → slope_steps game player means v ≡ Ok f → IsReduced f (slope player profile v)
  slope_exact v f e =
      let g = form.players i player is in
      let cross = IsCrossForm game i (length player.vars) in
      let own = coef_at player.cost v in
      let ts = filter (λ t. t.own == v) player.cross in
      let terms = each_filter cross (λ t. t.own == v) player.cross (each_of_all cross player.cross g.cross) in
      let narrow = coef_narrow 0 (length player.vars) player.cost v (ascends player.cost 0 (length player.vars) g.cost) in
      let x = sum_exact (slope_term game means) (term_at game means) cross term_exact ts (whole own) f terms (lowest_whole own narrow) e in
      at_means game form i player is profile means are v f x

  rest_term_exact : (t : Other) → IsOtherForm game i t → (a : Fraction) → rest_term game means t ≡ Ok a → IsReduced a (other_at (mean_in game means) t)
  rest_term_exact t f a e = on t.second (λ at s. den at (f.second at s).1) made.2
    where
      den : (at : ℕ × ℕ) → IsOthersVar game i at → (pos 0) <ℤ (mean_in game means at).den
      den at h =
          let other = at_number game at.0 h.player in
          (are at.0 other.0 other.1 at.1 (h.var other.0 other.1)).lowest.ratio.positive

      made : (x : Fraction) × (mul_of (whole t.coef) (mean_in game means t.first) ≡ Ok x) × (times_mean game means x t.second ≡ Ok a)
      made = then_ok (mul_of (whole t.coef) (mean_in game means t.first)) (λ x. times_mean game means x t.second) a e

      one : IsReduced made.0 (times (whole t.coef) (mean_in game means t.first))
      one = product_reduced (whole t.coef) (mean_in game means t.first) made.0 (omega (arith, ints)) (den t.first f.first) made.1

      on : (o : Option (ℕ × ℕ)) → ((at : ℕ × ℕ) → o ≡ Some at → (pos 0) <ℤ (mean_in game means at).den) → times_mean game means made.0 o ≡ Ok a → IsReduced a (option_map_or (λ at. times (times (whole t.coef) (mean_in game means t.first)) (mean_in game means at)) o (times (whole t.coef) (mean_in game means t.first)))
      on None dens h = let same : made.0 ≡ a = cc in subst (λ (z : Fraction). IsReduced z (times (whole t.coef) (mean_in game means t.first))) same one
      on (Some at) dens h =
          let first = times (whole t.coef) (mean_in game means t.first) in
          let last = mean_in game means at in
          let x = product_reduced made.0 last a one.lowest.ratio.positive (dens at refl) h in
          record { lowest = x.lowest; same = times_first a last made.0 first x.same one.same }

  pub rest_exact : (f : Fraction) → rest_steps game player means ≡ Ok f → IsReduced f (rest player profile)
  rest_exact f e =
      let terms = each_of_all (IsOtherForm game i) player.others (form.players i player is).others in
      let x = sum_from_zero (rest_term game means) (other_at (mean_in game means)) (IsOtherForm game i) rest_term_exact player.others f terms e in
      rest_at_means game form i player is profile means are (Ok f) x

-- a value along a slope
first_below : (n : ℕ) (f : ℕ → Fraction) → sum_below (suc n) f ≡ plus (f 0) (sum_below n (λ v. f (suc v)))
first_below zero f = none_plus (f 0) ∙ sym (plus_none (f 0))
first_below (suc n) f =
    ap (λ (z : Fraction). plus z (f (suc n))) (first_below n f) ∙ sym (plus_assoc (f 0) (sum_below n (λ v. f (suc v))) (f (suc n)))

zip_below : (xs ys : List Fraction) → length xs ≡ length ys → sum_over (zip xs ys) product_of ≡ sum_below (length xs) (λ v. times (item_of xs v) (item_of ys v))
zip_below [] [] h = refl
zip_below [] (y ∷ ys) h = absurd (omega (arith, h))
zip_below (x ∷ xs) [] h = absurd (omega (arith, h))
zip_below (x ∷ xs) (y ∷ ys) h =
    ap (plus (times x y)) (zip_below xs ys (omega (arith, h))) ∙ sym (first_below (length xs) (λ v. times (item_of (x ∷ xs) v) (item_of (y ∷ ys) v)))

abbrev HasDens : Fraction × Fraction → Type 0
HasDens p = ((pos 0) <ℤ p.0.den) × ((pos 0) <ℤ p.1.den)

zip_dens : (xs ys : List Fraction) → Each (λ f. (pos 0) <ℤ f.den) xs → Each (λ f. (pos 0) <ℤ f.den) ys → Each HasDens (zip xs ys)
zip_dens [] ys p q = tt
zip_dens (x ∷ xs) [] p q = tt
zip_dens (x ∷ xs) (y ∷ ys) p q = ((p.0, q.0), zip_dens xs ys p.1 q.1)

pub dens_if : (n : ℕ) (xs : List Fraction) (g : ℕ → Fraction) → AreReduced xs n g → Each (λ f. (pos 0) <ℤ f.den) xs
dens_if n xs g are =
    each_of_all (λ f. (pos 0) <ℤ f.den) xs (λ k d h. let len = are.len in subst (λ (f : Fraction). (pos 0) <ℤ f.den) (get_or_default xs k (whole (pos 0)) d h) (are.each k (omega (arith, len, h))).lowest.ratio.positive)

pub value_exact : (n : ℕ) (xs ys : List Fraction) (f g : ℕ → Fraction) → AreReduced xs n f → AreReduced ys n g → (r : Fraction) → value_steps xs ys ≡ Ok r → IsReduced r (sum_below n (λ v. times (f v) (g v)))
value_exact n xs ys f g left right r e =
    let lens = left.len ∙ sym right.len in
    let one = λ (p : Fraction × Fraction) (dens : HasDens p) (a : Fraction) (made : product_made p ≡ Ok a). product_reduced p.0 p.1 a dens.0 dens.1 made in
    let x = sum_from_zero product_made product_of HasDens one (zip xs ys) r (zip_dens xs ys (dens_if n xs f left) (dens_if n ys g right)) e in
    let below = subst (λ (z : Fraction). IsSame r z) (zip_below xs ys lens) x.same in
    let all = subst (λ k. IsSame r (sum_below k (λ v. times (item_of xs v) (item_of ys v)))) left.len below in
    value_along xs ys n f g left right r x.lowest all
