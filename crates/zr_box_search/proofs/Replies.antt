-- What the least value along a slope tells of a player in a single profile.
use Rattle.std.proofs.Common.{◌≡◌, ℕ, zero, suc, ◌+◌, ◌<◌, arith, refl, sym, ap, ap₂, ◌∙◌, subst, ℤ, pos, ◌-ℤ◌, ◌*ℤ◌, ◌<ℤ◌, ◌≤ℤ◌, unsigned_abs, int_div, false, All, IfSome, IsSome, IsTrue, Option, Some, None, Err, List, [], ◌∷◌, map, length, get_or, slice_get, inl, inr, ◌⊎◌, ⊎_elim}
use Rattle.std.specs.Int.{◌∣◌}
use Rattle.std.proofs.Math.Nat.{dvd-mul_left, eq-one_of_dvd-one}
use Rattle.std.proofs.lemmas.Nat.Gcd.{dvd_refl}
use Rattle.std.proofs.lemmas.List.{get_or-map}
use Rattle.std.proofs.lemmas.Int.{ints, unsigned_abs-mul}
use Rattle.std.proofs.lemmas.Option.{slice_get_within}
use Rattle.std.specs.Prelude.{MatchOption}
use Rattle.zr_base.specs.declared.step.Wide.{Wide}
use Rattle.zr_io.specs.declared.purse.Purse.{Purse}
use Rattle.zr_base.specs.Fractions.{Fraction}
use Rattle.zr_base.specs.Lowest.{IsLowest}
use Rattle.zr_base.specs.Points.{PointOf, num_of}
use Rattle.zr_base.specs.Steps.{IsNarrow, cross_of}
use Rattle.zr_base.specs.Terms.{AscendWith, Terms}
use Rattle.zr_base.proofs.CrossLaws.{cross_is}
use Rattle.zr_base.proofs.Dense.{sum_to-mul, sum_to_same, sum_to_zero}
use Rattle.zr_base.proofs.Divisors.{cancel}
use Rattle.zr_base.proofs.Ring.{spread}
use Rattle.zr_base.proofs.Worth.{le_times}
use Rattle.zr_game.specs.declared.player.CrossTerm.{CrossTerm}
use Rattle.zr_game.specs.Players.{GameOf, PlayerOf, VarOf}
use Rattle.zr_game.specs.Feasible.{IsFeasible}
use Rattle.zr_game.specs.Forms.{IsCoefficient, IsCrossForm, IsGame, IsPlayer, IsPlayerForm, IsVarForm}
use Rattle.zr_game.specs.Leaves.{root_leaf}
use Rattle.zr_game.specs.Rays.{ChangesWhole, Direction, IsRay, KeepsAllBounds, change_of}
use Rattle.zr_game.proofs.Items.{at_number}
use Rattle.zr_game.proofs.WholePoints.{IsWholePoint, exact_quotient, feasible_whole, whole_feasible, whole_of, whole_within}
use Rattle.zr_simplex.specs.Programs.{numbers}
use Rattle.zr_tree.specs.Right.{IsRefuted}
use Rattle.zr_tree.specs.Trees.{TreeOf}
use Rattle.zr_tree.proofs.Descent.{none_at_root}
use Rattle.zr_tree.proofs.SettledLeaves.{KeepsRoot}
use Rattle.zr_branch.specs.Replies.{IsSomePlayer}
use Rattle.zr_branch.specs.Values.{aim_value}
use Rattle.zr_bnb.specs.declared.answer.BnbStop.{BnbStop}
use Rattle.zr_bnb.specs.declared.answer.BnbStop.TheVariants as ABnb
use Rattle.zr_bnb.specs.declared.answer.LeastAnswer.{LeastAnswer}
use Rattle.zr_bnb.specs.declared.answer.LeastAnswer.TheVariants as ALeast
use Rattle.zr_bnb.specs.Answers.{IsLeastAnswer, IsSearchTree, MayAsk}
use Rattle.zr_bnb.specs.Causes.{IsBnbCause, SpendsWork}
use Rattle.zr_bnb.specs.Values.{IsLeastAt, IsLeastValue, scaled_aim}
use Rattle.zr_boxes.specs.Boxes.{BoxOf}
use Rattle.zr_boxes.specs.Gains.{IsBounded, least_gain, slope_range}
use Rattle.zr_boxes.specs.Ranges.{HasRange}
use Rattle.zr_asked.specs.Stuck.{IsPlainAim}
use Rattle.zr_box_search.specs.Causes.{IsPureSlope, MayAskIn}
use Rattle.zr_box_search.specs.Dues.{AreRanged, IsRanged}
use Rattle.zr_box_search.specs.Fates.{HasLeastPoint, HasNoBetter, IsBestReply, IsLeastPoint, IsPlainStop, IsReplyCause, SpendsTree}
use Rattle.zr_box_search.specs.declared.answer.BoxStop.{BoxStop}
use Rattle.zr_box_search.specs.declared.answer.BoxStop.TheVariants as AStop
use Rattle.zr_box_search.specs.OpenBoxes.{IsSingle}
use Rattle.zr_box_search.specs.Sizes.{IsNearPoint, IsUpTo, number_size}
use Rattle.zr_box_search.specs.Whole.{HasOpenPlayer, IsBoxGame, IsBoxPlayer, IsBoxVar, IsOpenVar}
use Rattle.zr_box_search.proofs.Single.{gain_is, own_sum, pure_slope, sum_at}

-- ---- players of whole variables between bounds

module _ (player : PlayerOf) (is_box : IsBoxPlayer player) where
  pub whole_vars : (v : ℕ) (var : VarOf) → slice_get player.vars v ≡ Some var → IsTrue var.whole
  whole_vars v var e = (is_box.vars v var e).whole

  -- a direction that keeps all bounds changes nothing
  still : (dir : Direction) → KeepsAllBounds player.vars dir → (v : ℕ) → v < length player.vars
      → change_of dir v ≡ pos 0
  still dir keeps v h =
      let var = at_number player.vars v h in
      let b = is_box.vars v var.0 var.1 in
      let k = keeps v var.0 var.1 in
      let l = low_side var.0.low b.low k.low in
      let u = up_side var.0.up b.up k.up in
      omega (arith, ints, l, u)
    where
      low_side : (o : Option ℤ) → IsSome o → IfSome o (λ low. (pos 0) ≤ℤ change_of dir v)
          → (pos 0) ≤ℤ change_of dir v
      low_side None s h = absurd cc
      low_side (Some b) s h = h

      up_side : (o : Option ℤ) → IsSome o → IfSome o (λ up. change_of dir v ≤ℤ (pos 0))
          → change_of dir v ≤ℤ (pos 0)
      up_side None s h = absurd cc
      up_side (Some b) s h = h

  pub no_fall : (aim : List ℤ) (base : PointOf) (dir : Direction) → IsRay player base dir
      → aim_value player aim (change_of dir) <ℤ (pos 0) → ⊥
  no_fall aim base dir ray falls =
      let n = length player.vars in
      let e = sum_to_same n (λ j. numbers aim j *ℤ change_of dir j) (λ j. pos 0)
      (λ j h. none (numbers aim j) (change_of dir j) (still dir ray.bounds j h))
      ∙ sum_to_zero n in
      omega (arith, ints, e, falls)
    where
      none : (a z : ℤ) → z ≡ pos 0 → a *ℤ z ≡ pos 0
      none a z e = rw e (omega (arith, ints))

  pub no_whole_ray : (dir : Direction) (v : ℕ) → ChangesWhole player dir v → ⊥
  no_whole_ray dir v h =
      h.2 (still dir h.0.bounds v (slice_get_within player.vars v h.1.0 h.1.1))

  pub whole_at : (x : PointOf) → IsFeasible player x → IsWholePoint x
  whole_at x feasible = feasible_whole player x feasible whole_vars

  pub near_point : (sizes : (v : ℕ) (var : VarOf) → slice_get player.vars v ≡ Some var → IsVarForm var)
      → (x : PointOf) → IsFeasible player x → IsNearPoint player (whole_of x)
  near_point sizes x feasible = record {
    whole = refl;
    len = (whole_feasible player x feasible (whole_at x feasible)).len;
    size = λ v h. size v h;
  }
    where
      size : (v : ℕ) → v < length player.vars → IsUpTo number_size (num_of (whole_of x) v)
      size v h =
          let var = at_number player.vars v h in
          let b = is_box.vars v var.0 var.1 in
          let f = sizes v var.0 var.1 in
          let l = some_is var.0.low b.low in
          let u = some_is var.0.up b.up in
          let w = whole_within player x feasible (whole_at x feasible) v var.0 var.1 l.0 u.0 l.1 u.1 in
          let m = (f.low l.0 l.1).0 in
          let n = (f.up u.0 u.1).1 in
          let p = w.0 in
          let q = w.1 in
          omega (arith, ints, m, n, p, q)
        where
          some_is : (o : Option ℤ) → IsSome o → (b : ℤ) × (o ≡ Some b)
          some_is None h = absurd cc
          some_is (Some b) h = (b, refl)

-- ---- bounds that a gain needs

below_columns : (P : ℤ → Type 0) (low columns : ℕ) (ts : Terms) → AscendWith P low columns ts
    → (k : ℕ) (d : ℕ × ℤ) → k < length ts → (get_or ts k d).0 < columns
below_columns P low columns [] h k d below = absurd (omega (arith, below))
below_columns P low columns (t ∷ ts) h zero d below = h.1
below_columns P low columns (t ∷ ts) h (suc k) d below =
    below_columns P (t.0 + 1) columns ts h.3 k d (omega (arith, below))

module _ (game : GameOf) (sound : IsGame game) (box : BoxOf) (ranged : AreRanged game box) (i : ℕ)
    (player : PlayerOf) (is : IsPlayer game i player) where
  has_range : (k v : ℕ) → IsRanged (box k) v → HasRange box k v
  has_range k v r = record {
    low = subst (λ (o : Option ℤ). IsSome o) (sym r.low_is) refl;
    high = subst (λ (o : Option ℤ). IsSome o) (sym r.high_is) refl;
  }

  pub gain_bounded : IsBounded player i box
  gain_bounded = record {
    own = λ k d h. has_range i (get_or player.cost k d).0 (ranged i player is _
        (below_columns IsCoefficient 0 (length player.vars) player.cost form.cost k d h));
    cross = λ k d h. own_range (get_or player.cross k d) (form.cross k d h);
    others = λ k d h. other_range (get_or player.cross k d) (form.cross k d h);
  }
    where
      form : IsPlayerForm game i player
      form = sound.players i player is

      own_range : (t : CrossTerm) → IsCrossForm game i (length player.vars) t
          → HasRange box i t.own
      own_range t f = has_range i t.own (ranged i player is t.own f.own)

      other_range : (t : CrossTerm) → IsCrossForm game i (length player.vars) t
          → HasRange box t.player t.var
      other_range t f =
          let other = at_number game t.player f.player in
          has_range t.player t.var (ranged t.player other.0 other.1 t.var (f.var other.0 other.1))

-- ---- the least value of the slope

-- a fraction in lowest terms whose denominator divides its numerator is whole
whole_lowest : (f : Fraction) (k : ℤ) → IsLowest f → f.num ≡ k *ℤ f.den → f.den ≡ pos 1
whole_lowest f k lowest e =
    let d = unsigned_abs f.den in
    let divides : d ∣ unsigned_abs f.num =
    subst (λ (n : ℕ). d ∣ n) (sym (ap unsigned_abs e ∙ unsigned_abs-mul k f.den))
    (dvd-mul_left d (unsigned_abs k)) in
    let one : d ∣ 1 = lowest.coprime.2 d divides (dvd_refl d) in
    let n : d ≡ 1 = eq-one_of_dvd-one one in
    let p = lowest.ratio.positive in
    omega (arith, ints, n, p)

module _ (game : GameOf) (sound : IsGame game) (whole_is : IsBoxGame game) (box : BoxOf)
    (single : IsSingle game box)
    (keeps : (k : ℕ) (player : PlayerOf) → IsPlayer game k player → KeepsRoot player (box k))
    (i : ℕ) (player : PlayerOf) (is : IsPlayer game i player) (aim : List ℤ)
    (len : length aim ≡ length player.vars)
    (each : (v : ℕ) → v < length player.vars → numbers aim v ≡ (slope_range player box v).low) where
  abbrev S : PointOf → ℤ
  S x = sum_at game sound whole_is box single keeps i player is x

  abbrev own : ℤ
  own = own_sum game sound whole_is box single keeps i player is

  aim_is : (x : PointOf) → aim_value player aim (num_of x) ≡ S x
  aim_is x =
      sum_to_same (length player.vars) (λ j. numbers aim j *ℤ num_of x j) _
      (λ j h. ap (λ z. z *ℤ num_of x j) (each j h))

  -- the value of a point whose numbers are divided by the denominator
  sum_whole : (x : PointOf) → IsFeasible player x → S x ≡ S (whole_of x) *ℤ x.den
  sum_whole x feasible =
      let n = length player.vars in
      let w = whole_of x in
      let turn : x.den *ℤ S w ≡ S w *ℤ x.den = simp spread refl in
      sum_to_same n (λ v. (slope_range player box v).low *ℤ num_of x v)
      (λ v. x.den *ℤ ((slope_range player box v).low *ℤ num_of w v))
      (λ v h. at v h)
      ∙ sum_to-mul n x.den (λ v. (slope_range player box v).low *ℤ num_of w v) ∙ turn
    where
      flat : (s q d : ℤ) → s *ℤ (q *ℤ d) ≡ d *ℤ (s *ℤ q)
      flat s q d = simp spread refl

      at : (v : ℕ) → v < length player.vars → (slope_range player box v).low *ℤ num_of x v
          ≡ x.den *ℤ ((slope_range player box v).low *ℤ num_of (whole_of x) v)
      at v h =
          let l = feasible.len in
          let m = whole_at player (whole_is i player is) x feasible v (omega (arith, l, h)) in
          let q = exact_quotient (num_of x v) x.den m in
          let g = get_or-map (λ n. int_div n x.den) x.num v (pos 0) (pos 0) (omega (arith, l, h)) in
          let e : num_of (whole_of x) v *ℤ x.den ≡ num_of x v = ap (λ z. z *ℤ x.den) g ∙ q in
          ap (λ z. (slope_range player box v).low *ℤ z) (sym e)
          ∙ flat (slope_range player box v).low (num_of (whole_of x) v) x.den

  module _ (f : Fraction) (x : PointOf) (least : IsLeastAt player aim f x) where
    value_is : f.num ≡ f.den *ℤ S (whole_of x)
    value_is =
        cancel f.num (f.den *ℤ S (whole_of x)) x.den least.feasible.point
        (least.value ∙ ap (λ z. f.den *ℤ z) (aim_is x ∙ sum_whole x least.feasible)
        ∙ flat f.den (S (whole_of x)) x.den)
      where
        flat : (a b c : ℤ) → a *ℤ (b *ℤ c) ≡ (a *ℤ b) *ℤ c
        flat a b c = simp spread refl

    pub den_is : f.den ≡ pos 1
    den_is =
        let turn : f.den *ℤ S (whole_of x) ≡ S (whole_of x) *ℤ f.den = simp spread refl in
        whole_lowest f (S (whole_of x)) least.lowest (value_is ∙ turn)

    -- the point's value is the least one
    pub none_lower : (y : PointOf) → IsFeasible player y → (S (whole_of x) *ℤ y.den) ≤ℤ S y
    none_lower y feasible =
        let l = least.least y feasible in
        let d = den_is in
        let n = value_is in
        let a = aim_is y in
        flat f.num f.den (S (whole_of x)) (S y) y.den d n (subst (λ z. (f.num *ℤ y.den) ≤ℤ (f.den *ℤ z)) a l)
      where
        flat : (n d s t e : ℤ) → d ≡ pos 1 → n ≡ d *ℤ s → (n *ℤ e) ≤ℤ (d *ℤ t)
            → (s *ℤ e) ≤ℤ t
        flat n d s t e one is h =
            let k : n ≡ s = is ∙ ap (λ z. z *ℤ s) one ∙ omega (arith, ints) in
            let m : d *ℤ t ≡ t = ap (λ z. z *ℤ t) one ∙ omega (arith, ints) in
            subst (λ z. (s *ℤ e) ≤ℤ z) m (subst (λ z. (z *ℤ e) ≤ℤ (d *ℤ t)) k h)

    pub none_better : least_gain player i box (whole_of x) ≤ℤ (pos 0) → HasNoBetter player i box
    none_better most y feasible =
        let g = gain_is game sound whole_is box single keeps i player is (whole_of x) in
        let k = gain_is game sound whole_is box single keeps i player is y in
        let one : pos 1 *ℤ own ≡ own = omega (arith, ints) in
        let less : own ≤ℤ S (whole_of x) = omega (arith, ints, most, g, one) in
        let t = le_times own (S (whole_of x)) y.den feasible.point less in
        let l = none_lower y feasible in
        let turn : y.den *ℤ own ≡ own *ℤ y.den = simp spread refl in
        omega (arith, ints, k, t, l, turn)

  pub no_wide : (f : Fraction) → IsLeastValue player aim f → (v : ℕ) → All IsNarrow aim
      → v < length player.vars → (wide : Wide)
      → cross_of (f.den, numbers aim v) (pos 0, pos 0) ≡ Err wide → ⊥
  no_wide f least v narrow h wide e =
      let d = den_is f least.0 least.1 in
      let n : IsNarrow (numbers aim v) = narrow v (pos 0) (omega (arith, len, h)) in
      let one : pos 1 *ℤ numbers aim v ≡ numbers aim v = omega (arith, ints) in
      let none : pos 0 *ℤ pos 0 ≡ pos 0 = refl in
      let less : numbers aim v -ℤ pos 0 ≡ numbers aim v = omega (arith, ints) in
      let c = cross_is (pos 1, numbers aim v) (pos 0, pos 0)
      (subst IsNarrow (sym one) n) (omega arith)
      (subst IsNarrow (sym (ap (λ z. z -ℤ pos 0) one ∙ less)) n) in
      let g = subst (λ z. cross_of (z, numbers aim v) (pos 0, pos 0) ≡ Err wide) d e in
      let clash = sym c ∙ g in
      absurd cc

  pub may_ask : (asked : List ℤ) → MayAsk player aim asked → MayAskIn game player asked
  may_ask asked may =
      ⊎_elim (λ (e : asked ≡ aim). inr (subst (IsPureSlope game player) (sym e) slope_is))
      (λ (h : ((f : Fraction) × IsLeastValue player aim f × (asked ≡ scaled_aim f aim))
      ⊎ IsPlainAim player asked).
      ⊎_elim (λ (s : (f : Fraction) × IsLeastValue player aim f × (asked ≡ scaled_aim f aim)).
      inr (subst (IsPureSlope game player)
      (sym (s.2 ∙ ap (λ z. map (λ n. z *ℤ n) aim) (den_is s.0 s.1.0 s.1.1) ∙ all_one aim)) slope_is))
      (λ (p : IsPlainAim player asked). inl p) h) may
    where
      slope_is : IsPureSlope game player aim
      slope_is = pure_slope game sound whole_is box single keeps i player is aim len each

      all_one : (xs : List ℤ) → map (λ n. pos 1 *ℤ n) xs ≡ xs
      all_one [] = refl
      all_one (x ∷ xs) =
          let e : pos 1 *ℤ x ≡ x = omega (arith, ints) in ap₂ (λ (y : ℤ) (ys : List ℤ). y ∷ ys) e (all_one xs)

  pub plain_stop : All IsNarrow aim → (old new : Purse) (stop : BnbStop)
      → IsBnbCause i player aim old new stop → IsPlainStop stop
  plain_stop narrow old new ABnb.Spent h = tt
  plain_stop narrow old new (ABnb.Wide asked) h = tt
  plain_stop narrow old new (ABnb.WideAim wide) h = no_wide h.0 h.2 h.1 narrow h.3 wide h.4
  plain_stop narrow old new (ABnb.Endless var dir) h =
      no_whole_ray player (whole_is i player is) dir.items var h.0
  plain_stop narrow old new ABnb.NoMemory h = tt

  -- a point with the least value is better, or none is
  pub best_reply : AreRanged game box → (f : Fraction) (x : PointOf) → IsLeastAt player aim f x
      → (o : Option PointOf) → MatchOption o (least_gain player i box (whole_of x) ≤ℤ (pos 0))
      (λ y. (y ≡ whole_of x) × ((pos 0) <ℤ least_gain player i box y))
      → IsBestReply player i box o
  best_reply ranged f x least None h = none_better f x least h
  best_reply ranged f x least (Some y) h = (
    record {
      feasible = subst (IsFeasible player) (sym h.0) (whole_feasible player x least.feasible
          (whole_at player (whole_is i player is) x least.feasible));
      bounded = gain_bounded game sound box ranged i player is;
      gain = h.1;
    },
    ap (λ (z : PointOf). z.den) h.0,
  )

-- the branches that were spent are the units of an open tree
pub search_spends : (player : PlayerOf) (aim : List ℤ) (old new : Purse) (t : TreeOf)
    → IsSearchTree player aim old new t → SpendsWork player old new → SpendsTree player old new
search_spends player aim old new t search work = (
  record { tree = t; open_is = search.open_is },
  record {
    limit = work.limit;
    cuts = work.cuts;
    pivots = work.pivots;
    branches = search.spent;
  },
)

-- a player with a point has no refuted tree
pub not_refuted : (i : ℕ) (player : PlayerOf) → IsSomePlayer i player → (x : PointOf)
    → IsFeasible player x → (t : TreeOf) → IsRefuted player (root_leaf player) t → ⊥
not_refuted i player some x feasible t refuted =
    none_at_root player x feasible some.1.rows some.1.pairs t refuted

-- ---- the answer of the search over a player's points

module _ (game : GameOf) (i : ℕ) (player : PlayerOf) (form : IsPlayerForm game i player)
    (is_box : IsBoxPlayer player) (own : PointOf) (feasible : IsFeasible player own)
    (aim : List ℤ) (old new : Purse) where
  pub has_point : (answer : LeastAnswer) → IsLeastAnswer player aim old new answer
      → HasLeastPoint answer
  has_point (ALeast.At point value tree) h = tt
  has_point (ALeast.Empty tree) h =
      not_refuted i player (game, form) own feasible h.0 h.2
  has_point (ALeast.Below base dir) h = no_fall player is_box aim base dir.items h.0 h.1

  pub point_facts : (answer : LeastAnswer) (x : PointOf) → IsLeastAnswer player aim old new answer
      → IsLeastPoint answer x → (f : Fraction) × IsLeastAt player aim f x
  point_facts (ALeast.At point value tree) x h e =
      (value, subst (IsLeastAt player aim value) (sym e) h.1)
  point_facts (ALeast.Empty tree) x h e = absurd (has_point (ALeast.Empty tree) h)
  point_facts (ALeast.Below base dir) x h e = absurd (has_point (ALeast.Below base dir) h)

  pub tree_facts : (answer : LeastAnswer) → IsLeastAnswer player aim old new answer
      → (t : TreeOf) × IsSearchTree player aim old new t
  tree_facts (ALeast.At point value tree) h = (h.0, h.5)
  tree_facts (ALeast.Empty tree) h = absurd (has_point (ALeast.Empty tree) h)
  tree_facts (ALeast.Below base dir) h = absurd (has_point (ALeast.Below base dir) h)

pub memory_cause : (game : GameOf) (player : PlayerOf) (old new : Purse) (stop : BoxStop)
    → stop ≡ AStop.NoMemory → IsReplyCause game player old new stop
memory_cause game player old new stop e = subst (IsReplyCause game player old new) (sym e) tt

-- a game isn't of both kinds
pub not_both : (game : GameOf) → IsBoxGame game → HasOpenPlayer game → ⊥
not_both game whole h = ⊎_elim pair var h.3
  where
    pair : 0 < length h.1.pairs → ⊥
    pair some = let e = ap length (whole h.0 h.1 h.2).pairs in omega (arith, some, e)

    var : ((v : ℕ) × (x : VarOf) × (slice_get h.1.vars v ≡ Some x) × IsOpenVar x) → ⊥
    var o = no_open o.1 ((whole h.0 h.1 h.2).vars o.0 o.1 o.2) o.3
      where
        no_open : (x : VarOf) → IsBoxVar x → IsOpenVar x → ⊥
        no_open x is =
            ⊎_elim (λ (e : x.whole ≡ false). let f = sym is.whole ∙ e in absurd cc)
            (λ (n : (x.low ≡ None) ⊎ (x.up ≡ None)).
            ⊎_elim (λ (e : x.low ≡ None). let s = subst (λ (o : Option ℤ). IsSome o) e is.low in absurd cc)
            (λ (e : x.up ≡ None). let s = subst (λ (o : Option ℤ). IsSome o) e is.up in absurd cc) n)
