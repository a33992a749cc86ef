-- A single profile: its slopes and gains exactly, and when it is an equilibrium.
use Rattle.std.proofs.Common.{◌≡◌, ℕ, zero, suc, ◌+◌, ◌<◌, ◌≤◌, ◌==◌, arith, refl, sym, ap, ap₂, ◌∙◌, subst, ℤ, pos, negsuc, neg_ℤ, ◌+ℤ◌, ◌-ℤ◌, ◌*ℤ◌, ◌<ℤ◌, ◌≤ℤ◌, int_lt, Bool, true, false, cond, ◌||◌, Option, Some, List, [], ◌∷◌, map, length, get_or, slice_get, ⊎_elim}
use Rattle.std.specs.List.{filter, list_any}
use Rattle.std.specs.Option.{unwrap_or}
use Rattle.std.proofs.lemmas.Int.{ints}
use Rattle.std.proofs.lemmas.Bool.{cases_lt}
use Rattle.std.proofs.lemmas.List.{get_or-map, get_or_past}
use Rattle.std.proofs.lemmas.Option.{slice_get_within}
use Rattle.zr_base.specs.Fractions.{IsAtMost, IsSame, times, whole}
use Rattle.zr_base.specs.Points.{PointOf, num_of, value_of}
use Rattle.zr_base.specs.Sums.{sum_products, sum_to}
use Rattle.zr_base.specs.Terms.{Terms, coef_at}
use Rattle.zr_base.proofs.Dense.{sum_to-add, sum_to-mul, sum_to_same}
use Rattle.zr_base.proofs.Members.{each_filter, each_of_all}
use Rattle.zr_base.proofs.Ring.{spread}
use Rattle.zr_base.proofs.Worth.{Each, Worth, at_most, sum_list, worth-below, worth-multiple, worth-plus, worth-sum, worth-times, worth-whole, worth-wider}
use Rattle.zr_game.specs.declared.player.CrossTerm.{CrossTerm}
use Rattle.zr_game.specs.Players.{GameOf, PlayerOf}
use Rattle.zr_game.specs.Costs.{point_of}
use Rattle.zr_game.specs.Feasible.{IsFeasible}
use Rattle.zr_game.specs.Forms.{IsCrossForm, IsGame, IsPlayer}
use Rattle.zr_game.specs.Leaves.{IsSettled, MeetsLeaf}
use Rattle.zr_game.specs.Means.{along_slope, mean, slope}
use Rattle.zr_game.specs.Profiles.{Profile, strategy_of, surely}
use Rattle.zr_game.proofs.Items.{at_number}
use Rattle.zr_game.proofs.MeanLaws.{equilibria}
use Rattle.zr_game.proofs.PurePoints.{AreFeasible, surely_profile, surely_pure}
use Rattle.zr_game.proofs.SamePoints.{feasible_same}
use Rattle.zr_simplex.specs.Programs.{numbers}
use Rattle.zr_tree.proofs.LeafRows.{high_reads, low_reads}
use Rattle.zr_tree.proofs.SettledLeaves.{KeepsRoot, settled_feasible}
use Rattle.zr_boxes.specs.Boxes.{BoxOf}
use Rattle.zr_boxes.specs.Gains.{counts, cross_of_var, least_gain, slope_range, var_gain, way_range}
use Rattle.zr_boxes.specs.Ranges.{least_product, lesser_of, range_of}
use Rattle.zr_box_search.specs.Answers.{HasPureEquilibrium}
use Rattle.zr_box_search.specs.Causes.{IsPureSlope}
use Rattle.zr_box_search.specs.Fates.{HasNoBetter}
use Rattle.zr_box_search.specs.OpenBoxes.{IsSingle}
use Rattle.zr_box_search.specs.Sides.{end_of, end_pairs, high_end, low_end}
use Rattle.zr_box_search.specs.Whole.{IsBoxGame}

-- ---- variables that stand in no term

no_own : (ts : Terms) (v : ℕ) → list_any (λ t. t.0 == v) ts ≡ false → coef_at ts v ≡ pos 0
no_own [] v e = refl
no_own (t ∷ ts) v e = on (t.0 == v) e (no_own ts v)
  where
    on : (b : Bool) → b || list_any (λ t. t.0 == v) ts ≡ false
        → (list_any (λ t. t.0 == v) ts ≡ false → coef_at ts v ≡ pos 0)
        → cond b t.1 (coef_at ts v) ≡ pos 0
    on true e rest = absurd cc
    on false e rest = rest e

no_cross : (ts : List CrossTerm) (v : ℕ) → list_any (λ t. t.own == v) ts ≡ false
    → filter (λ t. t.own == v) ts ≡ []
no_cross [] v e = refl
no_cross (t ∷ ts) v e = on (t.own == v) e (no_cross ts v)
  where
    on : (b : Bool) → b || list_any (λ t. t.own == v) ts ≡ false
        → (list_any (λ t. t.own == v) ts ≡ false → filter (λ t. t.own == v) ts ≡ [])
        → cond b (t ∷ filter (λ t. t.own == v) ts) (filter (λ t. t.own == v) ts) ≡ []
    on true e rest = absurd cc
    on false e rest = rest e

both_false : (a b : Bool) → a || b ≡ false → (a ≡ false) × (b ≡ false)
both_false true b e = absurd cc
both_false false b e = (refl, e)

module _ (player : PlayerOf) (box : BoxOf) (v : ℕ) (e : counts player v ≡ false) where
  none : (list_any (λ t. t.0 == v) player.cost ≡ false)
      × (list_any (λ t. t.own == v) player.cross ≡ false)
  none =
      both_false (list_any (λ t. t.0 == v) player.cost) (list_any (λ t. t.own == v) player.cross) e

  flat_end : (end : ℤ → ℤ → ℤ → ℤ)
      → coef_at player.cost v +ℤ sum_products (end_pairs end box v player.cross) ≡ pos 0
  flat_end end =
      ap₂ (λ (a : ℤ) (ts : List CrossTerm). a +ℤ sum_products
      (map (λ t. (t.coef, end_of end box t)) ts))
      (no_own player.cost v none.0) (no_cross player.cross v none.1)

  pub flat_low : (slope_range player box v).low ≡ pos 0
  flat_low = flat_end low_end

  pub flat_high : (slope_range player box v).high ≡ pos 0
  flat_high = flat_end high_end

zero_products : (a b c d : ℤ) → c ≡ pos 0 → d ≡ pos 0
    → lesser_of (lesser_of (a *ℤ c) (a *ℤ d)) (lesser_of (b *ℤ c) (b *ℤ d)) ≡ pos 0
zero_products a b c d low high = rw (low, high, none a, none b) refl
  where
    none : (z : ℤ) → z *ℤ pos 0 ≡ pos 0
    none z = omega (arith, ints)

-- what doesn't count adds nothing also without a test
pub gain_plain : (player : PlayerOf) (i : ℕ) (box : BoxOf) (x : PointOf) (v : ℕ)
    → var_gain player i box x v ≡ least_product (way_range i box x v) (slope_range player box v)
gain_plain player i box x v = on (counts player v) refl
  where
    on : (b : Bool) → counts player v ≡ b
        → cond (counts player v) (least_product (way_range i box x v) (slope_range player box v))
        (pos 0) ≡ least_product (way_range i box x v) (slope_range player box v)
    on true e = rw e refl
    on false e =
        rw e (sym (zero_products (way_range i box x v).low (way_range i box x v).high
        (slope_range player box v).low (slope_range player box v).high
        (flat_low player box v e) (flat_high player box v e)))

-- ---- ranges of one value

low_same : (a l h : ℤ) → l ≡ h → low_end a l h ≡ l
low_same a l h e = which (int_lt (a *ℤ h) (a *ℤ l))
  where
    which : (t : Bool) → cond t h l ≡ l
    which true = sym e
    which false = refl

high_same : (a l h : ℤ) → l ≡ h → high_end a l h ≡ l
high_same a l h e = which (int_lt (a *ℤ l) (a *ℤ h))
  where
    which : (t : Bool) → cond t h l ≡ l
    which true = sym e
    which false = refl

lesser_same : (a : ℤ) → lesser_of a a ≡ a
lesser_same a = which (int_lt a a)
  where
    which : (t : Bool) → cond t a a ≡ a
    which true = refl
    which false = refl

one_product : (a b c d : ℤ) → a ≡ b → c ≡ d
    → lesser_of (lesser_of (a *ℤ c) (a *ℤ d)) (lesser_of (b *ℤ c) (b *ℤ d)) ≡ a *ℤ c
one_product a b c d e f =
    rw (sym e, sym f, lesser_same (a *ℤ c)) (lesser_same (a *ℤ c))

-- the numbers of a player's own point in the box, from variable v on
abbrev pub lows_from : BoxOf → ℕ → ℕ → ℕ → List ℤ
lows_from box i v zero = []
lows_from box i v (suc n) = (range_of box i v).low ∷ lows_from box i (suc v) n

abbrev pub low_point : BoxOf → ℕ → PlayerOf → PointOf
low_point box i player = record {
  num = lows_from box i 0 (length player.vars);
  den = pos 1;
}

-- the points of the players from number i on
abbrev pub low_points : BoxOf → ℕ → GameOf → List PointOf
low_points box i [] = []
low_points box i (player ∷ players) = low_point box i player ∷ low_points box (suc i) players

lows_len : (box : BoxOf) (i v n : ℕ) → length (lows_from box i v n) ≡ n
lows_len box i v zero = refl
lows_len box i v (suc n) = ap suc (lows_len box i (suc v) n)

low_num : (box : BoxOf) (i v n w : ℕ) → w < n
    → get_or (lows_from box i v n) w (pos 0) ≡ (range_of box i (v + w)).low
low_num box i v zero w h = absurd (omega (arith, h))
low_num box i v (suc n) zero h =
    let e : v ≡ v + 0 = omega arith in ap (λ (k : ℕ). (range_of box i k).low) e
low_num box i v (suc n) (suc w) h =
    let e : suc v + w ≡ v + suc w = omega arith in
    low_num box i (suc v) n w (omega (arith, h)) ∙ ap (λ (k : ℕ). (range_of box i k).low) e

points_len : (box : BoxOf) (i : ℕ) (game : GameOf) → length (low_points box i game) ≡ length game
points_len box i [] = refl
points_len box i (player ∷ players) = ap suc (points_len box (suc i) players)

point_is : (box : BoxOf) (i : ℕ) (game : GameOf) (k : ℕ) (player : PlayerOf)
    → slice_get game k ≡ Some player
    → point_of (low_points box i game) k ≡ low_point box (i + k) player
point_is box i [] k player is = absurd cc
point_is box i (own ∷ players) zero player is =
    let e : own ≡ player = cc in
    let n : i ≡ i + 0 = omega arith in
    ap₂ (low_point box) n e
point_is box i (own ∷ players) (suc k) player is =
    let n : suc i + k ≡ i + suc k = omega arith in
    point_is box (suc i) players k player is ∙ ap (λ (m : ℕ). low_point box m player) n

module _ (game : GameOf) (sound : IsGame game) (whole_is : IsBoxGame game) (box : BoxOf)
    (single : IsSingle game box)
    (keeps : (k : ℕ) (player : PlayerOf) → IsPlayer game k player → KeepsRoot player (box k)) where
  one_range : (k : ℕ) (player : PlayerOf) → IsPlayer game k player → (v : ℕ)
      → v < length player.vars → (range_of box k v).low ≡ (range_of box k v).high
  one_range k player is v h =
      let o = single.values k player is v h in
      ap (λ (b : Option ℤ). unwrap_or b (pos 0)) (o.1 ∙ sym o.2)

  own_num : (k : ℕ) (player : PlayerOf) (v : ℕ) → v < length player.vars
      → num_of (low_point box k player) v ≡ (range_of box k v).low
  own_num k player v h =
      let e : 0 + v ≡ v = omega arith in
      low_num box k 0 (length player.vars) v h ∙ ap (λ (n : ℕ). (range_of box k n).low) e

  own_settled : (k : ℕ) (player : PlayerOf) → IsPlayer game k player → IsSettled player (box k)
  own_settled k player is = record {
    vars = λ v var found t. single.values k player is v (slice_get_within player.vars v var found);
    pairs = λ p h e. (let n = ap length (whole_is k player is).pairs in
        absurd (omega (arith, h, n)));
  }

  module _ (k : ℕ) (player : PlayerOf) (is : IsPlayer game k player) (x : PointOf)
      (meets : MeetsLeaf player (box k) x) where
    same_inside : (v : ℕ) → v < length player.vars
        → num_of x v *ℤ pos 1 ≡ num_of (low_point box k player) v *ℤ x.den
    same_inside v h =
        let o = single.values k player is v h in
        let l = low_reads player x (box k) meets v o.0 h o.1 in
        let u = high_reads player x (box k) meets v o.0 h o.2 in
        let n = own_num k player v h ∙ ap (λ (b : Option ℤ). unwrap_or b (pos 0)) o.1 in
        rw n (omega (arith, ints, l, u))

    same_outside : (v : ℕ) → length player.vars ≤ v
        → num_of x v *ℤ pos 1 ≡ num_of (low_point box k player) v *ℤ x.den
    same_outside v h =
        let len = meets.len in
        let own_len = lows_len box k 0 (length player.vars) in
        let n = get_or_past x.num v (pos 0) (omega (arith, len, h)) in
        let m = get_or_past (low_point box k player).num v (pos 0) (omega (arith, own_len, h)) in
        rw (n, m) (omega (arith, ints))

    feasible_from : IsFeasible player (low_point box k player)
    feasible_from =
        let form = sound.players k player is in
        feasible_same x (low_point box k player) (record {
          left = meets.point;
          right = omega (arith, ints);
          len = meets.len ∙ sym (lows_len box k 0 (length player.vars));
          values = λ v. ⊎_elim (same_inside v) (same_outside v) (cases_lt v (length player.vars));
        }) player
        (settled_feasible player (box k) (keeps k player is) x meets form.rows form.pairs
        form.from_zero (own_settled k player is))

  -- a player's own point is feasible
  pub own_feasible : (k : ℕ) (player : PlayerOf) → IsPlayer game k player
      → IsFeasible player (low_point box k player)
  own_feasible k player is =
      let p = single.points k player is in feasible_from k player is p.0 p.1

  abbrev points : List PointOf
  points = low_points box 0 game

  own_point : (k : ℕ) (player : PlayerOf) → IsPlayer game k player
      → point_of points k ≡ low_point box k player
  own_point k player is =
      let e : 0 + k ≡ k = omega arith in
      point_is box 0 game k player is ∙ ap (λ (n : ℕ). low_point box n player) e

  are_feasible : AreFeasible game points
  are_feasible = record {
    len = points_len box 0 game;
    feasible = λ k player is. subst (IsFeasible player) (sym (own_point k player is))
        (own_feasible k player is);
  }

  abbrev profile : Profile
  profile = map surely points

  played : (k : ℕ) (player : PlayerOf) → IsPlayer game k player
      → strategy_of profile k ≡ surely (low_point box k player)
  played k player is =
      let w = slice_get_within game k player is in
      let n = points_len box 0 game in
      get_or-map surely points k (record { num = List.[]; den = pos 1 }) [] (omega (arith, w, n))
      ∙ ap surely (own_point k player is)

  mean_worth : (d : ℤ) (x : PointOf) (v : ℕ) → (pos 0) <ℤ x.den → x.den ≡ d
      → Worth d (mean (surely x) v) (num_of x v)
  mean_worth d x v positive e =
      let n : (mean (surely x) v).num ≡ num_of x v = omega (arith, ints) in
      let m : (mean (surely x) v).den ≡ x.den = omega (arith, ints) in
      record { below = rw m positive; equal = rw (n, m, e) refl }

  played_worth : (k : ℕ) (player : PlayerOf) → IsPlayer game k player → (v : ℕ)
      → v < length player.vars
      → Worth (pos 1) (mean (strategy_of profile k) v) (range_of box k v).low
  played_worth k player is v h =
      subst (λ n. Worth (pos 1) (mean (strategy_of profile k) v) n) (own_num k player v h)
      (subst (λ s. Worth (pos 1) (mean s v) (num_of (low_point box k player) v))
      (sym (played k player is))
      (mean_worth (pos 1) (low_point box k player) v (omega (arith, ints)) refl))

  module _ (i : ℕ) (player : PlayerOf) (is : IsPlayer game i player) where
    -- the slope along v
    abbrev a : ℕ → ℤ
    a v = (slope_range player box v).low

    abbrev IsOne : CrossTerm → Type 0
    IsOne t = (range_of box t.player t.var).low ≡ (range_of box t.player t.var).high

    abbrev IsTerm : CrossTerm → Type 0
    IsTerm t = IsCrossForm game i (length player.vars) t

    term_one : (t : CrossTerm) → IsTerm t → IsOne t
    term_one t f =
        let other = at_number game t.player f.player in
        one_range t.player other.0 other.1 t.var (f.var other.0 other.1)

    terms_of : (v : ℕ) → Each IsTerm (cross_of_var player v)
    terms_of v =
        each_filter IsTerm (λ t. t.own == v) player.cross
        (each_of_all IsTerm player.cross (sound.players i player is).cross)

    sum_is : (end : ℤ → ℤ → ℤ → ℤ) → ((c l h : ℤ) → l ≡ h → end c l h ≡ l)
        → (ts : List CrossTerm) → Each IsTerm ts
        → sum_products (map (λ t. (t.coef, end_of end box t)) ts)
        ≡ sum_list ts (λ t. t.coef *ℤ (range_of box t.player t.var).low)
    sum_is end same [] all = refl
    sum_is end same (t ∷ ts) all =
        ap₂ (λ (z s : ℤ). t.coef *ℤ z +ℤ s)
        (same t.coef (range_of box t.player t.var).low (range_of box t.player t.var).high
        (term_one t all.0))
        (sum_is end same ts all.1)

    one_slope : (v : ℕ) → (slope_range player box v).low ≡ (slope_range player box v).high
    one_slope v =
        ap (λ z. coef_at player.cost v +ℤ z) (sum_is low_end low_same (cross_of_var player v) (terms_of v)
        ∙ sym (sum_is high_end high_same (cross_of_var player v) (terms_of v)))

    pub slope_worth : (v : ℕ) → Worth (pos 1) (slope player profile v) (a v)
    slope_worth v =
        let c = coef_at player.cost v in
        let ts = cross_of_var player v in
        let sum = worth-sum (pos 1) IsTerm ts
        (λ t. times (whole t.coef) (mean (strategy_of profile t.player) t.var))
        (λ t. t.coef *ℤ (range_of box t.player t.var).low)
        (λ t f. term_worth t f) (terms_of v) in
        let all = worth-plus (pos 1) (whole c) _ (c *ℤ pos 1) _ (worth-whole (pos 1) c) sum in
        let e : c *ℤ pos 1 ≡ c = omega (arith, ints) in
        subst (λ n. Worth (pos 1) (slope player profile v) n)
        (ap₂ ◌+ℤ◌ e (sym (sum_is low_end low_same ts (terms_of v)))) all
      where
        term_worth : (t : CrossTerm) → IsTerm t
            → Worth (pos 1) (times (whole t.coef) (mean (strategy_of profile t.player) t.var))
            (t.coef *ℤ (range_of box t.player t.var).low)
        term_worth t f =
            let other = at_number game t.player f.player in
            worth-multiple (pos 1) t.coef (mean (strategy_of profile t.player) t.var)
            (range_of box t.player t.var).low
            (played_worth t.player other.0 other.1 t.var (f.var other.0 other.1))

    -- it is that at a pure profile
    pub slope_same : (v : ℕ) → IsSame (slope player profile v) (whole (a v))
    slope_same v =
        let w = slope_worth v in
        record { left = w.below; right = omega (arith, ints); cross = w.equal }

    -- the sums of slope times value at the own point and at another one
    abbrev pub own_sum : ℤ
    own_sum = sum_to (length player.vars) (λ v. a v *ℤ (range_of box i v).low)

    abbrev pub sum_at : PointOf → ℤ
    sum_at x = sum_to (length player.vars) (λ v. a v *ℤ num_of x v)

    part_is : (x : PointOf) (v : ℕ) → v < length player.vars → var_gain player i box x v
        ≡ x.den *ℤ (a v *ℤ (range_of box i v).low) +ℤ neg_ℤ (a v *ℤ num_of x v)
    part_is x v h =
        gain_plain player i box x v
        ∙ one_product (way_range i box x v).low (way_range i box x v).high
        (slope_range player box v).low (slope_range player box v).high
        (ap (λ z. x.den *ℤ z -ℤ num_of x v) (one_range i player is v h)) (one_slope v)
        ∙ flat x.den (range_of box i v).low (num_of x v) (a v)
      where
        flat : (d p n s : ℤ) → (d *ℤ p -ℤ n) *ℤ s ≡ d *ℤ (s *ℤ p) +ℤ neg_ℤ (s *ℤ n)
        flat d p n s =
            let e : d *ℤ p -ℤ n ≡ d *ℤ p +ℤ neg_ℤ n = omega (arith, ints) in
            ap (λ z. z *ℤ s) e ∙ simp spread refl

    pub gain_is : (x : PointOf) → least_gain player i box x ≡ x.den *ℤ own_sum +ℤ neg_ℤ (sum_at x)
    gain_is x =
        let n = length player.vars in
        let f = λ (v : ℕ). x.den *ℤ (a v *ℤ (range_of box i v).low) in
        let g = λ (v : ℕ). neg_ℤ (a v *ℤ num_of x v) in
        let minus = sum_to_same n g (λ v. negsuc 0 *ℤ (a v *ℤ num_of x v))
        (λ v h. omega (arith, ints)) ∙ sum_to-mul n (negsuc 0) (λ v. a v *ℤ num_of x v) in
        sum_to_same n (var_gain player i box x) (λ v. f v +ℤ g v) (λ v h. part_is x v h)
        ∙ sum_to-add n f g
        ∙ ap₂ ◌+ℤ◌ (sum_to-mul n x.den (λ v. a v *ℤ (range_of box i v).low))
        (minus ∙ omega (arith, ints))

    own_worth : Worth (pos 1 *ℤ pos 1) (along_slope player profile (mean (strategy_of profile i)))
        own_sum
    own_worth =
        worth-below (pos 1 *ℤ pos 1) (length player.vars) _ _
        (λ v h. worth-times (pos 1) (pos 1) (slope player profile v)
        (mean (strategy_of profile i) v) (a v) (range_of box i v).low (slope_worth v)
        (played_worth i player is v h))

    other_worth : (x : PointOf) → (pos 0) <ℤ x.den
        → Worth (pos 1 *ℤ x.den) (along_slope player profile (value_of x)) (sum_at x)
    other_worth x positive =
        worth-below (pos 1 *ℤ x.den) (length player.vars) _ _
        (λ v h. worth-times (pos 1) x.den (slope player profile v) (value_of x v) (a v)
        (num_of x v) (slope_worth v) (record { below = positive; equal = refl }))

    -- no point with a gain of 0 at most is better
    no_better : (x : PointOf) → IsFeasible player x → least_gain player i box x ≤ℤ (pos 0)
        → IsAtMost (along_slope player profile (mean (strategy_of profile i)))
        (along_slope player profile (value_of x))
    no_better x feasible most =
        let d = x.den in
        let e : (pos 1 *ℤ pos 1) *ℤ d ≡ pos 1 *ℤ d = omega (arith, ints) in
        let w = subst (λ z. Worth z (along_slope player profile (mean (strategy_of profile i)))
        (own_sum *ℤ d)) e (worth-wider (pos 1 *ℤ pos 1) d
        (along_slope player profile (mean (strategy_of profile i))) own_sum own_worth) in
        let g = gain_is x in
        let turn : d *ℤ own_sum ≡ own_sum *ℤ d = simp spread refl in
        let positive : (pos 0) <ℤ (pos 1 *ℤ d) = let p = feasible.point in omega (arith, ints, p) in
        at_most (pos 1 *ℤ d) (along_slope player profile (mean (strategy_of profile i)))
        (along_slope player profile (value_of x)) (own_sum *ℤ d) (sum_at x) positive w
        (other_worth x feasible.point) (omega (arith, ints, most, g, turn))

  -- where no player has a better point the profile is an equilibrium
  pub is_equilibrium : ((k : ℕ) (player : PlayerOf) → IsPlayer game k player
      → HasNoBetter player k box) → HasPureEquilibrium game
  is_equilibrium none = (
    profile,
    surely_pure points,
    (equilibria game sound profile (surely_profile game points are_feasible)).1
        (λ i player is x feasible. no_better i player is x feasible (none i player is x feasible)),
  )

  pub pure_slope : (i : ℕ) (player : PlayerOf) → IsPlayer game i player → (aim : List ℤ)
      → length aim ≡ length player.vars
      → ((v : ℕ) → v < length player.vars → numbers aim v ≡ (slope_range player box v).low)
      → IsPureSlope game player aim
  pure_slope i player is aim len each = (
    profile,
    surely_profile game points are_feasible,
    surely_pure points,
    len,
    λ v h. subst (λ z. IsSame (slope player profile v) (whole z)) (sym (each v h))
        (slope_same i player is v),
  )
