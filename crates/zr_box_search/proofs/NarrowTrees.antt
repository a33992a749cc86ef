-- No deviation of an open box tree over whole points is too wide.
use Rattle.std.proofs.Common.{◌≡◌, ℕ, ◌<◌, ◌==◌, arith, refl, sym, ap, subst, ℤ, pos, ◌+ℤ◌, ◌<ℤ◌, ◌≤ℤ◌, int_le, Bool, true, false, cond, ⊎_elim, inl, inr, IsErr, IsSome, Option, Some, None, Result, Ok, Err, length, ◌⊎◌}
use Rattle.std.specs.Option.{option_map_or}
use Rattle.std.proofs.lemmas.Bool.Decides.{nat_tests}
use Rattle.std.proofs.lemmas.Int.{ints}
use Rattle.std.proofs.lemmas.Option.{slice_get_within}
use Rattle.zr_base.specs.declared.step.Wide.{Wide}
use Rattle.zr_base.specs.Points.{PointOf}
use Rattle.zr_game.specs.Players.{GameOf, PlayerOf}
use Rattle.zr_game.specs.FeasibleSteps.{feasible_wide}
use Rattle.zr_game.specs.Forms.{IsGame, IsPlayer}
use Rattle.zr_game.specs.Leaves.{LeafOf, above, below, greater, lesser, root_leaf}
use Rattle.zr_game.proofs.Items.{one as one_at}
use Rattle.zr_asked.specs.Paths.{IsSplit}
use Rattle.zr_cases.specs.Cases.{DeviateNode}
use Rattle.zr_cases.specs.Trees.{BoxTreeOf, Cut, Empty, Deviate}
use Rattle.zr_boxes.specs.Boxes.{BoxOf, cut_above, cut_below, no_leaf, root_box, with_leaf}
use Rattle.zr_boxes.specs.GainSteps.{gain_steps}
use Rattle.zr_boxes.specs.Right.{IsRightBox}
use Rattle.zr_boxes.specs.Steps.{HasWideGain, IsWideEnd}
use Rattle.zr_box_search.specs.declared.split.BoxSplit.{BoxSplit}
use Rattle.zr_box_search.specs.Drawn.{IsDrawnBox}
use Rattle.zr_box_search.specs.Dues.{AreRanged, IsRanged}
use Rattle.zr_box_search.specs.Fates.{SplitsRange}
use Rattle.zr_box_search.specs.Narrow.{AreNarrowGains}
use Rattle.zr_box_search.specs.OpenBoxes.{IsBoxSplit, IsOpenBox}
use Rattle.zr_box_search.specs.Whole.{IsBoxGame}
use Rattle.zr_box_search.proofs.Bounding.{near_player}
use Rattle.zr_box_search.proofs.Growing.{first_ranged, root_ranged, second_ranged}
use Rattle.zr_box_search.proofs.NarrowGains.{gain_made, test_none}
use Rattle.zr_box_search.proofs.Wholes.{near_whole}

equal_numbers : (v w : ℕ) → (v == w) ≡ true → v ≡ w
equal_numbers v w e = grind (arith, nat_tests)

-- ---- where a split stands between the two bounds

lesser_keeps : (high at : ℤ) → high ≤ℤ at → lesser (Some high) at ≡ high
lesser_keeps high at h = which (int_le high at) refl
  where
    which : (t : Bool) → int_le high at ≡ t → cond (int_le high at) high at ≡ high
    which true e = rw e refl
    which false e = absurd (omega (arith, ints, e, h))

greater_keeps : (low at : ℤ) → (at +ℤ pos 1) ≤ℤ low → greater (Some low) (at +ℤ pos 1) ≡ low
greater_keeps low at h = which (int_le low (at +ℤ pos 1)) refl
  where
    which : (t : Bool) → int_le low (at +ℤ pos 1) ≡ t
        → cond (int_le low (at +ℤ pos 1)) (at +ℤ pos 1) low ≡ low
    which true e = rw e (omega (arith, ints, e, h))
    which false e = rw e refl

module _ (leaf : LeafOf) (v : ℕ) (at : ℤ) (ranged : IsRanged leaf v) where
  same_below : ranged.high ≤ℤ at → below leaf v at ≡ leaf
  same_below h = λ j. record leaf { high = λ w. each w (v == w) refl j }
    where
      each : (w : ℕ) (b : Bool) → (v == w) ≡ b
          → cond (v == w) (Some (lesser (leaf.high w) at)) (leaf.high w) ≡ leaf.high w
      each w true e =
          let s = equal_numbers v w e in
          rw e (subst (λ (k : ℕ). Some (lesser (leaf.high k) at) ≡ leaf.high k) s
          (rw ranged.high_is (ap (λ (z : ℤ). Some z) (lesser_keeps ranged.high at h))))
      each w false e = rw e refl

  same_above : (at +ℤ pos 1) ≤ℤ ranged.low → above leaf v at ≡ leaf
  same_above h = λ j. record leaf { low = λ w. each w (v == w) refl j }
    where
      each : (w : ℕ) (b : Bool) → (v == w) ≡ b
          → cond (v == w) (Some (greater (leaf.low w) (at +ℤ pos 1))) (leaf.low w) ≡ leaf.low w
      each w true e =
          let s = equal_numbers v w e in
          rw e (subst (λ (k : ℕ). Some (greater (leaf.low k) (at +ℤ pos 1)) ≡ leaf.low k) s
          (rw ranged.low_is (ap (λ (z : ℤ). Some z) (greater_keeps ranged.low at h))))
      each w false e = rw e refl

cases_le : (a b : ℤ) → (a ≤ℤ b) ⊎ (b <ℤ a)
cases_le a b = which (int_le a b) refl
  where
    which : (t : Bool) → int_le a b ≡ t → (a ≤ℤ b) ⊎ (b <ℤ a)
    which true e = inl (omega (arith, ints, e))
    which false e = inr (omega (arith, ints, e))

module _ (player : PlayerOf) (leaf : LeafOf) (v : ℕ) (at : ℤ) (i : ℕ)
    (inside : v < length player.vars) (ranged : IsRanged leaf v)
    (split : IsSplit player leaf v at) where
  abbrev own : BoxSplit
  own = record { player = i; var = v; at = at }

  between : SplitsRange player leaf own
  between = record {
    var = inside;
    low = ranged.low;
    high = ranged.high;
    low_is = ranged.low_is;
    high_is = ranged.high_is;
    from_low = ⊎_elim
        (λ (h : (at +ℤ pos 1) ≤ℤ ranged.low). absurd (split.high (same_above leaf v at ranged h)))
        (λ (h : ranged.low <ℤ (at +ℤ pos 1)). omega (arith, ints, h))
        (cases_le (at +ℤ pos 1) ranged.low);
    below_high = ⊎_elim
        (λ (h : ranged.high ≤ℤ at). absurd (split.low (same_below leaf v at ranged h)))
        (λ (h : at <ℤ ranged.high). h) (cases_le ranged.high at);
  }

module _ (game : GameOf) (sound : IsGame game) (whole : IsBoxGame game) where
  pub root_ranges : AreRanged game (root_box game)
  root_ranges k player is v h =
      subst (λ (l : LeafOf). IsRanged l v)
      (sym (ap (λ (o : Option PlayerOf). option_map_or root_leaf o no_leaf) is))
      (root_ranged player (whole k player is) (sound.players k player is).vars v h)

  -- another leaf with ranges
  leaf_ranges : (box : BoxOf) → AreRanged game box → (i : ℕ) (player : PlayerOf)
      → IsPlayer game i player → (leaf : LeafOf)
      → ((w : ℕ) → w < length player.vars → IsRanged leaf w)
      → AreRanged game (with_leaf box i leaf)
  leaf_ranges box ranged i player is leaf own k other found w h = which (i == k) refl
    where
      which : (b : Bool) → (i == k) ≡ b → IsRanged (cond b leaf (box k)) w
      which true e =
          let s = equal_numbers i k e in
          let p = one_at game k player other
          (subst (λ (n : ℕ). IsPlayer game n player) s is) found in
          own w (subst (λ (q : PlayerOf). w < length q.vars) (sym p) h)
      which false e = ranged k other found w h

  module _ (box : BoxOf) (ranged : AreRanged game box) (i v : ℕ) (at : ℤ)
      (split : IsBoxSplit game box i v at) where
    inside : v < length split.0.vars
    inside = slice_get_within split.0.vars v split.2.whole.0 split.2.whole.1

    own_ranges : (w : ℕ) → w < length split.0.vars → IsRanged (box i) w
    own_ranges = ranged i split.0 split.1

    stands : SplitsRange split.0 (box i) (own split.0 (box i) v at i inside (own_ranges v inside) split.2)
    stands = between split.0 (box i) v at i inside (own_ranges v inside) split.2

    below_ranges : AreRanged game (cut_below box i v at)
    below_ranges =
        leaf_ranges box ranged i split.0 split.1 (below (box i) v at)
        (first_ranged split.0 (whole i split.0 split.1) (box i) own_ranges
        (own split.0 (box i) v at i inside (own_ranges v inside) split.2) stands)

    above_ranges : AreRanged game (cut_above box i v at)
    above_ranges =
        leaf_ranges box ranged i split.0 split.1 (above (box i) v at)
        (second_ranged split.0 (whole i split.0 split.1) (box i) own_ranges
        (own split.0 (box i) v at i inside (own_ranges v inside) split.2) stands)

  no_wide_end : (box : BoxOf) → AreRanged game box → (i : ℕ) (x : PointOf)
      → IsRightBox game box (Deviate i x) → x.den ≡ pos 1
      → IsWideEnd game box (DeviateNode i x) → ⊥
  no_wide_end box ranged i x right one wide =
      let p = right.0 in
      let near = near_whole game sound i p right.1 (whole i p right.1) x right.2.feasible one in
      let same = one_player right.1 wide.1 in
      let g = gain_made p i box (near_player game sound box ranged i p right.1) x near in
      let w = subst (λ (q : PlayerOf). HasWideGain q i box x) (sym same) wide.2 in
      ⊎_elim
      (λ (h : IsSome (feasible_wide p x)).
      none_some (feasible_wide p x) (test_none game sound whole i p right.1 x near) h)
      (λ (h : IsErr (gain_steps p i box x (pos 0) 0 (length p.vars))).
      ok_err (gain_steps p i box x (pos 0) 0 (length p.vars)) g.0 g.1 h) w.wide
    where
      one_player : {p q : PlayerOf} → IsPlayer game i p → IsPlayer game i q → p ≡ q
      one_player {p} {q} a b = one_at game i p q a b

      none_some : (o : Option Wide) → o ≡ None → IsSome o → ⊥
      none_some None e h = absurd cc
      none_some (Some w) e h = absurd cc

      ok_err : (r : Result ℤ Wide) (z : ℤ) → r ≡ Ok z → IsErr r → ⊥
      ok_err (Ok a) z e h = absurd cc
      ok_err (Err w) z e h = absurd cc

  pub narrow_tree : (t : BoxTreeOf) (box : BoxOf) → AreRanged game box → IsRightBox game box t
      → IsOpenBox game box t → IsDrawnBox game box t → AreNarrowGains game box t
  narrow_tree (Cut i v at first second) box ranged right open_is drawn = (
    narrow_tree first (cut_below box i v at) (below_ranges box ranged i v at open_is.1) right.1
        open_is.2 drawn.0,
    narrow_tree second (cut_above box i v at) (above_ranges box ranged i v at open_is.1) right.2
        open_is.3 drawn.1,
  )
  narrow_tree (Empty i mult) box ranged right open_is drawn = tt
  narrow_tree (Deviate i x) box ranged right open_is drawn =
      no_wide_end box ranged i x right drawn

  pub narrow_tree_from : (t : BoxTreeOf) → IsRightBox game (root_box game) t
      → IsOpenBox game (root_box game) t → IsDrawnBox game (root_box game) t
      → AreNarrowGains game (root_box game) t
  narrow_tree_from t right open_is drawn =
      narrow_tree t (root_box game) root_ranges right open_is drawn
