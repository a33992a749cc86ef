-- What a search keeps from box to box.
use Rattle.std.proofs.Common.{◌≡◌, ◌≢◌, ℕ, ◌+◌, ◌*◌, ◌<◌, ◌≤◌, ◌==◌, arith, refl, sym, ap, ◌∙◌, subst, ℤ, pos, ◌+ℤ◌, ◌<ℤ◌, ◌≤ℤ◌, int_le, Bool, true, false, cond, Option, Some, None, List, [], ◌∷◌, ◌++◌, length, length-append, append_assoc, All, IsSome, inl, slice_get, option_and_then}
use Rattle.std.specs.Option.{option_map_or}
use Rattle.std.proofs.lemmas.Bool.Decides.{nat_tests}
use Rattle.std.proofs.lemmas.Int.{ints}
use Rattle.std.proofs.lemmas.List.{append-nil}
use Rattle.std.proofs.lemmas.Option.{slice_get_within}
use Rattle.std.proofs.lemmas.List.Elements.{All-push}
use Rattle.zr_io.specs.declared.purse.Purse.{Purse}
use Rattle.zr_game.specs.Players.{GameOf, PlayerOf, VarOf}
use Rattle.zr_game.specs.Forms.{IsGame, IsPlayer, IsVarForm}
use Rattle.zr_game.specs.Leaves.{HasPoint, IsWholeVar, LeafOf, above, below, greater, lesser, root_leaf}
use Rattle.zr_game.proofs.Items.{at_number, one}
use Rattle.zr_tree.specs.Form.{greatest_split, least_split}
use Rattle.zr_asked.specs.declared.question.Move.{Move}
use Rattle.zr_asked.specs.declared.question.Move.TheVariants as AMove
use Rattle.zr_asked.specs.Paths.{IsMove, IsOpenPath, IsSplit, branch, child_by}
use Rattle.zr_branch.specs.Replies.{IsMoveForm}
use Rattle.zr_branch.proofs.Paths.{after_more, moves_more}
use Rattle.zr_cases.specs.Cases.{BNodeOf, CutNode, EmptyNode, DeviateNode}
use Rattle.zr_cases.specs.Forms.{IsBoxForm}
use Rattle.zr_cases.proofs.Forests.{of_boxes}
use Rattle.zr_cases.specs.Trees.{BoxTreeOf, Cut, Empty, Deviate, box_preorder}
use Rattle.zr_boxes.specs.Boxes.{BoxOf, cut_above, cut_below, no_leaf, root_box, with_leaf}
use Rattle.zr_boxes.specs.Right.{IsRightBox}
use Rattle.zr_box_search.specs.declared.split.BoxSplit.{BoxSplit}
use Rattle.zr_bnb.proofs.Directions.{all_get}
use Rattle.zr_box_search.specs.Causes.{BoxWork}
use Rattle.zr_box_search.specs.Drawn.{IsDrawnBox}
use Rattle.zr_box_search.specs.Dues.{AddsMove, LeadsToBox, IsRanged, Paths, box_by, path_at}
use Rattle.zr_box_search.specs.Fates.{AreSearched, SplitsRange, SplitsRangeIn, IsEndNode}
use Rattle.zr_box_search.specs.Narrow.{AreNarrowGains}
use Rattle.zr_box_search.specs.OpenBoxes.{HasEndUnits, HasPoints, HasUnits, IsBoxSplit, IsOpenBox}
use Rattle.zr_box_search.specs.Whole.{IsBoxGame, IsBoxPlayer}

module _ (game : GameOf) where
  -- ---- trees

  -- nothing is asked of an end, or all that the ends of a searched tree show
  abbrev pub IsEndBy : Bool → BoxOf → BNodeOf → Type 0
  IsEndBy true box node = IsEndNode game box node
  IsEndBy false box node = Unit {0}

  -- the tree is open, has such ends, and so many units of work
  abbrev pub IsTreeBy : Bool → BoxOf → BoxTreeOf → ℕ → Type 0
  IsTreeBy full box (Cut i v at first second) n =
      (a : ℕ) × (b : ℕ) × HasPoints game box × IsBoxSplit game box i v at
      × IsTreeBy full (cut_below box i v at) first a
      × IsTreeBy full (cut_above box i v at) second b × (n ≡ 1 + a + b)
  IsTreeBy full box (Empty i mult) n =
      IsEndBy full box (EmptyNode i mult) × HasEndUnits game box n
  IsTreeBy full box (Deviate i x) n = IsEndBy full box (DeviateNode i x) × HasEndUnits game box n

  tree_open : (full : Bool) (box : BoxOf) (t : BoxTreeOf) (n : ℕ) → IsTreeBy full box t n
      → IsOpenBox game box t
  tree_open full box (Cut i v at first second) n h = (
    h.2,
    h.3,
    tree_open full (cut_below box i v at) first h.0 h.4,
    tree_open full (cut_above box i v at) second h.1 h.5,
  )
  tree_open full box (Empty i mult) n h = tt
  tree_open full box (Deviate i x) n h = tt

  tree_units : (full : Bool) (box : BoxOf) (t : BoxTreeOf) (n : ℕ) → IsTreeBy full box t n
      → HasUnits game box t n
  tree_units full box (Cut i v at first second) n h = (
    h.0,
    h.1,
    tree_units full (cut_below box i v at) first h.0 h.4,
    tree_units full (cut_above box i v at) second h.1 h.5,
    h.6,
  )
  tree_units full box (Empty i mult) n h = h.1
  tree_units full box (Deviate i x) n h = h.1

  pub tree_right : (box : BoxOf) (t : BoxTreeOf) (n : ℕ) → IsTreeBy true box t n
      → IsRightBox game box t
  tree_right box (Cut i v at first second) n h = (
    (h.3.0, h.3.1, h.3.2.whole),
    tree_right (cut_below box i v at) first h.0 h.4,
    tree_right (cut_above box i v at) second h.1 h.5,
  )
  tree_right box (Empty i mult) n h = h.0.0
  tree_right box (Deviate i x) n h = h.0.0

  pub tree_drawn : (box : BoxOf) (t : BoxTreeOf) (n : ℕ) → IsTreeBy true box t n
      → IsDrawnBox game box t
  tree_drawn box (Cut i v at first second) n h = (
    tree_drawn (cut_below box i v at) first h.0 h.4,
    tree_drawn (cut_above box i v at) second h.1 h.5,
  )
  tree_drawn box (Empty i mult) n h = h.0.1
  tree_drawn box (Deviate i x) n h = h.0.1

  pub tree_is_open : (full : Bool) (t : BoxTreeOf) (n : ℕ) → IsTreeBy full (root_box game) t n
      → IsOpenBox game (root_box game) t
  tree_is_open full t n h = tree_open full (root_box game) t n h

  pub tree_has_units : (full : Bool) (t : BoxTreeOf) (n : ℕ) → IsTreeBy full (root_box game) t n
      → HasUnits game (root_box game) t n
  tree_has_units full t n h = tree_units full (root_box game) t n h

  -- trees with their units
  abbrev pub Trees : Type 0
  Trees = List (BoxTreeOf × ℕ)

  abbrev pub AllTrees : Bool → List Paths → Trees → Type 0
  AllTrees full [] [] = Unit {0}
  AllTrees full [] (t ∷ ts) = ⊥
  AllTrees full (paths ∷ boxes) [] = ⊥
  AllTrees full (paths ∷ boxes) (t ∷ ts) =
      IsTreeBy full (box_by game paths) t.0 t.1 × AllTrees full boxes ts

  abbrev pub forest : Trees → List BNodeOf
  forest [] = []
  forest (t ∷ ts) = box_preorder t.0 ++ forest ts

  abbrev pub total : Trees → ℕ
  total [] = 0
  total (t ∷ ts) = t.1 + total ts

  abbrev pub LeadToBoxes : List Paths → Type 0
  LeadToBoxes [] = Unit {0}
  LeadToBoxes (paths ∷ boxes) = LeadsToBox game paths × LeadToBoxes boxes

  -- with trees for the boxes that are due, the nodes are those of one tree, with so many units
  -- besides the trees'
  abbrev pub IsPlanned : ℕ → List BNodeOf → List Paths → Type 0
  IsPlanned spent nodes boxes =
      (full : Bool) (ts : Trees) → AllTrees full boxes ts
      → (t : BoxTreeOf) × (n : ℕ) × IsTreeBy full (root_box game) t n
      × (box_preorder t ≡ nodes ++ forest ts) × (n ≡ spent + total ts)

  pub record IsGrowing (nodes : List BNodeOf) (boxes : List Paths) (spent : ℕ) : Type 0 where
    pub due : LeadToBoxes boxes
    pub planned : IsPlanned spent nodes boxes
    pub forms : All IsBoxForm nodes
    pub count : length nodes + length boxes ≤ 2 * spent + 1

  -- ---- boxes

  pub box_at : (paths : Paths) (k : ℕ) (player : PlayerOf) → IsPlayer game k player
      → box_by game paths k ≡ branch player (path_at paths k)
  box_at paths k player is =
      ap (λ (o : Option PlayerOf). option_map_or (λ p. branch p (path_at paths k)) o no_leaf) is

  pub root_by : (paths : Paths) → ((k : ℕ) → path_at paths k ≡ [])
      → box_by game paths ≡ root_box game
  root_by paths none = λ j k. at k j
    where
      at : (k : ℕ) → box_by game paths k ≡ root_box game k
      at k =
          ap (λ (path : List Move). option_map_or (λ p. branch p path) (slice_get game k) no_leaf)
          (none k)

  same_number : (i k : ℕ) → (i == k) ≡ true → i ≡ k
  same_number i k h = grind (arith, nat_tests)

  other_number : (i k : ℕ) → (i == k) ≡ false → k ≢ i
  other_number i k h = grind (arith, nat_tests)

  -- a move of player i leads to the box with another leaf
  module _ (paths : Paths) (i : ℕ) (step : Move) (next : Paths) (child : AddsMove paths i step next)
      (player : PlayerOf) (is : IsPlayer game i player) where
    child_own : box_by game next i ≡ child_by (box_by game paths i) step
    child_own =
        box_at next i player is ∙ ap (branch player) child.own
        ∙ after_more (root_leaf player) (path_at paths i) step
        ∙ ap (λ (l : LeafOf). child_by l step) (sym (box_at paths i player is))

    child_other : (k : ℕ) → k ≢ i → box_by game next k ≡ box_by game paths k
    child_other k apart =
        ap (λ (path : List Move). option_map_or (λ p. branch p path) (slice_get game k) no_leaf)
        (child.others k apart)

    pub child_box : box_by game next ≡ with_leaf (box_by game paths) i
        (child_by (box_by game paths i) step)
    child_box = λ j k. at k (i == k) refl j
      where
        at : (k : ℕ) (b : Bool) → (i == k) ≡ b → box_by game next k
            ≡ cond (i == k) (child_by (box_by game paths i) step) (box_by game paths k)
        at k true e =
            rw e (subst (λ (n : ℕ). box_by game next n ≡ child_by (box_by game paths i) step)
            (same_number i k e) child_own)
        at k false e = rw e (child_other k (other_number i k e))

    -- the child is due
    module _ (due : LeadsToBox game paths) (points : HasPoints game (box_by game paths))
        (move : IsMove player (box_by game paths i) step) (form : IsMoveForm step)
        (ranged : (w : ℕ) → w < length player.vars
        → IsRanged (child_by (box_by game paths i) step) w) where
      leaf_is : box_by game paths i ≡ branch player (path_at paths i)
      leaf_is = box_at paths i player is

      own_open : IsOpenPath player (path_at next i)
      own_open =
          subst (IsOpenPath player) (sym child.own)
          (moves_more player (root_leaf player) (path_at paths i) step (due.open_is i player is)
          (subst (HasPoint player) leaf_is (points i player is))
          (subst (λ (l : LeafOf). IsMove player l step) leaf_is move))

      own_forms : All IsMoveForm (path_at next i)
      own_forms =
          subst (All IsMoveForm) (sym child.own)
          (All-push IsMoveForm (path_at paths i) step (due.forms i player is) form)

      pub child_due : LeadsToBox game next
      child_due = record {
        len = child.len ∙ due.len;
        open_is = λ k other found. by_number (λ n p. IsOpenPath p (path_at next n)) k other found
            own_open
            (λ apart. subst (IsOpenPath other) (sym (child.others k apart))
            (due.open_is k other found));
        forms = λ k other found. by_number (λ n p. All IsMoveForm (path_at next n)) k other found
            own_forms
            (λ apart. subst (All IsMoveForm) (sym (child.others k apart)) (due.forms k other found));
        ranged = λ k other found. by_number
            (λ n p. (v : ℕ) → v < length p.vars → IsRanged (box_by game next n) v) k other found
            (λ v below. subst (λ (l : LeafOf). IsRanged l v) (sym child_own) (ranged v below))
            (λ apart v below. subst (λ (l : LeafOf). IsRanged l v) (sym (child_other k apart))
            (due.ranged k other found v below));
      }
        where
          by_number : (P : ℕ → PlayerOf → Type 0) (k : ℕ) (other : PlayerOf)
              → IsPlayer game k other → P i player → (k ≢ i → P k other) → P k other
          by_number P k other found here there = which (i == k) refl
            where
              which : (b : Bool) → (i == k) ≡ b → P k other
              which true e =
                  let n = same_number i k e in
                  let at = subst (λ (m : ℕ). IsPlayer game m other) (sym n) found in
                  let same = one game i player other is at in
                  subst (λ (m : ℕ). P m other) n (subst (P i) same here)
              which false e = there (other_number i k e)

-- ---- the two sides of a split between two bounds

equal_self : (v : ℕ) → (v == v) ≡ true
equal_self v = grind (arith, nat_tests)

lesser_is : (high at : ℤ) → at <ℤ high → lesser (Some high) at ≡ at
lesser_is high at h = which (int_le high at) refl
  where
    which : (t : Bool) → int_le high at ≡ t → cond (int_le high at) high at ≡ at
    which true e = absurd (omega (arith, ints, e, h))
    which false e = rw e refl

greater_is : (low at : ℤ) → low ≤ℤ at → greater (Some low) (at +ℤ pos 1) ≡ at +ℤ pos 1
greater_is low at h = which (int_le low (at +ℤ pos 1)) refl
  where
    which : (t : Bool) → int_le low (at +ℤ pos 1) ≡ t
        → cond (int_le low (at +ℤ pos 1)) (at +ℤ pos 1) low ≡ at +ℤ pos 1
    which true e = rw e refl
    which false e = absurd (omega (arith, ints, e, h))

module _ (player : PlayerOf) (box_player : IsBoxPlayer player) (leaf : LeafOf)
    (ranged : (w : ℕ) → w < length player.vars → IsRanged leaf w) (split : BoxSplit)
    (between : SplitsRange player leaf split) where
  abbrev v : ℕ
  v = split.var

  abbrev at : ℤ
  at = split.at

  pub sides_whole : IsWholeVar player v
  sides_whole =
      let var = at_number player.vars v between.var in
      (var.0, var.1, (box_player.vars v var.0 var.1).whole)

  here : IsRanged leaf v
  here = ranged v between.var

  same_low : here.low ≡ between.low
  same_low = let e = sym here.low_is ∙ between.low_is in cc

  same_high : here.high ≡ between.high
  same_high = let e = sym here.high_is ∙ between.high_is in cc

  first_high : (below leaf v at).high v ≡ Some at
  first_high =
      rw (equal_self v, between.high_is) (ap (λ (z : ℤ). Some z) (lesser_is between.high at between.below_high))

  second_low : (above leaf v at).low v ≡ Some (at +ℤ pos 1)
  second_low =
      rw (equal_self v, between.low_is) (ap (λ (z : ℤ). Some z) (greater_is between.low at between.from_low))

  first_apart : below leaf v at ≢ leaf
  first_apart e =
      let f = sym first_high ∙ ap (λ (l : LeafOf). l.high v) e ∙ between.high_is in
      let g : at ≡ between.high = cc in
      let h = between.below_high in
      omega (arith, ints, g, h)

  second_apart : above leaf v at ≢ leaf
  second_apart e =
      let f = sym second_low ∙ ap (λ (l : LeafOf). l.low v) e ∙ between.low_is in
      let g : at +ℤ pos 1 ≡ between.low = cc in
      let h = between.from_low in
      omega (arith, ints, g, h)

  pub is_split : IsSplit player leaf v at
  is_split = record { whole = sides_whole; low = first_apart; high = second_apart }

  pub split_form : (least_split ≤ℤ at) × (at ≤ℤ greatest_split)
  split_form =
      let l = between.from_low in
      let h = between.below_high in
      let m = here.least.0 in
      let n = here.greatest.1 in
      let e = same_low in
      let f = same_high in
      (omega (arith, ints, l, m, e), omega (arith, ints, h, n, f))

  pub first_ranged : (w : ℕ) → w < length player.vars → IsRanged (below leaf v at) w
  first_ranged w inside = which (v == w) refl
    where
      which : (b : Bool) → (v == w) ≡ b → IsRanged (below leaf v at) w
      which true e = subst (IsRanged (below leaf v at)) (same v w e) (record {
        low = here.low;
        high = at;
        low_is = here.low_is;
        high_is = first_high;
        least = here.least;
        greatest = (let l = between.from_low in let h = between.below_high in
            let m = here.least.0 in let n = here.greatest.1 in let e = same_low in
            let f = same_high in (omega (arith, ints, l, m, e), omega (arith, ints, h, n, f)));
        ordered = (let l = between.from_low in let e = same_low in omega (arith, ints, l, e));
      })
        where
          same : (v w : ℕ) → (v == w) ≡ true → v ≡ w
          same v w e = grind (arith, nat_tests)
      which false e =
          let r = ranged w inside in
          record {
            low = r.low;
            high = r.high;
            low_is = r.low_is;
            high_is = rw e r.high_is;
            least = r.least;
            greatest = r.greatest;
            ordered = r.ordered;
          }

  pub second_ranged : (w : ℕ) → w < length player.vars → IsRanged (above leaf v at) w
  second_ranged w inside = which (v == w) refl
    where
      which : (b : Bool) → (v == w) ≡ b → IsRanged (above leaf v at) w
      which true e = subst (IsRanged (above leaf v at)) (same v w e) (record {
        low = at +ℤ pos 1;
        high = here.high;
        low_is = second_low;
        high_is = here.high_is;
        least = (let l = between.from_low in let h = between.below_high in
            let m = here.least.0 in let n = here.greatest.1 in let e = same_low in
            let f = same_high in (omega (arith, ints, l, m, e), omega (arith, ints, h, n, f)));
        greatest = here.greatest;
        ordered = (let h = between.below_high in let f = same_high in omega (arith, ints, h, f));
      })
        where
          same : (v w : ℕ) → (v == w) ≡ true → v ≡ w
          same v w e = grind (arith, nat_tests)
      which false e =
          let r = ranged w inside in
          record {
            low = r.low;
            high = r.high;
            low_is = rw e r.low_is;
            high_is = r.high_is;
            least = r.least;
            greatest = r.greatest;
            ordered = r.ordered;
          }

some_is : (o : Option ℤ) → IsSome o → (b : ℤ) × (o ≡ Some b)
some_is None h = absurd cc
some_is (Some b) h = (b, refl)

-- the bounds of all points are ranges
pub root_ranged : (player : PlayerOf) → IsBoxPlayer player → All IsVarForm player.vars → (v : ℕ)
    → v < length player.vars → IsRanged (root_leaf player) v
root_ranged player box forms v below =
    let var = at_number player.vars v below in
    let b = box.vars v var.0 var.1 in
    let f = all_get IsVarForm player.vars v var.0 forms var.1 in
    let l = some_is var.0.low b.low in
    let u = some_is var.0.up b.up in
    record {
      low = l.0;
      high = u.0;
      low_is = ap (option_and_then (λ (w : VarOf). w.low)) var.1 ∙ l.1;
      high_is = ap (option_and_then (λ (w : VarOf). w.up)) var.1 ∙ u.1;
      least = f.low l.0 l.1;
      greatest = f.up u.0 u.1;
      ordered = f.ordered l.0 l.1 u.0 u.1;
    }

module _ (game : GameOf) where
  -- ---- from box to box

  roots_due : IsGame game → IsBoxGame game → (root : Paths) → length root ≡ length game
      → ((k : ℕ) → path_at root k ≡ []) → LeadsToBox game root
  roots_due sound whole root len none = record {
    len = len;
    open_is = λ k player is. subst (IsOpenPath player) (sym (none k)) tt;
    forms = λ k player is. subst (All IsMoveForm) (sym (none k)) (λ j d h. absurd (omega (arith, h)));
    ranged = λ k player is v below. subst (λ (l : LeafOf). IsRanged l v)
        (sym (box_at game root k player is ∙ ap (branch player) (none k)))
        (root_ranged player (whole k player is) (sound.players k player is).vars v below);
  }

  pub growing_at_start : IsGame game → IsBoxGame game → (root : Paths)
      → length root ≡ length game → ((k : ℕ) → path_at root k ≡ [])
      → IsGrowing game [] (root ∷ []) 0
  growing_at_start sound whole root len none = record {
    due = (roots_due sound whole root len none, tt);
    planned = λ full ts all. first full ts all;
    forms = λ k d h. absurd (omega (arith, h));
    count = omega arith;
  }
    where
      first : (full : Bool) (ts : Trees game) → AllTrees game full (root ∷ []) ts
          → (t : BoxTreeOf) × (n : ℕ) × IsTreeBy game full (root_box game) t n
          × (box_preorder t ≡ [] ++ forest game ts) × (n ≡ 0 + total game ts)
      first full [] all = absurd all
      first full (t ∷ []) all = (
        t.0,
        t.1,
        subst (λ (b : BoxOf). IsTreeBy game full b t.0 t.1) (root_by game root none) all.0,
        sym (append-nil (box_preorder t.0)),
        omega arith,
      )
      first full (t ∷ u ∷ ts) all = absurd all.1

  -- an end is a tree by itself
  end_tree : (full : Bool) (box : BoxOf) (node : BNodeOf) (n : ℕ) → IsEndNode game box node
      → HasEndUnits game box n
      → (t : BoxTreeOf) × IsTreeBy game full box t n × (box_preorder t ≡ node ∷ [])
  end_tree full box (CutNode i v bound) n h units = absurd h
  end_tree full box (EmptyNode i mult) n h units = (Empty i mult, (by full h, units), refl)
    where
      by : (full : Bool) → IsEndNode game box (EmptyNode i mult)
          → IsEndBy game full box (EmptyNode i mult)
      by true h = h
      by false h = tt
  end_tree full box (DeviateNode i x) n h units = (Deviate i x, (by full h, units), refl)
    where
      by : (full : Bool) → IsEndNode game box (DeviateNode i x)
          → IsEndBy game full box (DeviateNode i x)
      by true h = h
      by false h = tt

  module _ (nodes : List BNodeOf) (paths : Paths) (boxes : List Paths) (spent : ℕ)
      (g : IsGrowing game nodes (paths ∷ boxes) spent) where
    abbrev box : BoxOf
    box = box_by game paths

    pub close_one : (node : BNodeOf) (n : ℕ) → IsEndNode game box node → IsBoxForm node
        → HasEndUnits game box n → IsGrowing game (nodes ++ node ∷ []) boxes (spent + n)
    close_one node n end form units = record {
      due = g.due.1;
      planned = λ full ts all. planned_ full ts all;
      forms = All-push IsBoxForm nodes node g.forms form;
      count = (let c = g.count in let l = length-append nodes (node ∷ []) in omega (arith, c, l));
    }
      where
        planned_ : (full : Bool) (ts : Trees game) → AllTrees game full boxes ts
            → (t : BoxTreeOf) × (m : ℕ) × IsTreeBy game full (root_box game) t m
            × (box_preorder t ≡ (nodes ++ node ∷ []) ++ forest game ts)
            × (m ≡ (spent + n) + total game ts)
        planned_ full ts all =
            let e = end_tree full box node n end units in
            let t = g.planned full ((e.0, n) ∷ ts) (e.1, all) in
            let u = t.4 in (
              t.0,
              t.1,
              t.2,
              t.3 ∙ ap (λ (ns : List BNodeOf). nodes ++ (ns ++ forest game ts)) e.2
                  ∙ sym (append_assoc nodes (node ∷ []) (forest game ts)),
              omega (arith, u),
            )

    module _ (split : BoxSplit) (points : HasPoints game box)
        (between : SplitsRangeIn game box split) (sound : IsGame game) (whole : IsBoxGame game)
        (lower upper : Paths)
        (first : AddsMove paths split.player (AMove.Low split.var split.at) lower)
        (second : AddsMove paths split.player (AMove.High split.var split.at) upper) where
      abbrev player : PlayerOf
      player = between.0

      abbrev i : ℕ
      i = split.player

      abbrev leaf : LeafOf
      leaf = box i

      box_player : IsBoxPlayer player
      box_player = whole i player between.1

      ranged : (w : ℕ) → w < length player.vars → IsRanged leaf w
      ranged = g.due.0.ranged i player between.1

      splits : IsSplit player leaf split.var split.at
      splits = is_split player box_player leaf ranged split between.2

      lower_due : LeadsToBox game lower
      lower_due =
          child_due game paths i (AMove.Low split.var split.at) lower first player between.1
          g.due.0 points splits (split_form player box_player leaf ranged split between.2)
          (first_ranged player box_player leaf ranged split between.2)

      upper_due : LeadsToBox game upper
      upper_due =
          child_due game paths i (AMove.High split.var split.at) upper second player between.1
          g.due.0 points splits (split_form player box_player leaf ranged split between.2)
          (second_ranged player box_player leaf ranged split between.2)

      lower_box : box_by game lower ≡ cut_below box i split.var split.at
      lower_box =
          child_box game paths i (AMove.Low split.var split.at) lower first player between.1

      upper_box : box_by game upper ≡ cut_above box i split.var split.at
      upper_box =
          child_box game paths i (AMove.High split.var split.at) upper second player between.1

      abbrev node : BNodeOf
      node = CutNode i split.var split.at

      node_form : IsBoxForm node
      node_form =
          let w = slice_get_within game i player between.1 in
          let n = sound.player_count in
          let c = (sound.players i player between.1).var_count in
          let v = between.2.var in (
            (omega (arith, w, n), omega (arith, v, c)),
            split_form player box_player leaf ranged split between.2,
          )

      pub split_one : IsGrowing game (nodes ++ node ∷ []) (lower ∷ upper ∷ boxes) (spent + 1)
      split_one = record {
        due = (lower_due, (upper_due, g.due.1));
        planned = λ full ts all. planned_ full ts all;
        forms = All-push IsBoxForm nodes node g.forms node_form;
        count = (let c = g.count in let l = length-append nodes (node ∷ []) in omega (arith, c, l));
      }
        where
          planned_ : (full : Bool) (ts : Trees game) → AllTrees game full (lower ∷ upper ∷ boxes) ts
              → (t : BoxTreeOf) × (m : ℕ) × IsTreeBy game full (root_box game) t m
              × (box_preorder t ≡ (nodes ++ node ∷ []) ++ forest game ts)
              × (m ≡ (spent + 1) + total game ts)
          planned_ full [] all = absurd all
          planned_ full (s ∷ []) all = absurd all.1
          planned_ full (s ∷ u ∷ ts) all =
              let cut : BoxTreeOf = Cut i split.var split.at s.0 u.0 in
              let n : ℕ = 1 + s.1 + u.1 in
              let below_ = subst (λ (b : BoxOf). IsTreeBy game full b s.0 s.1) lower_box all.0 in
              let above_ = subst (λ (b : BoxOf). IsTreeBy game full b u.0 u.1) upper_box all.1.0 in
              let t = g.planned full ((cut, n) ∷ ts)
              ((s.1, u.1, points, (player, between.1, splits), below_, above_, refl), all.1.1) in
              let e = t.4 in (
                t.0,
                t.1,
                t.2,
                t.3 ∙ ap (λ (ns : List BNodeOf). nodes ++ (node ∷ ns))
                    (append_assoc (box_preorder s.0) (box_preorder u.0) (forest game ts))
                    ∙ sym (append_assoc nodes (node ∷ [])
                    (box_preorder s.0 ++ (box_preorder u.0 ++ forest game ts))),
                omega (arith, e),
              )

  -- ---- at the end

  -- nothing is asked of the boxes that are due
  abbrev no_trees : List Paths → Trees game
  no_trees [] = []
  no_trees (paths ∷ boxes) = (Empty 0 [], 0) ∷ no_trees boxes

  no_trees_are : (boxes : List Paths) → AllTrees game false boxes (no_trees boxes)
  no_trees_are [] = tt
  no_trees_are (paths ∷ boxes) = ((tt, inl refl), no_trees_are boxes)

  no_units : (boxes : List Paths) → total game (no_trees boxes) ≡ 0
  no_units [] = refl
  no_units (paths ∷ boxes) = let r = no_units boxes in omega (arith, r)

  -- an open tree with the units so far, and those of an end of the next box
  pub work_with : (nodes : List BNodeOf) (paths : Paths) (boxes : List Paths) (spent n : ℕ)
      → IsGrowing game nodes (paths ∷ boxes) spent → HasEndUnits game (box_by game paths) n
      → (work : BoxWork game) × (work.units_of ≡ spent + n)
  work_with nodes paths boxes spent n g units =
      let t = g.planned false ((Empty 0 [], n) ∷ no_trees boxes)
      ((tt, units), no_trees_are boxes) in
      let z = no_units boxes in
      let u = t.4 in (
        record {
          tree = t.0;
          open_is = tree_is_open game false t.0 t.1 t.2;
          units_of = t.1;
          units_are = tree_has_units game false t.0 t.1 t.2;
        },
        omega (arith, z, u),
      )

  pub work_of : (nodes : List BNodeOf) (boxes : List Paths) (spent : ℕ)
      → IsGrowing game nodes boxes spent → (work : BoxWork game) × (work.units_of ≡ spent)
  work_of nodes boxes spent g =
      let t = g.planned false (no_trees boxes) (no_trees_are boxes) in
      let z = no_units boxes in
      let u = t.4 in (
        record {
          tree = t.0;
          open_is = tree_is_open game false t.0 t.1 t.2;
          units_of = t.1;
          units_are = tree_has_units game false t.0 t.1 t.2;
        },
        omega (arith, z, u),
      )

  pub searched_at_end : (nodes : List BNodeOf) (spent : ℕ) (old new : Purse)
      → spent ≤ 1000000000 → new.branches ≡ old.branches + spent
      → ((t : BoxTreeOf) → IsRightBox game (root_box game) t → IsOpenBox game (root_box game) t
      → IsDrawnBox game (root_box game) t → AreNarrowGains game (root_box game) t)
      → IsGrowing game nodes [] spent → AreSearched game old new nodes
  searched_at_end nodes spent old new few paid narrow g =
      let t = g.planned true [] tt in
      let e = t.3 ∙ append-nil nodes in
      let c = g.count in
      let u = t.4 in
      let right = tree_right game (root_box game) t.0 t.1 t.2 in
      let open_is = tree_is_open game true t.0 t.1 t.2 in
      let drawn = tree_drawn game (root_box game) t.0 t.1 t.2 in
      record {
        form = record {
          whole = of_boxes nodes (t.0, e);
          few = omega (arith, c, few);
          forms = g.forms;
        };
        tree = t.0;
        nodes_are = e;
        searched = record {
          right = right;
          open_is = open_is;
          drawn = drawn;
          narrow = narrow t.0 right open_is drawn;
          spent = t.1;
          units_are = tree_has_units game true t.0 t.1 t.2;
          branches = omega (arith, paid, u);
          few = (let l = ap length e in omega (arith, c, u, l));
        };
      }
