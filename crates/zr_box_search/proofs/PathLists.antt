-- Paths and leaves of the players, one after another.
use Rattle.std.proofs.Common.{◌≡◌, ℕ, zero, suc, ◌+◌, ◌-◌, ◌<◌, ◌≤◌, arith, refl, sym, ap, ap₂, ◌∙◌, subst, Vec, Option, Some, None, List, [], ◌∷◌, ◌++◌, length, length-append, get_or, slice_get, ⊎_elim, ◌+ℤ◌, ◌*ℤ◌, ◌≤ℤ◌, int_lt, ℤ, pos, ◌==◌, Bool, true, false, cond, drop, drop-cons, add-one}
use Rattle.std.specs.Prelude.{MatchOption, option_to_list}
use Rattle.std.specs.Option.{option_map_or, unwrap_or}
use Rattle.std.specs.declared.alloc.Global.{Global}
use Rattle.std.proofs.lemmas.Bool.{cases_lt}
use Rattle.std.proofs.lemmas.Int.{ints}
use Rattle.std.proofs.lemmas.List.{drop_all, length-map, get_or-append_right, get_or-map, get_or_append_left, map-append}
use Rattle.std.proofs.lemmas.Option.{get_or_from_slice_get, slice_get_past}
use Rattle.zr_base.specs.Sums.{sum_products}
use Rattle.zr_game.specs.declared.leaf.Leaf.{Leaf}
use Rattle.zr_game.specs.declared.player.CrossTerm.{CrossTerm}
use Rattle.zr_game.specs.Players.{GameOf, PlayerOf}
use Rattle.zr_game.specs.Forms.{IsPlayer}
use Rattle.zr_game.specs.Leaves.{IsLeafOf, leaf_of}
use Rattle.zr_game.proofs.Items.{at_number, one}
use Rattle.zr_asked.specs.declared.question.Move.{Move}
use Rattle.zr_asked.specs.Paths.{branch}
use Rattle.zr_boxes.specs.Boxes.{BoxOf, no_leaf}
use Rattle.zr_boxes.specs.Paths.{box_of}
use Rattle.zr_boxes.specs.Ranges.{range_of}
use Rattle.zr_box_search.specs.Dues.{AreLeaves, IsRanged, Paths, box_by, due_of, due_on, moves_of, path_at}
use Rattle.zr_box_search.specs.OpenBoxes.{HasOneValue}
use Rattle.zr_box_search.specs.Sides.{end_of, end_pairs, high_end, low_end}

-- ---- paths

pub push_left : (xs : List (Vec Move Global)) (x : Vec Move Global) (j : ℕ) → j < length xs
    → path_at (moves_of (xs ++ x ∷ [])) j ≡ path_at (moves_of xs) j
push_left xs x j h =
    let n = length-map xs (λ (p : Vec Move Global). p.items) in
    ap (λ (ps : Paths). path_at ps j) (map-append (λ (p : Vec Move Global). p.items) xs (x ∷ []))
    ∙ get_or_append_left (moves_of xs) (x.items ∷ []) [] j (omega (arith, n, h))

pub push_last : (xs : List (Vec Move Global)) (x : Vec Move Global) (j : ℕ) → j ≡ length xs
    → path_at (moves_of (xs ++ x ∷ [])) j ≡ x.items
push_last xs x j e =
    let n = length-map xs (λ (p : Vec Move Global). p.items) in
    let z : j - length xs ≡ 0 = omega (arith, e) in
    ap (λ (ps : Paths). path_at ps j) (map-append (λ (p : Vec Move Global). p.items) xs (x ∷ []))
    ∙ get_or-append_right (moves_of xs) (x.items ∷ []) (length xs) j [] n (omega (arith, e))
    ∙ ap (λ (k : ℕ). get_or (x.items ∷ []) k []) z

pub path_is : (xs : List (Vec Move Global)) (j : ℕ) (d : Vec Move Global) → j < length xs
    → path_at (moves_of xs) j ≡ (get_or xs j d).items
path_is xs j d h = get_or-map (λ (p : Vec Move Global). p.items) xs j d [] h

pub push_none : (xs : List (Vec Move Global)) (x : Vec Move Global)
    → ((k : ℕ) → path_at (moves_of xs) k ≡ []) → x.items ≡ [] → (k : ℕ)
    → path_at (moves_of (xs ++ x ∷ [])) k ≡ []
push_none [] x h e zero = e
push_none [] x h e (suc k) = refl
push_none (y ∷ xs) x h e zero = h 0
push_none (y ∷ xs) x h e (suc k) = push_none xs x (λ j. h (suc j)) e k

-- ---- boxes that are due

pub due_push : (done : List Paths) (boxes : List (Vec (Vec Move Global) Global))
    (box : Vec (Vec Move Global) Global)
    → due_on done (boxes ++ box ∷ []) ≡ moves_of box.items ∷ due_on done boxes
due_push done [] box = refl
due_push done (first ∷ boxes) box = due_push (moves_of first.items ∷ done) boxes box

pub due_pop : (old new : List (Vec (Vec Move Global) Global))
    (taken : Option (Vec (Vec Move Global) Global)) → old ≡ new ++ option_to_list taken
    → (taken ≡ None → new ≡ [])
    → MatchOption taken (due_of old ≡ []) (λ box. due_of old ≡ moves_of box.items ∷ due_of new)
due_pop old new None e none = rw (e, none refl) refl
due_pop old new (Some box) e none = rw e (due_push [] new box)

-- ---- leaves

slice_get_left : {A : Type 0} (xs : List A) (x : A) (k : ℕ) (y : A) → slice_get xs k ≡ Some y
    → slice_get (xs ++ x ∷ []) k ≡ Some y
slice_get_left [] x k y e = absurd cc
slice_get_left (z ∷ xs) x zero y e = e
slice_get_left (z ∷ xs) x (suc k) y e = slice_get_left xs x k y e

slice_get_last : {A : Type 0} (xs : List A) (x : A) → slice_get (xs ++ x ∷ []) (length xs) ≡ Some x
slice_get_last [] x = refl
slice_get_last (z ∷ xs) x = slice_get_last xs x

module _ (game : GameOf) (paths : Paths) where
  pub leaves_none : AreLeaves game paths 0 []
  leaves_none = record { len = refl; each = λ k player is h. absurd (omega (arith, h)) }

  pub leaves_more : (n : ℕ) (leaves : List Leaf) (player : PlayerOf) (leaf : Leaf)
      → AreLeaves game paths n leaves → IsPlayer game n player → IsLeafOf player leaf
      → leaf_of leaf ≡ branch player (path_at paths n)
      → AreLeaves game paths (n + 1) (leaves ++ leaf ∷ [])
  leaves_more n leaves player leaf before is of_player same = record {
    len = (let l = length-append leaves (leaf ∷ []) in let m = before.len in omega (arith, l, m));
    each = λ k other found h. at k other found h;
  }
    where
      at : (k : ℕ) (other : PlayerOf) → IsPlayer game k other → k < n + 1
          → (own : Leaf) × (slice_get (leaves ++ leaf ∷ []) k ≡ Some own) × IsLeafOf other own
          × (leaf_of own ≡ branch other (path_at paths k))
      at k other found h = ⊎_elim old last (cases_lt k n)
        where
          old : k < n → (own : Leaf) × (slice_get (leaves ++ leaf ∷ []) k ≡ Some own)
              × IsLeafOf other own × (leaf_of own ≡ branch other (path_at paths k))
          old below =
              let b = before.each k other found below in
              (b.0, slice_get_left leaves leaf k b.0 b.1, b.2, b.3)

          last : n ≤ k → (own : Leaf) × (slice_get (leaves ++ leaf ∷ []) k ≡ Some own)
              × IsLeafOf other own × (leaf_of own ≡ branch other (path_at paths k))
          last above =
              let m = before.len in
              let e : k ≡ n = omega (arith, above, h) in
              let s : length leaves ≡ k = omega (arith, m, e) in
              let p : player ≡ other = one game k player other
              (subst (λ (j : ℕ). IsPlayer game j player) (sym e) is) found in (
                leaf,
                ap (slice_get (leaves ++ leaf ∷ [])) (sym s) ∙ slice_get_last leaves leaf,
                subst (λ (q : PlayerOf). IsLeafOf q leaf) p of_player,
                same ∙ ap₂ (λ (q : PlayerOf) (j : ℕ). branch q (path_at paths j)) p (sym e),
              )

  -- the leaves are those of the box
  pub leaves_box : (leaves : List Leaf) → AreLeaves game paths (length game) leaves
      → box_of leaves ≡ box_by game paths
  leaves_box leaves are = λ j k. at k j
    where
      at : (k : ℕ) → box_of leaves k ≡ box_by game paths k
      at k = ⊎_elim inside outside (cases_lt k (length game))
        where
          inside : k < length game → box_of leaves k ≡ box_by game paths k
          inside h =
              let player = at_number game k h in
              let b = are.each k player.0 player.1 h in
              ap (λ (o : Option Leaf). option_map_or leaf_of o no_leaf) b.1 ∙ b.3
              ∙ sym (ap (λ (o : Option PlayerOf).
              option_map_or (λ p. branch p (path_at paths k)) o no_leaf) player.1)

          outside : length game ≤ k → box_of leaves k ≡ box_by game paths k
          outside h =
              let n = are.len in
              ap (λ (o : Option Leaf). option_map_or leaf_of o no_leaf)
              (slice_get_past leaves k (omega (arith, n, h)))
              ∙ sym (ap (λ (o : Option PlayerOf).
              option_map_or (λ p. branch p (path_at paths k)) o no_leaf) (slice_get_past game k h))

  pub leaf_at_index : (n : ℕ) (leaves : List Leaf) → AreLeaves game paths n leaves → (k : ℕ)
      (player : PlayerOf) → IsPlayer game k player → k < n → (d : Leaf)
      → IsLeafOf player (get_or leaves k d)
      × (leaf_of (get_or leaves k d) ≡ branch player (path_at paths k))
  leaf_at_index n leaves are k player is h d =
      let b = are.each k player is h in
      let e = get_or_from_slice_get leaves k b.0 d b.1 in
      (subst (IsLeafOf player) (sym e) b.2, ap leaf_of e ∙ b.3)

-- ---- sums over cross terms

pub pick_low : (a l h : ℤ) → cond (int_lt (a *ℤ h) (a *ℤ l)) (a *ℤ h) (a *ℤ l) ≡ a *ℤ low_end a l h
pick_low a l h = which (int_lt (a *ℤ h) (a *ℤ l))
  where
    which : (t : Bool) → cond t (a *ℤ h) (a *ℤ l) ≡ a *ℤ cond t h l
    which true = refl
    which false = refl

pub pick_high : (a l h : ℤ) → cond (int_lt (a *ℤ l) (a *ℤ h)) (a *ℤ h) (a *ℤ l)
    ≡ a *ℤ high_end a l h
pick_high a l h = which (int_lt (a *ℤ l) (a *ℤ h))
  where
    which : (t : Bool) → cond t (a *ℤ h) (a *ℤ l) ≡ a *ℤ cond t h l
    which true = refl
    which false = refl

module _ (end : ℤ → ℤ → ℤ → ℤ) (box : BoxOf) (v : ℕ) where
  abbrev pub own_pair : CrossTerm → ℤ
  own_pair t = cond (t.own == v) (t.coef *ℤ end_of end box t) (pos 0)

  pairs_first : (t : CrossTerm) (ts : List CrossTerm)
      → sum_products (end_pairs end box v (t ∷ ts))
      ≡ own_pair t +ℤ sum_products (end_pairs end box v ts)
  pairs_first t ts = on (t.own == v) refl
    where
      on : (b : Bool) → (t.own == v) ≡ b → sum_products (end_pairs end box v (t ∷ ts))
          ≡ own_pair t +ℤ sum_products (end_pairs end box v ts)
      on true e = rw e refl
      on false e = rw e (omega (arith, ints))

  -- the sum goes on by the term of number i
  pub pairs_onward : (cross : List CrossTerm) (i : ℕ) (d : CrossTerm) → i < length cross
      → (old next total : ℤ)
      → old +ℤ sum_products (end_pairs end box v (drop i cross)) ≡ total
      → next ≡ old +ℤ own_pair (get_or cross i d)
      → next +ℤ sum_products (end_pairs end box v (drop (i + 1) cross)) ≡ total
  pairs_onward cross i d h old next total before made =
      let c = ap (λ (ts : List CrossTerm). sum_products (end_pairs end box v ts))
      (drop-cons cross i d h) in
      let f = pairs_first (get_or cross i d) (drop (suc i) cross) in
      let n = ap (λ (k : ℕ). sum_products (end_pairs end box v (drop k cross))) (add-one i) in
      omega (arith, ints, before, made, c, f, n)

  pub pairs_last : (cross : List CrossTerm) (i : ℕ) → length cross ≤ i → (sum total : ℤ)
      → sum +ℤ sum_products (end_pairs end box v (drop i cross)) ≡ total → sum ≡ total
  pairs_last cross i h sum total all =
      let e = ap (λ (ts : List CrossTerm). sum_products (end_pairs end box v ts))
      (drop_all i cross h) in
      omega (arith, ints, all, e)

-- ---- ranges

pub low_is : (box : BoxOf) (i v : ℕ) (r : IsRanged (box i) v) → (range_of box i v).low ≡ r.low
low_is box i v r = ap (λ (o : Option ℤ). unwrap_or o (pos 0)) r.low_is

pub high_is : (box : BoxOf) (i v : ℕ) (r : IsRanged (box i) v) → (range_of box i v).high ≡ r.high
high_is box i v r = ap (λ (o : Option ℤ). unwrap_or o (pos 0)) r.high_is

pub one_value : (box : BoxOf) (i v : ℕ) → IsRanged (box i) v
    → (range_of box i v).high ≤ℤ (range_of box i v).low → HasOneValue (box i) v
one_value box i v r h =
    let l = low_is box i v r in
    let u = high_is box i v r in
    let o = r.ordered in
    let e : r.high ≡ r.low = omega (arith, ints, h, l, u, o) in
    (r.low, r.low_is, r.high_is ∙ ap (λ (z : ℤ). Some z) e)
