-- What one move along a path leaves due.
use Rattle.std.proofs.Common.{◌≡◌, ◌≢◌, ℕ, zero, suc, ◌+◌, ◌<◌, ◌≤◌, ◌-◌, ◌==◌, arith, refl, sym, ap, ap₂, subst, ◌∙◌, add-one, ℤ, pos, ◌+ℤ◌, Option, Some, None, List, ◌∷◌, length, get_or, set, get_or-set_same, get_or-set_other, cond, ⊎_elim}
use Rattle.std.proofs.lemmas.Bool.{cases_eq}
use Rattle.zr_game.specs.declared.leaf.Leaf.{Leaf}
use Rattle.zr_game.specs.Players.{GameOf}
use Rattle.zr_game.specs.Leaves.{LeafOf, above, below, greater, leaf_of, lesser}
use Rattle.zr_game.proofs.LeafLaws.{same_leaf}
use Rattle.zr_tree.specs.Paths.{with_high, with_low}
use Rattle.zr_boxes.specs.Boxes.{BoxOf, cut_above, cut_below, with_leaf}
use Rattle.zr_boxes.specs.declared.path.Frame.{Frame}
use Rattle.zr_boxes.specs.declared.path.Frame.TheVariants.{First, Second}
use Rattle.zr_boxes.specs.Paths.{AreFrames, IsFrame, box_of, due_boxes, set_high, set_low, stack}
use Rattle.zr_boxes.proofs.BoxLists.{at_other, at_same, box_at, box_set, here, own, twice}

-- a value set at v, with the old value set there again
set_back : {A : Type 0} (f g : ℕ → A) (v : ℕ) → ((w : ℕ) → v ≢ w → g w ≡ f w)
    → (w : ℕ) → cond (v == w) (f v) (g w) ≡ f w
set_back f g v same w =
    ⊎_elim (λ (e : v ≡ w). subst (λ n. cond (v == n) (f v) (g n) ≡ f n) e (at_same (f v) (g v) v))
    (λ (n : v ≢ w). at_other (f v) (g w) v w n ∙ same w n) (cases_eq v w)

high_back : (leaf : LeafOf) (v : ℕ) (at : ℤ) → with_high (below leaf v at) v (leaf.high v) ≡ leaf
high_back leaf v at =
    same_leaf (with_high (below leaf v at) v (leaf.high v)) leaf (λ w. refl)
    (set_back leaf.high (below leaf v at).high v
    (λ w n. at_other (Some (lesser (leaf.high w) at)) (leaf.high w) v w n)) (λ p. refl)

low_back : (leaf : LeafOf) (v : ℕ) (at : ℤ) → with_low (above leaf v at) v (leaf.low v) ≡ leaf
low_back leaf v at =
    same_leaf (with_low (above leaf v at) v (leaf.low v)) leaf
    (set_back leaf.low (above leaf v at).low v
    (λ w n. at_other (Some (greater (leaf.low w) (at +ℤ pos 1))) (leaf.low w) v w n)) (λ w. refl)
    (λ p. refl)

module _ (box : BoxOf) (i v : ℕ) (at : ℤ) where
  -- the box with the high bound as it was before the split
  pub box_high_back : set_high (cut_below box i v at) i v ((box i).high v) ≡ box
  box_high_back =
      ap (λ (l : LeafOf). with_leaf (cut_below box i v at) i (with_high l v ((box i).high v)))
      (here box i (below (box i) v at)) ∙
      ap (with_leaf (cut_below box i v at) i) (high_back (box i) v at) ∙
      twice box i (below (box i) v at) (box i) ∙ own box i

  -- and with the low bound as it was
  pub box_low_back : set_low (cut_above box i v at) i v ((box i).low v) ≡ box
  box_low_back =
      ap (λ (l : LeafOf). with_leaf (cut_above box i v at) i (with_low l v ((box i).low v)))
      (here box i (above (box i) v at)) ∙
      ap (with_leaf (cut_above box i v at) i) (low_back (box i) v at) ∙
      twice box i (above (box i) v at) (box i) ∙ own box i

  pub first_due : (frames : List Frame) → cut_above box i v at ∷ due_boxes box frames
      ≡ due_boxes (cut_below box i v at) (First i v at ((box i).high v) ∷ frames)
  first_due frames =
      ap (λ (b : BoxOf). cut_above b i v at ∷ due_boxes b frames) (sym box_high_back)

  pub second_due : (frames : List Frame) → due_boxes box frames
      ≡ due_boxes (cut_above box i v at) (Second i v ((box i).low v) ∷ frames)
  second_due frames = ap (λ (b : BoxOf). due_boxes b frames) (sym box_low_back)

-- the second child of a split, from the first
pub second_box : (box : BoxOf) (i v : ℕ) (at : ℤ) (high : Option ℤ)
    → with_leaf box i (above (with_high (box i) v high) v at)
    ≡ cut_above (set_high box i v high) i v at
second_box box i v at high =
    let leaf = with_high (box i) v high in
    sym (ap (λ (l : LeafOf). with_leaf (with_leaf box i leaf) i (above l v at)) (here box i leaf) ∙
    twice box i leaf (above leaf v at))

-- frames past the first n make no difference to them
stack_past : (frames : List Frame) (k n : ℕ) (frame : Frame) → n ≤ k
    → stack (set frames k frame) n ≡ stack frames n
stack_past frames k zero frame h = refl
stack_past frames k (suc n) frame h =
    ap₂ (λ (f : Frame) (fs : List Frame). f ∷ fs)
    (get_or-set_other frames k n frame (Second 0 0 None) (λ (e : n ≡ k). omega arith))
    (stack_past frames k n frame (omega arith))

-- one frame more
stack_more : (frames : List Frame) (n : ℕ) (frame : Frame) → n < length frames
    → stack (set frames n frame) (suc n) ≡ frame ∷ stack frames n
stack_more frames n frame h =
    ap₂ (λ (f : Frame) (fs : List Frame). f ∷ fs)
    (get_or-set_same frames n frame (Second 0 0 None) h) (stack_past frames n n frame (omega arith))

pub next_stack : (frames : List Frame) (n : ℕ) (frame : Frame) → n < length frames
    → stack (set frames n frame) (n + 1) ≡ frame ∷ stack frames n
next_stack frames n frame h =
    ap (stack (set frames n frame)) (add-one n) ∙ stack_more frames n frame h

-- the nearest frame
pub nearest : (frames : List Frame) (depth : ℕ) → 0 < depth
    → stack frames depth ≡ get_or frames (depth - 1) (Second 0 0 None) ∷ stack frames (depth - 1)
nearest frames zero h = absurd (omega arith)
nearest frames (suc n) h =
    let e : n ≡ suc n - 1 = omega arith in
    ap (λ (k : ℕ). get_or frames k (Second 0 0 None) ∷ stack frames k) e

-- the nearest frame is another one now
pub turned : (frames : List Frame) (depth : ℕ) (frame : Frame) → 0 < depth → depth ≤ length frames
    → stack (set frames (depth - 1) frame) depth ≡ frame ∷ stack frames (depth - 1)
turned frames zero frame h l = absurd (omega arith)
turned frames (suc n) frame h l =
    let e : n ≡ suc n - 1 = omega arith in
    ap (λ (k : ℕ). stack (set frames k frame) (suc n)) (sym e) ∙
    stack_more frames n frame (omega arith) ∙ ap (λ (k : ℕ). frame ∷ stack frames k) e

module _ (game : GameOf) (frames : List Frame) where
  pub frames_more : (n : ℕ) (frame : Frame) → n < length frames → IsFrame game frame
      → AreFrames game (stack frames n) → AreFrames game (stack (set frames n frame) (n + 1))
  frames_more n frame h f fs = subst (AreFrames game) (sym (next_stack frames n frame h)) (f, fs)

  nearest_frame : (depth : ℕ) → 0 < depth → AreFrames game (stack frames depth)
      → AreFrames game (get_or frames (depth - 1) (Second 0 0 None) ∷ stack frames (depth - 1))
  nearest_frame depth h fs = subst (AreFrames game) (nearest frames depth h) fs

  pub is_frame : (depth : ℕ) (frame : Frame) → 0 < depth
      → get_or frames (depth - 1) (Second 0 0 None) ≡ frame → AreFrames game (stack frames depth)
      → IsFrame game frame
  is_frame depth frame h e fs = subst (IsFrame game) e (nearest_frame depth h fs).0

  pub frames_turned : (depth : ℕ) (frame : Frame) → 0 < depth → depth ≤ length frames
      → IsFrame game frame → AreFrames game (stack frames depth)
      → AreFrames game (stack (set frames (depth - 1) frame) depth)
  frames_turned depth frame h l f fs =
      subst (AreFrames game) (sym (turned frames depth frame h l)) (f, (nearest_frame depth h fs).1)

  pub frames_less : (depth : ℕ) → 0 < depth → AreFrames game (stack frames depth)
      → AreFrames game (stack frames (depth - 1))
  frames_less depth h fs = (nearest_frame depth h fs).1

module _ (leaves : List Leaf) (frames : List Frame) (depth i v : ℕ) (leaf new : Leaf)
    (inside : i < length leaves) (read : leaf ≡ get_or leaves i leaf) where
  abbrev old : BoxOf
  old = box_of leaves

  abbrev now : BoxOf
  now = box_of (set leaves i new)

  -- the first child of a split
  pub split_entered : (at : ℤ) (high : Option ℤ) → depth < length frames
      → leaf_of new ≡ below (leaf_of leaf) v at → high ≡ (leaf_of leaf).high v
      → cut_below old i v at ∷ cut_above old i v at ∷ due_boxes old (stack frames depth)
      ≡ now ∷ due_boxes now (stack (set frames depth (First i v at high)) (depth + 1))
  split_entered at high place made is =
      let b = sym (box_at leaves i leaf inside read) in
      let l = box_set leaves i new inside ∙
      ap (with_leaf old i) (made ∙ ap (λ (x : LeafOf). below x v at) b) in
      let h = is ∙ ap (λ (x : LeafOf). x.high v) b in
      let e = ap₂ due_boxes l (next_stack frames depth (First i v at high) place ∙
      ap (λ (o : Option ℤ). First i v at o ∷ stack frames depth) h) in
      ap (λ (ds : List BoxOf). cut_below old i v at ∷ ds)
      (first_due old i v at (stack frames depth)) ∙
      sym (ap₂ (λ (x : BoxOf) (ds : List BoxOf). x ∷ ds) l e)

  module _ (some : 0 < depth) (places : depth ≤ length frames) where
    -- from the first child of a split to the second
    pub first_left : (at : ℤ) (high low : Option ℤ)
        → leaf_of new ≡ above (with_high (leaf_of leaf) v high) v at
        → low ≡ (leaf_of leaf).low v
        → get_or frames (depth - 1) (Second 0 0 None) ≡ First i v at high
        → due_boxes old (stack frames depth)
        ≡ now ∷ due_boxes now (stack (set frames (depth - 1) (Second i v low)) depth)
    first_left at high low made is e =
        let b = sym (box_at leaves i leaf inside read) in
        let parent = set_high old i v high in
        let l = box_set leaves i new inside ∙
        ap (with_leaf old i) (made ∙ ap (λ (x : LeafOf). above (with_high x v high) v at) b) ∙
        second_box old i v at high in
        let lows : low ≡ (parent i).low v =
        is ∙ ap (λ (x : LeafOf). x.low v) b ∙
        ap (λ (x : LeafOf). x.low v) (sym (here old i (with_high (old i) v high))) in
        let old_due = ap (due_boxes old) (nearest frames depth some ∙
        ap (λ (f : Frame). f ∷ stack frames (depth - 1)) e) in
        let new_due = ap₂ due_boxes l (turned frames depth (Second i v low) some places ∙
        ap (λ (o : Option ℤ). Second i v o ∷ stack frames (depth - 1)) lows) in
        old_due ∙ ap (λ (ds : List BoxOf). cut_above parent i v at ∷ ds)
        (second_due parent i v at (stack frames (depth - 1))) ∙
        sym (ap₂ (λ (x : BoxOf) (ds : List BoxOf). x ∷ ds) l new_due)

    -- from the second child back to the node
    pub second_left : (low : Option ℤ) → leaf_of new ≡ with_low (leaf_of leaf) v low
        → get_or frames (depth - 1) (Second 0 0 None) ≡ Second i v low
        → due_boxes old (stack frames depth) ≡ due_boxes now (stack frames (depth - 1))
    second_left low made e =
        let b = sym (box_at leaves i leaf inside read) in
        let l = box_set leaves i new inside ∙
        ap (with_leaf old i) (made ∙ ap (λ (x : LeafOf). with_low x v low) b) in
        ap (due_boxes old) (nearest frames depth some ∙
        ap (λ (f : Frame). f ∷ stack frames (depth - 1)) e) ∙
        ap (λ (x : BoxOf). due_boxes x (stack frames (depth - 1))) (sym l)
