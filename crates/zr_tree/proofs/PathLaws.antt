-- What one move along a path leaves due.
use Rattle.std.proofs.Common.{◌≡◌, ◌≢◌, ℕ, zero, suc, ◌+◌, ◌<◌, ◌≤◌, ◌==◌, ◌-◌, arith, refl, sym, ap, ap₂, subst, ◌∙◌, add-one, ℤ, pos, ◌+ℤ◌, cond, Bool, true, false, Option, Some, None, List, ◌∷◌, length, get_or, set, get_or-set_same, get_or-set_other, ⊎_elim}
use Rattle.std.proofs.lemmas.Bool.{cases_eq}
use Rattle.std.proofs.lemmas.Bool.Decides.{nat_tests}
use Rattle.zr_game.specs.declared.leaf.Side.{Side}
use Rattle.zr_game.specs.declared.leaf.Side.TheVariants.{Undecided, VarZero, RowZero}
use Rattle.zr_game.specs.Players.{PlayerOf}
use Rattle.zr_game.specs.Leaves.{LeafOf, above, below, decided, greater, lesser}
use Rattle.zr_game.proofs.LeafLaws.{same_leaf}
use Rattle.zr_tree.specs.declared.path.Frame.{Frame}
use Rattle.zr_tree.specs.declared.path.Frame.TheVariants.{FirstOfSplit, SecondOfSplit, FirstOfChoice, SecondOfChoice}
use Rattle.zr_tree.specs.Paths.{AreFrames, IsFrame, due_leaves, stack, with_high, with_low}

-- the leaf of these lists
abbrev pub listed : List (Option ℤ) → List (Option ℤ) → List Side → LeafOf
listed low high sides = record { low = λ v. get_or low v None; high = λ v. get_or high v None; side = λ p. get_or sides p Undecided }

-- a list with one item set is its function with one value set
set_at : {A : Type 0} (xs : List A) (v : ℕ) (a d : A) → v < length xs → (w : ℕ) → get_or (set xs v a) w d ≡ cond (v == w) a (get_or xs w d)
set_at xs v a d h w = ⊎_elim (λ (e : v ≡ w). here e) (λ (n : v ≢ w). there n) (cases_eq v w)
  where
    here : v ≡ w → get_or (set xs v a) w d ≡ cond (v == w) a (get_or xs w d)
    here e =
        let t : (v == w) ≡ true = grind (arith, nat_tests) in
        rw (t, ← e) (get_or-set_same xs v a d h)

    there : v ≢ w → get_or (set xs v a) w d ≡ cond (v == w) a (get_or xs w d)
    there n =
        let t : (v == w) ≡ false = grind (arith, nat_tests) in
        rw t (get_or-set_other xs v w a d (λ e. n (sym e)))

-- a value set at v, with the old value set there again
set_back : {A : Type 0} (f g : ℕ → A) (v : ℕ) → ((w : ℕ) → v ≢ w → g w ≡ f w) → (w : ℕ) → cond (v == w) (f v) (g w) ≡ f w
set_back f g v same w = ⊎_elim (λ (e : v ≡ w). here e) (λ (n : v ≢ w). there n) (cases_eq v w)
  where
    here : v ≡ w → cond (v == w) (f v) (g w) ≡ f w
    here e =
        let t : (v == w) ≡ true = grind (arith, nat_tests) in rw t (ap f e)

    there : v ≢ w → cond (v == w) (f v) (g w) ≡ f w
    there n =
        let t : (v == w) ≡ false = grind (arith, nat_tests) in rw t (same w n)

-- one value or another at v
apart : {A : Type 0} (a b : A) (v w : ℕ) → v ≢ w → cond (v == w) a b ≡ b
apart a b v w n = let t : (v == w) ≡ false = grind (arith, nat_tests) in rw t refl

-- a value at v that goes by v or by the place
same_at : {A : Type 0} (f g : ℕ → A) (v w : ℕ) → cond (v == w) (f v) (g w) ≡ cond (v == w) (f w) (g w)
same_at f g v w = ⊎_elim (λ (e : v ≡ w). ap (λ (n : ℕ). cond (v == w) (f n) (g w)) e) (λ (n : v ≢ w). apart (f v) (g w) v w n ∙ sym (apart (f w) (g w) v w n)) (cases_eq v w)

-- two values set at v, of which the later counts
set_twice : {A : Type 0} (a b c : A) (v w : ℕ) → cond (v == w) a (cond (v == w) b c) ≡ cond (v == w) a c
set_twice a b c v w = both (v == w)
  where
    both : (t : Bool) → cond t a (cond t b c) ≡ cond t a c
    both true = refl
    both false = refl

module _ (low high : List (Option ℤ)) (sides : List Side) where
  pub set_high : (v : ℕ) (a : Option ℤ) → v < length high → listed low (set high v a) sides ≡ with_high (listed low high sides) v a
  set_high v a h =
      same_leaf (listed low (set high v a) sides) (with_high (listed low high sides) v a) (λ w. refl) (set_at high v a None h) (λ p. refl)

  pub set_low : (v : ℕ) (a : Option ℤ) → v < length low → listed (set low v a) high sides ≡ with_low (listed low high sides) v a
  set_low v a h =
      same_leaf (listed (set low v a) high sides) (with_low (listed low high sides) v a) (set_at low v a None h) (λ w. refl) (λ p. refl)

  pub set_side : (p : ℕ) (a : Side) → p < length sides → listed low high (set sides p a) ≡ decided (listed low high sides) p a
  set_side p a h =
      same_leaf (listed low high (set sides p a)) (decided (listed low high sides) p a) (λ w. refl) (λ w. refl) (set_at sides p a Undecided h)

module _ (leaf : LeafOf) where
  pub below_is : (v : ℕ) (at : ℤ) → with_high leaf v (Some (lesser (leaf.high v) at)) ≡ below leaf v at
  below_is v at =
      same_leaf (with_high leaf v (Some (lesser (leaf.high v) at))) (below leaf v at) (λ w. refl) (λ w. same_at (λ n. Some (lesser (leaf.high n) at)) leaf.high v w) (λ p. refl)

  pub above_is : (v : ℕ) (at : ℤ) → with_low leaf v (Some (greater (leaf.low v) (at +ℤ pos 1))) ≡ above leaf v at
  above_is v at =
      same_leaf (with_low leaf v (Some (greater (leaf.low v) (at +ℤ pos 1)))) (above leaf v at) (λ w. same_at (λ n. Some (greater (leaf.low n) (at +ℤ pos 1))) leaf.low v w) (λ w. refl) (λ p. refl)

  high_back : (v : ℕ) (at : ℤ) → with_high (below leaf v at) v (leaf.high v) ≡ leaf
  high_back v at =
      same_leaf (with_high (below leaf v at) v (leaf.high v)) leaf (λ w. refl) (set_back leaf.high (below leaf v at).high v (λ w n. apart (Some (lesser (leaf.high w) at)) (leaf.high w) v w n)) (λ p. refl)

  low_back : (v : ℕ) (at : ℤ) → with_low (above leaf v at) v (leaf.low v) ≡ leaf
  low_back v at =
      same_leaf (with_low (above leaf v at) v (leaf.low v)) leaf (set_back leaf.low (above leaf v at).low v (λ w n. apart (Some (greater (leaf.low w) (at +ℤ pos 1))) (leaf.low w) v w n)) (λ w. refl) (λ p. refl)

  side_twice : (p : ℕ) (a b : Side) → decided (decided leaf p b) p a ≡ decided leaf p a
  side_twice p a b =
      same_leaf (decided (decided leaf p b) p a) (decided leaf p a) (λ w. refl) (λ w. refl) (λ q. set_twice a b (leaf.side q) p q)

  side_back : (p : ℕ) → leaf.side p ≡ Undecided → decided leaf p Undecided ≡ leaf
  side_back p e =
      same_leaf (decided leaf p Undecided) leaf (λ w. refl) (λ w. refl) (λ q. ap (λ (s : Side). cond (p == q) s (leaf.side q)) (sym e) ∙ set_back leaf.side leaf.side p (λ w n. refl) q)

-- frames past the first n make no difference to them
stack_above : (frames : List Frame) (k n : ℕ) (frame : Frame) → n ≤ k → stack (set frames k frame) n ≡ stack frames n
stack_above frames k zero frame h = refl
stack_above frames k (suc n) frame h =
    ap₂ (λ (f : Frame) (fs : List Frame). f ∷ fs) (get_or-set_other frames k n frame (SecondOfChoice 0) (λ (e : n ≡ k). omega arith)) (stack_above frames k n frame (omega arith))

-- one frame more
pub stack_more : (frames : List Frame) (n : ℕ) (frame : Frame) → n < length frames → stack (set frames n frame) (suc n) ≡ frame ∷ stack frames n
stack_more frames n frame h =
    ap₂ (λ (f : Frame) (fs : List Frame). f ∷ fs) (get_or-set_same frames n frame (SecondOfChoice 0) h) (stack_above frames n n frame (omega arith))

module _ (leaf : LeafOf) (frames : List Frame) where
  pub split_due : (v : ℕ) (at : ℤ) → above leaf v at ∷ due_leaves leaf frames ≡ due_leaves (below leaf v at) (FirstOfSplit v at (leaf.high v) ∷ frames)
  split_due v at =
      ap (λ (l : LeafOf). above l v at ∷ due_leaves l frames) (sym (high_back leaf v at))

  pub choice_due : (p : ℕ) → leaf.side p ≡ Undecided → decided leaf p RowZero ∷ due_leaves leaf frames ≡ due_leaves (decided leaf p VarZero) (FirstOfChoice p ∷ frames)
  choice_due p e =
      ap₂ (λ (l : LeafOf) (m : LeafOf). l ∷ due_leaves m frames) (sym (side_twice leaf p RowZero VarZero)) (sym (side_twice leaf p Undecided VarZero ∙ side_back leaf p e))

  pub second_split_due : (v : ℕ) (at : ℤ) → due_leaves leaf frames ≡ due_leaves (above leaf v at) (SecondOfSplit v (leaf.low v) ∷ frames)
  second_split_due v at = ap (λ (l : LeafOf). due_leaves l frames) (sym (low_back leaf v at))

  pub second_choice_due : (p : ℕ) → due_leaves (decided leaf p Undecided) frames ≡ due_leaves (decided leaf p RowZero) (SecondOfChoice p ∷ frames)
  second_choice_due p = ap (λ (l : LeafOf). due_leaves l frames) (sym (side_twice leaf p Undecided RowZero))

next_stack : (frames : List Frame) (n : ℕ) (frame : Frame) → n < length frames → stack (set frames n frame) (n + 1) ≡ frame ∷ stack frames n
next_stack frames n frame h = ap (stack (set frames n frame)) (add-one n) ∙ stack_more frames n frame h

-- the nearest frame
pub nearest : (frames : List Frame) (depth : ℕ) → 0 < depth → stack frames depth ≡ get_or frames (depth - 1) (SecondOfChoice 0) ∷ stack frames (depth - 1)
nearest frames zero h = absurd (omega arith)
nearest frames (suc n) h =
    let e : n ≡ suc n - 1 = omega arith in
    ap (λ (k : ℕ). get_or frames k (SecondOfChoice 0) ∷ stack frames k) e

-- the nearest frame is another one now
pub turned : (frames : List Frame) (depth : ℕ) (frame : Frame) → 0 < depth → depth ≤ length frames → stack (set frames (depth - 1) frame) depth ≡ frame ∷ stack frames (depth - 1)
turned frames zero frame h l = absurd (omega arith)
turned frames (suc n) frame h l =
    let e : n ≡ suc n - 1 = omega arith in
    ap (λ (k : ℕ). stack (set frames k frame) (suc n)) (sym e) ∙ stack_more frames n frame (omega arith) ∙ ap (λ (k : ℕ). frame ∷ stack frames k) e

module _ (player : PlayerOf) (frames : List Frame) where
  pub frames_more : (n : ℕ) (frame : Frame) → n < length frames → IsFrame player frame → AreFrames player (stack frames n) → AreFrames player (stack (set frames n frame) (n + 1))
  frames_more n frame h f fs = subst (AreFrames player) (sym (next_stack frames n frame h)) (f, fs)

  nearest_frame : (depth : ℕ) → 0 < depth → AreFrames player (stack frames depth) → AreFrames player (get_or frames (depth - 1) (SecondOfChoice 0) ∷ stack frames (depth - 1))
  nearest_frame depth h fs = subst (AreFrames player) (nearest frames depth h) fs

  pub is_frame : (depth : ℕ) (frame : Frame) → 0 < depth → get_or frames (depth - 1) (SecondOfChoice 0) ≡ frame → AreFrames player (stack frames depth) → IsFrame player frame
  is_frame depth frame h e fs = subst (IsFrame player) e (nearest_frame depth h fs).0

  pub frames_turned : (depth : ℕ) (frame : Frame) → 0 < depth → depth ≤ length frames → IsFrame player frame → AreFrames player (stack frames depth) → AreFrames player (stack (set frames (depth - 1) frame) depth)
  frames_turned depth frame h l f fs =
      subst (AreFrames player) (sym (turned frames depth frame h l)) (f, (nearest_frame depth h fs).1)

  pub frames_less : (depth : ℕ) → 0 < depth → AreFrames player (stack frames depth) → AreFrames player (stack frames (depth - 1))
  frames_less depth h fs = (nearest_frame depth h fs).1

module _ (low high : List (Option ℤ)) (sides : List Side) (frames : List Frame) (depth : ℕ) where
  abbrev leaf : LeafOf
  leaf = listed low high sides

  pub split_entered : (v : ℕ) (at : ℤ) (old : Option ℤ) (new : ℤ) → old ≡ get_or high v None → new ≡ lesser old at → v < length high → depth < length frames → below leaf v at ∷ above leaf v at ∷ due_leaves leaf (stack frames depth) ≡ listed low (set high v (Some new)) sides ∷ due_leaves (listed low (set high v (Some new)) sides) (stack (set frames depth (FirstOfSplit v at old)) (depth + 1))
  split_entered v at old new is made h d =
      let l = set_high low high sides v (Some new) h ∙ ap (λ (z : ℤ). with_high leaf v (Some z)) (made ∙ ap (λ (o : Option ℤ). lesser o at) is) ∙ below_is leaf v at in
      let e = ap₂ due_leaves l (next_stack frames depth (FirstOfSplit v at old) d ∙ ap (λ (o : Option ℤ). FirstOfSplit v at o ∷ stack frames depth) is) in
      ap (λ (ds : List LeafOf). below leaf v at ∷ ds) (split_due leaf (stack frames depth) v at) ∙ sym (ap₂ (λ (x : LeafOf) (ds : List LeafOf). x ∷ ds) l e)

  pub choice_entered : (p : ℕ) → p < length sides → depth < length frames → get_or sides p Undecided ≡ Undecided → decided leaf p VarZero ∷ decided leaf p RowZero ∷ due_leaves leaf (stack frames depth) ≡ listed low high (set sides p VarZero) ∷ due_leaves (listed low high (set sides p VarZero)) (stack (set frames depth (FirstOfChoice p)) (depth + 1))
  choice_entered p h d free =
      let l = set_side low high sides p VarZero h in
      let e = ap₂ due_leaves l (next_stack frames depth (FirstOfChoice p) d) in
      ap (λ (ds : List LeafOf). decided leaf p VarZero ∷ ds) (choice_due leaf (stack frames depth) p free) ∙ sym (ap₂ (λ (x : LeafOf) (ds : List LeafOf). x ∷ ds) l e)

  module _ (some : 0 < depth) (places : depth ≤ length frames) where
    pub split_left : (v : ℕ) (at : ℤ) (old first : Option ℤ) (new : ℤ) → first ≡ get_or low v None → new ≡ greater first (at +ℤ pos 1) → v < length low → v < length high → get_or frames (depth - 1) (SecondOfChoice 0) ≡ FirstOfSplit v at old → due_leaves leaf (stack frames depth) ≡ listed (set low v (Some new)) (set high v old) sides ∷ due_leaves (listed (set low v (Some new)) (set high v old) sides) (stack (set frames (depth - 1) (SecondOfSplit v first)) depth)
    split_left v at old first new is made h k e =
        let parent = with_high leaf v old in
        let same = ap Some (made ∙ ap (λ (z : Option ℤ). greater z (at +ℤ pos 1)) is) in
        let l = set_low low (set high v old) sides v (Some new) h ∙ ap₂ (λ (x : LeafOf) (z : Option ℤ). with_low x v z) (set_high low high sides v old k) same ∙ above_is parent v at in
        let old_due = ap (due_leaves leaf) (nearest frames depth some ∙ ap (λ (f : Frame). f ∷ stack frames (depth - 1)) e) in
        let new_due = ap₂ due_leaves l (turned frames depth (SecondOfSplit v first) some places ∙ ap (λ (z : Option ℤ). SecondOfSplit v z ∷ stack frames (depth - 1)) is) in
        old_due ∙ ap (λ (ds : List LeafOf). above parent v at ∷ ds) (second_split_due parent (stack frames (depth - 1)) v at) ∙ sym (ap₂ (λ (x : LeafOf) (ds : List LeafOf). x ∷ ds) l new_due)

    pub choice_left : (p : ℕ) → p < length sides → get_or frames (depth - 1) (SecondOfChoice 0) ≡ FirstOfChoice p → due_leaves leaf (stack frames depth) ≡ listed low high (set sides p RowZero) ∷ due_leaves (listed low high (set sides p RowZero)) (stack (set frames (depth - 1) (SecondOfChoice p)) depth)
    choice_left p h e =
        let l = set_side low high sides p RowZero h in
        let old_due = ap (due_leaves leaf) (nearest frames depth some ∙ ap (λ (f : Frame). f ∷ stack frames (depth - 1)) e) in
        let new_due = ap₂ due_leaves l (turned frames depth (SecondOfChoice p) some places) in
        old_due ∙ ap (λ (ds : List LeafOf). decided leaf p RowZero ∷ ds) (second_choice_due leaf (stack frames (depth - 1)) p) ∙ sym (ap₂ (λ (x : LeafOf) (ds : List LeafOf). x ∷ ds) l new_due)
