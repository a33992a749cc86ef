-- Each feasible point is inside an end of a tree; so a right tree's row holds there.
use Rattle.std.proofs.Common.{◌≡◌, ◌≢◌, ℕ, ◌<◌, ◌==◌, arith, refl, subst, ℤ, pos, ◌+ℤ◌, ◌*ℤ◌, ◌≤ℤ◌, Bool, true, false, cond, Option, Some, None, All, length, slice_get, ◌⊎◌, ⊎_elim, inl, inr, int_le}
use Rattle.std.proofs.lemmas.Int.{ints}
use Rattle.std.proofs.lemmas.Bool.{cases_eq}
use Rattle.std.proofs.lemmas.Bool.Decides.{nat_tests}
use Rattle.std.proofs.lemmas.Option.{get_or_from_slice_get}
use Rattle.zr_base.specs.Points.{PointOf, num_of}
use Rattle.zr_base.proofs.Worth.{le_times}
use Rattle.zr_game.specs.declared.leaf.Side.{Side}
use Rattle.zr_game.specs.declared.leaf.Side.TheVariants.{VarZero, RowZero}
use Rattle.zr_game.specs.Players.{PairOf, PlayerOf, VarOf}
use Rattle.zr_game.specs.Forms.{IsPairForm, IsRowForm}
use Rattle.zr_game.specs.Feasible.{IsFeasible, PairHolds, slack}
use Rattle.zr_game.specs.Leaves.{Bound, BoundHolds, IsWholeVar, LeafOf, above, below, decided, greater, lesser, root_leaf, slots}
use Rattle.zr_game.proofs.Items.{at_number}
use Rattle.zr_tree.specs.Nodes.{NodeOf, SplitNode, ChooseNode, ProofNode, KnownNode, LooseNode}
use Rattle.zr_tree.specs.Trees.{TreeOf, Split, Choose, Proof, Known, Loose}
use Rattle.zr_tree.specs.Right.{EndRule, IsRefuted, IsRefuting, IsRight, IsRightBy, IsScaled, ProvesRow, Refutes}
use Rattle.zr_game.proofs.Holding.{Inside, SideHolds, all_slots, in_root}
use Rattle.zr_tree.proofs.Combinations.{refuting, scaled}

le_or_above : (a b : ℤ) → (a ≤ℤ b) ⊎ ((b +ℤ pos 1) ≤ℤ a)
le_or_above a b = which (int_le a b) refl
  where
    which : (t : Bool) → int_le a b ≡ t → (a ≤ℤ b) ⊎ ((b +ℤ pos 1) ≤ℤ a)
    which true e = inl (omega (arith, ints, e))
    which false e = inr (omega (arith, ints, e))

either : (P : ℤ → Type 0) (t : Bool) (a b : ℤ) → P a → P b → P (cond t a b)
either P true a b p q = p
either P false a b p q = q

module _ (player : PlayerOf) (x : PointOf) (feasible : IsFeasible player x) where
  module _ (leaf : LeafOf) (inside : Inside player leaf x) where
    lesser_holds : (w : ℕ) (at : ℤ) (o : Option ℤ) (h : ℤ) → ((a : ℤ) → o ≡ Some a → num_of x w ≤ℤ (a *ℤ x.den)) → num_of x w ≤ℤ (at *ℤ x.den) → lesser o at ≡ h → num_of x w ≤ℤ (h *ℤ x.den)
    lesser_holds w at None h old new e = subst (λ (z : ℤ). num_of x w ≤ℤ (z *ℤ x.den)) e new
    lesser_holds w at (Some a) h old new e =
        subst (λ (z : ℤ). num_of x w ≤ℤ (z *ℤ x.den)) e (either (λ z. num_of x w ≤ℤ (z *ℤ x.den)) (int_le a at) a at (old a refl) new)

    greater_holds : (w : ℕ) (at : ℤ) (o : Option ℤ) (l : ℤ) → ((a : ℤ) → o ≡ Some a → (a *ℤ x.den) ≤ℤ num_of x w) → (at *ℤ x.den) ≤ℤ num_of x w → greater o at ≡ l → (l *ℤ x.den) ≤ℤ num_of x w
    greater_holds w at None l old new e = subst (λ (z : ℤ). (z *ℤ x.den) ≤ℤ num_of x w) e new
    greater_holds w at (Some a) l old new e =
        subst (λ (z : ℤ). (z *ℤ x.den) ≤ℤ num_of x w) e (either (λ z. (z *ℤ x.den) ≤ℤ num_of x w) (int_le a at) at a new (old a refl))

    below_inside : (v : ℕ) (at : ℤ) → num_of x v ≤ℤ (at *ℤ x.den) → Inside player (below leaf v at) x
    below_inside v at new = record {
      lows = inside.lows;
      highs = λ w h q e. ⊎_elim (λ (s : v ≡ w). here w h q s e) (λ (n : v ≢ w). there w h q n e) (cases_eq v w);
      sides = inside.sides;
    }
      where
        here : (w : ℕ) (h : ℤ) → w < length player.vars → v ≡ w → cond (v == w) (Some (lesser (leaf.high w) at)) (leaf.high w) ≡ Some h → num_of x w ≤ℤ (h *ℤ x.den)
        here w h q s e =
            let t : (v == w) ≡ true = grind (arith, nat_tests) in
            let f = rw t at e in
            let g : lesser (leaf.high w) at ≡ h = cc in
            lesser_holds w at (leaf.high w) h (λ a k. inside.highs w a q k) (subst (λ (n : ℕ). num_of x n ≤ℤ (at *ℤ x.den)) s new) g

        there : (w : ℕ) (h : ℤ) → w < length player.vars → v ≢ w → cond (v == w) (Some (lesser (leaf.high w) at)) (leaf.high w) ≡ Some h → num_of x w ≤ℤ (h *ℤ x.den)
        there w h q n e =
            let t : (v == w) ≡ false = grind (arith, nat_tests) in
            inside.highs w h q (rw t at e)

    above_inside : (v : ℕ) (at : ℤ) → ((at +ℤ pos 1) *ℤ x.den) ≤ℤ num_of x v → Inside player (above leaf v at) x
    above_inside v at new = record {
      lows = λ w l q e. ⊎_elim (λ (s : v ≡ w). here w l q s e) (λ (n : v ≢ w). there w l q n e) (cases_eq v w);
      highs = inside.highs;
      sides = inside.sides;
    }
      where
        here : (w : ℕ) (l : ℤ) → w < length player.vars → v ≡ w → cond (v == w) (Some (greater (leaf.low w) (at +ℤ pos 1))) (leaf.low w) ≡ Some l → (l *ℤ x.den) ≤ℤ num_of x w
        here w l q s e =
            let t : (v == w) ≡ true = grind (arith, nat_tests) in
            let f = rw t at e in
            let g : greater (leaf.low w) (at +ℤ pos 1) ≡ l = cc in
            greater_holds w (at +ℤ pos 1) (leaf.low w) l (λ a k. inside.lows w a q k) (subst (λ (n : ℕ). ((at +ℤ pos 1) *ℤ x.den) ≤ℤ num_of x n) s new) g

        there : (w : ℕ) (l : ℤ) → w < length player.vars → v ≢ w → cond (v == w) (Some (greater (leaf.low w) (at +ℤ pos 1))) (leaf.low w) ≡ Some l → (l *ℤ x.den) ≤ℤ num_of x w
        there w l q n e =
            let t : (v == w) ≡ false = grind (arith, nat_tests) in
            inside.lows w l q (rw t at e)

    decided_inside : (p : ℕ) (pair : PairOf) (side : Side) → slice_get player.pairs p ≡ Some pair → SideHolds x pair side → Inside player (decided leaf p side) x
    decided_inside p pair side found new = record {
      lows = inside.lows;
      highs = inside.highs;
      sides = λ q other e. ⊎_elim (λ (s : p ≡ q). here q other s e) (λ (n : p ≢ q). there q other n e) (cases_eq p q);
    }
      where
        here : (q : ℕ) (other : PairOf) → p ≡ q → slice_get player.pairs q ≡ Some other → SideHolds x other (cond (p == q) side (leaf.side q))
        here q other s e =
            let t : (p == q) ≡ true = grind (arith, nat_tests) in
            let g : pair ≡ other = cc in
            rw t (subst (λ (z : PairOf). SideHolds x z side) g new)

        there : (q : ℕ) (other : PairOf) → p ≢ q → slice_get player.pairs q ≡ Some other → SideHolds x other (cond (p == q) side (leaf.side q))
        there q other n e =
            let t : (p == q) ≡ false = grind (arith, nat_tests) in
            rw t (inside.sides q other e)

  whole_value : (v : ℕ) (var : VarOf) → slice_get player.vars v ≡ Some var → var.whole ≡ true → (k : ℤ) × (num_of x v ≡ k *ℤ x.den)
  whole_value v var e w = (feasible.bounds v var e).whole (rw w refl)

  pair_holds : (p : ℕ) → p < length player.pairs → (pair : PairOf) × (slice_get player.pairs p ≡ Some pair) × PairHolds x pair
  pair_holds p h =
      let f = at_number player.pairs p h in
      (f.0, f.1, subst (PairHolds x) (get_or_from_slice_get player.pairs p f.0 f.0 f.1) (feasible.pairs p f.0 h))

  -- at a split the point is inside one of the children
  pub one_side : (leaf : LeafOf) → Inside player leaf x → (v : ℕ) (at : ℤ) → IsWholeVar player v
      → Inside player (below leaf v at) x ⊎ Inside player (above leaf v at) x
  one_side leaf inside v at whole =
      let k = whole_value v whole.0 whole.1 whole.2 in
      ⊎_elim (λ (s : k.0 ≤ℤ at). inl (below_inside leaf inside v at
      (rw k.1 (le_times k.0 at x.den feasible.point s))))
      (λ (s : (at +ℤ pos 1) ≤ℤ k.0). inr (above_inside leaf inside v at
      (rw k.1 (le_times (at +ℤ pos 1) k.0 x.den feasible.point s)))) (le_or_above k.0 at)

  -- and at a choice
  pub one_choice : (leaf : LeafOf) → Inside player leaf x → (p : ℕ) → p < length player.pairs
      → Inside player (decided leaf p VarZero) x ⊎ Inside player (decided leaf p RowZero) x
  one_choice leaf inside p below =
      let hold = pair_holds p below in
      ⊎_elim (λ (s : num_of x hold.0.var ≡ pos 0).
      inl (decided_inside leaf inside p hold.0 VarZero hold.1 s))
      (λ (s : slack hold.0 x ≡ pos 0).
      inr (decided_inside leaf inside p hold.0 RowZero hold.1 s)) hold.2.2

  -- the point is inside one of the tree's ends
  pub at_end : (rule : EndRule) (P : Type 0)
      → ((leaf : LeafOf) (node : NodeOf) → Inside player leaf x → rule leaf node → P)
      → (tree : TreeOf) (leaf : LeafOf) → Inside player leaf x
      → IsRightBy rule player leaf tree → P
  at_end rule P end (Split v at first second) leaf inside right =
      ⊎_elim (λ (s : Inside player (below leaf v at) x).
      at_end rule P end first (below leaf v at) s right.1)
      (λ (s : Inside player (above leaf v at) x).
      at_end rule P end second (above leaf v at) s right.2) (one_side leaf inside v at right.0)
  at_end rule P end (Choose p first second) leaf inside right =
      ⊎_elim (λ (s : Inside player (decided leaf p VarZero) x).
      at_end rule P end first (decided leaf p VarZero) s right.1)
      (λ (s : Inside player (decided leaf p RowZero) x).
      at_end rule P end second (decided leaf p RowZero) s right.2)
      (one_choice leaf inside p right.0.0)
  at_end rule P end (Proof scale mult) leaf inside right = end leaf (ProofNode scale mult) inside right
  at_end rule P end (Known y) leaf inside right = end leaf (KnownNode y) inside right
  at_end rule P end Loose leaf inside right = end leaf LooseNode inside right

  module _ (rows : All (IsRowForm (length player.vars)) player.rows) (pairs : All (IsPairForm (length player.vars)) player.pairs) where
    end_proves : (bound : Bound) (leaf : LeafOf) (node : NodeOf) → Inside player leaf x → ProvesRow player bound leaf node → BoundHolds player x bound
    end_proves bound leaf (SplitNode v at) inside h = absurd h
    end_proves bound leaf (ChooseNode p) inside h = absurd h
    end_proves bound leaf (ProofNode scale mult) inside h =
        let all = all_slots player x leaf inside rows pairs feasible in
        ⊎_elim (λ (s : IsScaled player bound scale (slots player leaf) mult). scaled player x feasible.point (slots player leaf) mult all h.1 h.0 bound scale s) (λ (s : IsRefuting player scale (slots player leaf) mult). absurd (refuting player x feasible.point (slots player leaf) mult all h.1 h.0 scale s)) h.2
    end_proves bound leaf (KnownNode y) inside h = absurd h
    end_proves bound leaf LooseNode inside h = absurd h

    pub end_refutes : (leaf : LeafOf) (node : NodeOf) → Inside player leaf x → Refutes player leaf node → ⊥
    end_refutes leaf (SplitNode v at) inside h = h
    end_refutes leaf (ChooseNode p) inside h = h
    end_refutes leaf (ProofNode scale mult) inside h =
        let all = all_slots player x leaf inside rows pairs feasible in
        refuting player x feasible.point (slots player leaf) mult all h.1 h.0 scale h.2
    end_refutes leaf (KnownNode y) inside h = h
    end_refutes leaf LooseNode inside h = h

    pub holds_at_root : (bound : Bound) (tree : TreeOf) → IsRight player bound (root_leaf player) tree → BoundHolds player x bound
    holds_at_root bound tree right =
        at_end (ProvesRow player bound) (BoundHolds player x bound) (end_proves bound) tree (root_leaf player) (in_root player x feasible) right

    pub none_at_root : (tree : TreeOf) → IsRefuted player (root_leaf player) tree → ⊥
    none_at_root tree right = at_end (Refutes player) ⊥ end_refutes tree (root_leaf player) (in_root player x feasible) right

-- a tree that refutes its leaf is right for each row
pub right_if_refuted : (player : PlayerOf) (bound : Bound) (t : TreeOf) (leaf : LeafOf) → IsRefuted player leaf t → IsRight player bound leaf t
right_if_refuted player bound (Split v at first second) leaf h =
    (h.0, right_if_refuted player bound first (below leaf v at) h.1, right_if_refuted player bound second (above leaf v at) h.2)
right_if_refuted player bound (Choose p first second) leaf h =
    (h.0, right_if_refuted player bound first (decided leaf p VarZero) h.1, right_if_refuted player bound second (decided leaf p RowZero) h.2)
right_if_refuted player bound (Proof scale mult) leaf h = (h.0, h.1, inr h.2)
right_if_refuted player bound (Known x) leaf h = absurd h
right_if_refuted player bound Loose leaf h = absurd h
