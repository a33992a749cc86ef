-- The nodes of covers keep the rules of certificates.
use Rattle.std.proofs.Common.{◌≡◌, ℕ, ◌+◌, ◌^◌, ◌<◌, ◌≤◌, arith, refl, pos, ◌≤ℤ◌, IsSome, Option, Some, None, option_and_then, All, List, [], ◌∷◌, ◌++◌, length, slice_get}
use Rattle.std.proofs.lemmas.Option.{slice_get_within}
use Rattle.std.proofs.lemmas.List.Elements.{All-append, All-cons, All-head, All-nil, All-tail}
use Rattle.zr_base.specs.Steps.{IsNarrow}
use Rattle.zr_base.specs.Terms.{AscendWith}
use Rattle.zr_game.specs.Forms.{IsPlayerForm}
use Rattle.zr_game.specs.Leaves.{Bound, LeafOf, above, below, decided, slot_of, slots}
use Rattle.zr_game.specs.Players.{GameOf, PlayerOf}
use Rattle.zr_game.specs.declared.leaf.Side.TheVariants.{VarZero, RowZero}
use Rattle.zr_tree.specs.Covers.{IsCoverTree}
use Rattle.zr_tree.specs.Form.{AreMultipliers, IsNodeForm}
use Rattle.zr_tree.specs.Nodes.{Multipliers, NodeOf, SplitNode, ChooseNode, ProofNode, KnownNode, LooseNode}
use Rattle.zr_tree.specs.Right.{ArePresent, IsRefuted}
use Rattle.zr_tree.specs.Trees.{TreeOf, Split, Choose, Proof, Known, Loose, preorder}
use Rattle.zr_system.proofs.Lists.{slots_length}
use Rattle.zr_cert.specs.Forms.{IsCoverNode, IsEmptyNode, leaf_count}
use Rattle.zr_decide.specs.Coverings.{HasPointForm}
use Rattle.zr_decide.proofs.Lists.{all_back, all_front}

-- ---- multipliers

-- multipliers of slots that are present are no more than the slots
within_slots : (rows : List (Option Bound)) (k : ℕ) → IsSome (slot_of rows k) → k < length rows
within_slots rows k h = which (slice_get rows k) refl h
  where
    which : (o : Option (Option Bound)) → slice_get rows k ≡ o
        → IsSome (option_and_then (λ slot. slot) o) → k < length rows
    which None e s = absurd cc
    which (Some slot) e s = slice_get_within rows k slot e

few_present : (rows : List (Option Bound)) (low : ℕ) (mult : Multipliers)
    → AscendWith (λ z. ((pos 1) ≤ℤ z) × IsNarrow z) low (2 ^ 32) mult → ArePresent rows mult
    → low ≤ length rows → low + length mult ≤ length rows
few_present rows low [] form present h = omega (arith, h)
few_present rows low (t ∷ ts) form present h =
    let k = within_slots rows t.0 present.0 in
    let a = form.0 in
    let r = few_present rows (t.0 + 1) ts form.3 present.1 (omega (arith, k)) in
    omega (arith, a, r)

few_multipliers : (game : GameOf) (i : ℕ) (player : PlayerOf) → IsPlayerForm game i player
    → (leaf : LeafOf) (mult : Multipliers) → AreMultipliers mult
    → ArePresent (slots player leaf) mult → length mult < 2 ^ 32
few_multipliers game i player some leaf mult form present =
    let f = few_present (slots player leaf) 0 mult form present (omega arith) in
    let l = slots_length player leaf in
    let a = some.var_count in
    let b = some.row_count in
    let c = some.pair_count in
    omega (arith, f, l, a, b, c)

-- ---- nodes

module _ (game : GameOf) (i : ℕ) (player : PlayerOf) (some : IsPlayerForm game i player) where
  one_node : (node : NodeOf) → IsCoverNode node → All IsCoverNode (node ∷ [])
  one_node node h = All-cons IsCoverNode node [] h (All-nil IsCoverNode)

  below_node : (node : NodeOf) (xs ys : List NodeOf) → IsCoverNode node → All IsCoverNode xs
      → All IsCoverNode ys → All IsCoverNode (node ∷ (xs ++ ys))
  below_node node xs ys h a b =
      All-cons IsCoverNode node (xs ++ ys) h (All-append IsCoverNode xs ys a b)

  module _ (P : NodeOf → Type 0) (node : NodeOf) (xs ys : List NodeOf)
      (h : All P (node ∷ (xs ++ ys))) where
    first_part : All P xs
    first_part = all_front P xs ys (All-tail P node (xs ++ ys) h)

    second_part : All P ys
    second_part = all_back P xs ys (All-tail P node (xs ++ ys) h)

  pub cover_nodes : (leaf : LeafOf) (t : TreeOf) → IsCoverTree player leaf t
      → All IsNodeForm (preorder t) → All HasPointForm (preorder t)
      → All IsCoverNode (preorder t)
  cover_nodes leaf (Split v at a b) c forms points =
      let xs = preorder a in
      let ys = preorder b in
      let node = SplitNode v at in
      let l = slice_get_within player.vars v c.0.0 c.0.1 in
      let n = some.var_count in
      below_node node xs ys (omega (arith, l, n))
      (cover_nodes (below leaf v at) a c.1 (first_part IsNodeForm node xs ys forms)
      (first_part HasPointForm node xs ys points))
      (cover_nodes (above leaf v at) b c.2 (second_part IsNodeForm node xs ys forms)
      (second_part HasPointForm node xs ys points))
  cover_nodes leaf (Choose p a b) c forms points =
      let xs = preorder a in
      let ys = preorder b in
      let node = ChooseNode p in
      let l = c.0.0 in
      let n = some.pair_count in
      below_node node xs ys (omega (arith, l, n))
      (cover_nodes (decided leaf p VarZero) a c.1 (first_part IsNodeForm node xs ys forms)
      (first_part HasPointForm node xs ys points))
      (cover_nodes (decided leaf p RowZero) b c.2 (second_part IsNodeForm node xs ys forms)
      (second_part HasPointForm node xs ys points))
  cover_nodes leaf (Proof scale mult) c forms points =
      let form = All-head IsNodeForm (ProofNode scale mult) [] forms in
      one_node (ProofNode scale mult)
      (c.2.none, few_multipliers game i player some leaf mult form.2 c.0)
  cover_nodes leaf (Known x) c forms points =
      let form = All-head HasPointForm (KnownNode x) [] points in
      let l = c.1.len in
      let n = some.some_var in
      one_node (KnownNode x) (omega (arith, l, n), form)
  cover_nodes leaf Loose c forms points = one_node LooseNode tt

-- ---- covers without a leaf

empty_node : (node : NodeOf) → IsCoverNode node → leaf_count (node ∷ []) ≡ 0 → IsEmptyNode node
empty_node (SplitNode v at) h e = h
empty_node (ChooseNode p) h e = h
empty_node (ProofNode scale mult) h e = h
empty_node (KnownNode x) h e = absurd (omega (arith, e))
empty_node LooseNode h e = absurd (omega (arith, e))

pub empty_nodes : (nodes : List NodeOf) → All IsCoverNode nodes → leaf_count nodes ≡ 0
    → All IsEmptyNode nodes
empty_nodes [] h e = All-nil IsEmptyNode
empty_nodes (node ∷ nodes) h e =
    All-cons IsEmptyNode node nodes
    (empty_node node (All-head IsCoverNode node nodes h) (omega (arith, e)))
    (empty_nodes nodes (All-tail IsCoverNode node nodes h) (omega (arith, e)))

count_append : (xs ys : List NodeOf) → leaf_count (xs ++ ys) ≡ leaf_count xs + leaf_count ys
count_append [] ys = omega arith
count_append (x ∷ xs) ys = let r = count_append xs ys in omega (arith, r)

pub refuted_tree : (player : PlayerOf) (leaf : LeafOf) (t : TreeOf) → IsCoverTree player leaf t
    → leaf_count (preorder t) ≡ 0 → IsRefuted player leaf t
refuted_tree player leaf (Split v at a b) c e =
    let s = count_append (preorder a) (preorder b) in (
      c.0,
      refuted_tree player (below leaf v at) a c.1 (omega (arith, e, s)),
      refuted_tree player (above leaf v at) b c.2 (omega (arith, e, s)),
    )
refuted_tree player leaf (Choose p a b) c e =
    let s = count_append (preorder a) (preorder b) in (
      c.0,
      refuted_tree player (decided leaf p VarZero) a c.1 (omega (arith, e, s)),
      refuted_tree player (decided leaf p RowZero) b c.2 (omega (arith, e, s)),
    )
refuted_tree player leaf (Proof scale mult) c e = c
refuted_tree player leaf (Known x) c e = absurd (omega (arith, e))
refuted_tree player leaf Loose c e = absurd (omega (arith, e))
