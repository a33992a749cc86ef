-- A right tree has the form of a bound's.
use Rattle.std.proofs.Common.{◌≡◌, ℕ, ◌+◌, ◌^◌, ◌<◌, ◌≤◌, arith, refl, pos, ◌≤ℤ◌, Option, Some, None, IsSome, option_and_then, List, [], ◌∷◌, ◌++◌, length, slice_get, All}
use Rattle.std.proofs.lemmas.List.Elements.{All-append, All-cons, All-nil}
use Rattle.std.proofs.lemmas.Option.{slice_get_within}
use Rattle.zr_base.specs.Steps.{IsNarrow}
use Rattle.zr_base.specs.Terms.{AscendWith}
use Rattle.zr_base.proofs.Members.{each_back, each_front}
use Rattle.zr_base.proofs.Worth.{Each}
use Rattle.zr_game.specs.declared.leaf.Side.TheVariants.{VarZero, RowZero}
use Rattle.zr_game.specs.Forms.{IsPlayerForm}
use Rattle.zr_game.specs.Leaves.{Bound, LeafOf, above, below, decided, slot_of, slots}
use Rattle.zr_game.specs.Players.{GameOf, PlayerOf}
use Rattle.zr_tree.specs.Form.{IsNodeForm}
use Rattle.zr_tree.specs.Nodes.{ChooseNode, Multipliers, ProofNode, SplitNode}
use Rattle.zr_tree.specs.Right.{ArePresent, IsRight}
use Rattle.zr_tree.specs.Trees.{TreeOf, Split, Choose, Proof, Known, Loose, preorder}
use Rattle.zr_tree.proofs.KnownRows.{slot_count}
use Rattle.zr_cert.specs.Forms.{IsBoundNode}

-- multipliers of slots that are present are no more than the slots
within_slots : (rows : List (Option Bound)) (k : ℕ) → IsSome (slot_of rows k) → k < length rows
within_slots rows k h = which (slice_get rows k) refl h
  where
    which : (o : Option (Option Bound)) → slice_get rows k ≡ o
        → IsSome (option_and_then (λ slot. slot) o) → k < length rows
    which None e s = absurd cc
    which (Some slot) e s = slice_get_within rows k slot e

few_present : (rows : List (Option Bound)) (low : ℕ) (mult : Multipliers)
    → AscendWith (λ z. ((pos 1) ≤ℤ z) × IsNarrow z) low (2 ^ 32) mult → ArePresent rows mult
    → low ≤ length rows → low + length mult ≤ length rows
few_present rows low [] form present h = omega (arith, h)
few_present rows low (t ∷ ts) form present h =
    let k = within_slots rows t.0 present.0 in
    let a = form.0 in
    let r = few_present rows (t.0 + 1) ts form.3 present.1 (omega (arith, k)) in
    omega (arith, a, r)

module _ (game : GameOf) (i : ℕ) (player : PlayerOf) (form : IsPlayerForm game i player)
    (row : Bound) where
  -- the nodes of a right tree are those of a bound's
  pub bound_nodes : (t : TreeOf) (leaf : LeafOf) → IsRight player row leaf t
      → Each IsNodeForm (preorder t) → All IsBoundNode (preorder t)
  bound_nodes (Split v at first second) leaf right forms =
      let small = slice_get_within player.vars v right.0.0 right.0.1 in
      let vars = form.var_count in
      All-cons IsBoundNode (SplitNode v at) (preorder first ++ preorder second)
      (omega (arith, small, vars))
      (All-append IsBoundNode (preorder first) (preorder second)
      (bound_nodes first (below leaf v at) right.1
      (each_front IsNodeForm (preorder first) (preorder second) forms.1))
      (bound_nodes second (above leaf v at) right.2
      (each_back IsNodeForm (preorder first) (preorder second) forms.1)))
  bound_nodes (Choose p first second) leaf right forms =
      let small = right.0.0 in
      let pairs = form.pair_count in
      All-cons IsBoundNode (ChooseNode p) (preorder first ++ preorder second)
      (omega (arith, small, pairs))
      (All-append IsBoundNode (preorder first) (preorder second)
      (bound_nodes first (decided leaf p VarZero) right.1
      (each_front IsNodeForm (preorder first) (preorder second) forms.1))
      (bound_nodes second (decided leaf p RowZero) right.2
      (each_back IsNodeForm (preorder first) (preorder second) forms.1)))
  bound_nodes (Proof scale mult) leaf right forms =
      let f = few_present (slots player leaf) 0 mult forms.0.2 right.0 (omega arith) in
      let s = slot_count player leaf in
      let a = form.var_count in
      let b = form.row_count in
      let c = form.pair_count in
      All-cons IsBoundNode (ProofNode scale mult) [] (omega (arith, f, s, a, b, c))
      (All-nil IsBoundNode)
  bound_nodes (Known x) leaf right forms = absurd right
  bound_nodes Loose leaf right forms = absurd right
