-- What a tree with exact ends is.
use Rattle.std.proofs.Common.{◌≡◌, refl, Bool, false, List, [], ◌∷◌}
use Rattle.zr_io.specs.declared.purse.Purse.{Purse}
use Rattle.zr_game.specs.Players.{PlayerOf}
use Rattle.zr_game.specs.Leaves.{LeafOf, above, below, decided, root_leaf}
use Rattle.zr_game.specs.declared.leaf.Side.TheVariants.{VarZero, RowZero}
use Rattle.zr_tree.specs.Covers.{IsCoverTree}
use Rattle.zr_tree.specs.Nodes.{NodeOf, SplitNode, ChooseNode, ProofNode, KnownNode, LooseNode}
use Rattle.zr_tree.specs.Right.{IsRightBy}
use Rattle.zr_tree.specs.Trees.{TreeOf, Split, Choose, Proof, Known, Loose, preorder}
use Rattle.zr_asked.specs.Drawn.{IsDrawnEnd}
use Rattle.zr_asked.specs.OpenTrees.{IsOpenTree, units}
use Rattle.zr_asked.specs.Stuck.{IsPlainAim}
use Rattle.zr_cover.specs.Covers.{HasNoLoose, IsExactCover}
use Rattle.zr_cover.specs.Fates.{AreCoverNodes, IsCovering, IsExactEnd}

module _ (player : PlayerOf) where
  pub covering_open : (loose : Bool) (leaf : LeafOf) (t : TreeOf)
      → IsCovering loose player leaf t → IsOpenTree player leaf t
  covering_open loose leaf (Split v at first second) h = (
    h.0,
    h.1,
    covering_open loose (below leaf v at) first h.2,
    covering_open loose (above leaf v at) second h.3,
  )
  covering_open loose leaf (Choose p first second) h = (
    h.0,
    h.1,
    covering_open loose (decided leaf p VarZero) first h.2,
    covering_open loose (decided leaf p RowZero) second h.3,
  )
  covering_open loose leaf (Proof scale mult) h = tt
  covering_open loose leaf (Known x) h = tt
  covering_open loose leaf Loose h = tt

  covering_covers : (leaf : LeafOf) (t : TreeOf) → IsCovering false player leaf t
      → IsCoverTree player leaf t
  covering_covers leaf (Split v at first second) h = (
    h.1.whole,
    covering_covers (below leaf v at) first h.2,
    covering_covers (above leaf v at) second h.3,
  )
  covering_covers leaf (Choose p first second) h = (
    h.1,
    covering_covers (decided leaf p VarZero) first h.2,
    covering_covers (decided leaf p RowZero) second h.3,
  )
  covering_covers leaf (Proof scale mult) h = h.0
  covering_covers leaf (Known x) h = h.0
  covering_covers leaf Loose h = tt

  covering_drawn : (leaf : LeafOf) (t : TreeOf) → IsCovering false player leaf t
      → IsRightBy (IsDrawnEnd player (IsPlainAim player)) player leaf t
  covering_drawn leaf (Split v at first second) h = (
    h.1.whole,
    covering_drawn (below leaf v at) first h.2,
    covering_drawn (above leaf v at) second h.3,
  )
  covering_drawn leaf (Choose p first second) h = (
    h.1,
    covering_drawn (decided leaf p VarZero) first h.2,
    covering_drawn (decided leaf p RowZero) second h.3,
  )
  covering_drawn leaf (Proof scale mult) h = h.1
  covering_drawn leaf (Known x) h = h.1
  covering_drawn leaf Loose h = tt

  covering_exact : (leaf : LeafOf) (t : TreeOf) → IsCovering false player leaf t → HasNoLoose t
  covering_exact leaf (Split v at first second) h = (
    covering_exact (below leaf v at) first h.2,
    covering_exact (above leaf v at) second h.3,
  )
  covering_exact leaf (Choose p first second) h = (
    covering_exact (decided leaf p VarZero) first h.2,
    covering_exact (decided leaf p RowZero) second h.3,
  )
  covering_exact leaf (Proof scale mult) h = tt
  covering_exact leaf (Known x) h = tt
  covering_exact leaf Loose h = absurd cc

  pub exact_cover_of : (old new : Purse) (nodes : List NodeOf)
      → (c : AreCoverNodes player old new nodes) → IsExactCover player old new c.0
  exact_cover_of old new nodes c = record {
    cover = covering_covers (root_leaf player) c.0 c.2;
    exact = covering_exact (root_leaf player) c.0 c.2;
    open_is = covering_open false (root_leaf player) c.0 c.2;
    spent = c.3;
    drawn = covering_drawn (root_leaf player) c.0 c.2;
  }

  -- an exact end is a tree by itself
  pub end_tree : (loose : Bool) (leaf : LeafOf) (node : NodeOf) → IsExactEnd player leaf node
      → (t : TreeOf) × IsCovering loose player leaf t × (preorder t ≡ node ∷ []) × (units t ≡ 0)
  end_tree loose leaf (SplitNode v at) h = absurd h
  end_tree loose leaf (ChooseNode p) h = absurd h
  end_tree loose leaf (ProofNode scale mult) h = (Proof scale mult, h, refl, refl)
  end_tree loose leaf (KnownNode x) h = (Known x, h, refl, refl)
  end_tree loose leaf LooseNode h = absurd h
