-- Ends that are drawn from questions are so from questions with further aims.
use Rattle.std.proofs.Common.{ℤ, List}
use Rattle.zr_game.specs.Leaves.{LeafOf, above, below, decided}
use Rattle.zr_game.specs.Players.{PlayerOf}
use Rattle.zr_game.specs.declared.leaf.Side.TheVariants.{VarZero, RowZero}
use Rattle.zr_tree.specs.Right.{IsRightBy}
use Rattle.zr_tree.specs.Trees.{TreeOf, Split, Choose, Proof, Known, Loose}
use Rattle.zr_asked.specs.Drawn.{IsDrawnEnd}
use Rattle.zr_asked.specs.Stuck.{Aims}

module _ (player : PlayerOf) (May Also : Aims) (also : (aim : List ℤ) → May aim → Also aim) where
  pub drawn_also : (t : TreeOf) (leaf : LeafOf)
      → IsRightBy (IsDrawnEnd player May) player leaf t
      → IsRightBy (IsDrawnEnd player Also) player leaf t
  drawn_also (Split v at first second) leaf h = (
    h.0,
    drawn_also first (below leaf v at) h.1,
    drawn_also second (above leaf v at) h.2,
  )
  drawn_also (Choose p first second) leaf h = (
    h.0,
    drawn_also first (decided leaf p VarZero) h.1,
    drawn_also second (decided leaf p RowZero) h.2,
  )
  drawn_also (Proof scale mult) leaf h = (h.0, also h.0 h.1, h.2)
  drawn_also (Known x) leaf h = (h.0, also h.0 h.1, h.2)
  drawn_also Loose leaf h = tt
