-- Nodes without children, and what is told of them.
use Rattle.std.proofs.Common.{◌≡◌, ℕ, refl, Bool, false, IsTrue, [], Ok, inl, inr}
use Rattle.zr_game.specs.Players.{PlayerOf}
use Rattle.zr_game.specs.Leaves.{LeafOf}
use Rattle.zr_tree.specs.declared.fault.Fault.{Fault}
use Rattle.zr_tree.specs.declared.fault.Fault.TheVariants.{Bad, Wide as TooWide}
use Rattle.zr_tree.specs.Form.{child_count}
use Rattle.zr_tree.specs.Nodes.{NodeOf, SplitNode, ChooseNode, ProofNode, KnownNode, LooseNode}
use Rattle.zr_tree.specs.Right.{EndRule}
use Rattle.zr_tree.specs.Steps.{EndPasses, EndRefused}
use Rattle.zr_tree.specs.Visits.{EndTells, NodePasses, NodeRefused, children}

pub no_children : (leaf : LeafOf) (node : NodeOf) → child_count node ≡ 0
    → children leaf node ≡ []
no_children leaf (SplitNode v at) e = absurd cc
no_children leaf (ChooseNode p) e = absurd cc
no_children leaf (ProofNode scale mult) e = refl
no_children leaf (KnownNode x) e = refl
no_children leaf LooseNode e = refl

module _ (right wide : EndRule) (player : PlayerOf) (leaf : LeafOf) where
  end_passes : (node : NodeOf) → child_count node ≡ 0 → EndPasses right wide leaf node
      → NodePasses right wide player leaf node
  end_passes (SplitNode v at) e h = absurd cc
  end_passes (ChooseNode p) e h = absurd cc
  end_passes (ProofNode scale mult) e h = h
  end_passes (KnownNode x) e h = h
  end_passes LooseNode e h = h

  end_refused : (k : ℕ) (node : NodeOf) (fault : Fault) → child_count node ≡ 0
      → EndRefused right wide k leaf node fault → NodeRefused right wide player k leaf node fault
  end_refused k (SplitNode v at) fault e h = absurd cc
  end_refused k (ChooseNode p) fault e h = absurd cc
  end_refused k (ProofNode scale mult) fault e h = h
  end_refused k (KnownNode x) fault e h = h
  end_refused k LooseNode fault e h = h

  module _ (k : ℕ) (node : NodeOf) (none : child_count node ≡ 0) where
    pub told_right : (keeps : Bool) → IsTrue keeps → EndTells (Ok keeps) right wide leaf node
        → NodePasses right wide player leaf node
    told_right keeps kept told = end_passes node none (told.1.0 kept, told.0)

    pub told_bad : (keeps : Bool) → keeps ≡ false → EndTells (Ok keeps) right wide leaf node
        → NodeRefused right wide player k leaf node (Bad k)
    told_bad keeps apart told =
        end_refused k node (Bad k) none
        (inr (told.0, (λ h. differ keeps (told.1.1 h) apart), refl))
      where
        differ : (b : Bool) → IsTrue b → b ≡ false → ⊥
        differ b t n = cc

    pub told_wide : wide leaf node → NodeRefused right wide player k leaf node (TooWide k)
    told_wide told = end_refused k node (TooWide k) none (inl (told, refl))
