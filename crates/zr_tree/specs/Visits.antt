-- What is asked of one node of a tree, and the leaves of its children.
use Rattle.std.specs.Prelude.{◌≡◌, ◌↔◌, ℕ, ◌+◌, ◌*◌, ◌^◌, ◌<◌, ℤ, Bool, IsTrue, Result, Ok, Err, List, [], ◌∷◌, length}
use Rattle.std.specs.List.{All}
use Rattle.zr_base.specs.declared.step.Wide.{Wide}
use Rattle.zr_game.specs.declared.leaf.Side.TheVariants.{VarZero, RowZero}
use Rattle.zr_game.specs.Forms.{IsPairForm, IsRowForm}
use Rattle.zr_game.specs.Players.{PlayerOf}
use Rattle.zr_game.specs.Leaves.{Bound, IsOpenPair, IsWholeVar, LeafOf, above, below, decided}
use Rattle.zr_tree.specs.declared.fault.Fault.{Fault}
use Rattle.zr_tree.specs.declared.fault.Fault.TheVariants.{Bad}
use Rattle.zr_tree.specs.Nodes.{Multipliers, NodeOf, SplitNode, ChooseNode, ProofNode, KnownNode, LooseNode}
use Rattle.zr_tree.specs.Right.{EndRule, ProvesRow}
use Rattle.zr_tree.specs.Steps.{EndPasses, EndRefused, IsWideForRow}

-- the player's rows and pairs keep the rules, and there are few of them
pub record HasForms (player : PlayerOf) : Type 0 where
  pub rows : All (IsRowForm (length player.vars)) player.rows
  pub pairs : All (IsPairForm (length player.vars)) player.pairs
  pub few : length player.rows + (length player.vars + length player.pairs) * 2 < 2 ^ 32

-- the leaves of a node's children
abbrev pub children : LeafOf → NodeOf → List LeafOf
children leaf (SplitNode v at) = below leaf v at ∷ above leaf v at ∷ []
children leaf (ChooseNode p) = decided leaf p VarZero ∷ decided leaf p RowZero ∷ []
children leaf (ProofNode scale mult) = []
children leaf (KnownNode x) = []
children leaf LooseNode = []

-- the node by itself is right, and no step of its sums is too wide
abbrev pub NodePasses : EndRule → EndRule → PlayerOf → LeafOf → NodeOf → Type 0
NodePasses right wide player leaf (SplitNode v at) = IsWholeVar player v
NodePasses right wide player leaf (ChooseNode p) = IsOpenPair player leaf p
NodePasses right wide player leaf (ProofNode scale mult) = EndPasses right wide leaf (ProofNode scale mult)
NodePasses right wide player leaf (KnownNode x) = EndPasses right wide leaf (KnownNode x)
NodePasses right wide player leaf LooseNode = EndPasses right wide leaf LooseNode

-- the node by itself, which has the number k, is refused
abbrev pub NodeRefused : EndRule → EndRule → PlayerOf → ℕ → LeafOf → NodeOf → Fault → Type 0
NodeRefused right wide player k leaf (SplitNode v at) fault = (IsWholeVar player v → ⊥) × (fault ≡ Bad k)
NodeRefused right wide player k leaf (ChooseNode p) fault = (IsOpenPair player leaf p → ⊥) × (fault ≡ Bad k)
NodeRefused right wide player k leaf (ProofNode scale mult) fault =
    EndRefused right wide k leaf (ProofNode scale mult) fault
NodeRefused right wide player k leaf (KnownNode x) fault = EndRefused right wide k leaf (KnownNode x) fault
NodeRefused right wide player k leaf LooseNode fault = EndRefused right wide k leaf LooseNode fault

-- the answer at an end: whether it keeps the rule, where no step is too wide
abbrev pub EndTells : Result Bool Wide → EndRule → EndRule → LeafOf → NodeOf → Type 0
EndTells (Ok keeps) right wide leaf node = (wide leaf node → ⊥) × (IsTrue keeps ↔ right leaf node)
EndTells (Err w) right wide leaf node = wide leaf node

-- the answer of a leaf's proof of a row
abbrev pub ProofTells : Result Bool Wide → PlayerOf → Bound → LeafOf → ℤ → Multipliers → Type 0
ProofTells result player bound leaf scale mult =
    EndTells result (ProvesRow player bound) (IsWideForRow player bound) leaf (ProofNode scale mult)
