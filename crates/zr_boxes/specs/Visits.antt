-- What is asked of one node of a box tree, and the boxes of its children.
use Rattle.std.specs.Prelude.{◌≡◌, ◌↔◌, ℕ, ◌<◌, pos, Bool, IsTrue, IsErr, Option, Result, Ok, Err, List, [], ◌∷◌}
use Rattle.zr_base.specs.declared.step.Wide.{Wide}
use Rattle.zr_game.specs.Players.{GameOf, PlayerOf}
use Rattle.zr_game.specs.Leaves.{Bound, LeafOf}
use Rattle.zr_tree.specs.declared.fault.Fault.{Fault}
use Rattle.zr_tree.specs.declared.fault.Fault.TheVariants.{Bad}
use Rattle.zr_tree.specs.Nodes.{Multipliers}
use Rattle.zr_tree.specs.Right.{IsRefutation, left_of}
use Rattle.zr_tree.specs.Steps.{left_steps}
use Rattle.zr_cases.specs.Cases.{BNodeOf, CutNode, EmptyNode, DeviateNode}
use Rattle.zr_boxes.specs.Boxes.{BoxOf, cut_above, cut_below}
use Rattle.zr_boxes.specs.Right.{HasWholeVar}
use Rattle.zr_boxes.specs.Steps.{ClosesBox, EndPasses, EndRefused, HasWideRows, IsWideEnd}

abbrev pub children : BoxOf → BNodeOf → List BoxOf
children box (CutNode i v at) = cut_below box i v at ∷ cut_above box i v at ∷ []
children box (EmptyNode i mult) = []
children box (DeviateNode i x) = []

-- the node by itself is right, and no step of its sums is too wide
abbrev pub NodePasses : GameOf → BoxOf → BNodeOf → Type 0
NodePasses game box (CutNode i v at) = HasWholeVar game i v
NodePasses game box (EmptyNode i mult) = EndPasses game box (EmptyNode i mult)
NodePasses game box (DeviateNode i x) = EndPasses game box (DeviateNode i x)

-- the node by itself, which has the number k, is refused
abbrev pub NodeRefused : GameOf → ℕ → BoxOf → BNodeOf → Fault → Type 0
NodeRefused game k box (CutNode i v at) fault = (HasWholeVar game i v → ⊥) × (fault ≡ Bad k)
NodeRefused game k box (EmptyNode i mult) fault = EndRefused game k box (EmptyNode i mult) fault
NodeRefused game k box (DeviateNode i x) fault = EndRefused game k box (DeviateNode i x) fault

-- the answer at an end: whether it closes its box, where no step is too wide
abbrev pub EndTells : Result Bool Wide → GameOf → BoxOf → BNodeOf → Type 0
EndTells (Ok closes) game box node =
    (IsWideEnd game box node → ⊥) × (IsTrue closes ↔ ClosesBox game box node)
EndTells (Err w) game box node = IsWideEnd game box node

-- the answer whether the sums of a combination are zero in the first n columns, or that a step of
-- one is too wide
abbrev pub ColumnsTell : Result Bool Wide → ℕ → List (Option Bound) → Multipliers → Type 0
ColumnsTell (Ok zero) n rows mult =
    ((j : ℕ) → j < n → IsErr (left_steps rows mult j) → ⊥)
    × (IsTrue zero ↔ ((j : ℕ) → j < n → left_of rows mult j ≡ pos 0))
ColumnsTell (Err w) n rows mult = (j : ℕ) × (j < n) × IsErr (left_steps rows mult j)

-- the answer whether the leaf's rows, multiplied, refute it, where no step is too wide
abbrev pub RowsTell : Result Bool Wide → PlayerOf → LeafOf → Multipliers → Type 0
RowsTell (Ok refutes) player leaf mult =
    (HasWideRows player leaf mult → ⊥) × (IsTrue refutes ↔ IsRefutation player leaf (pos 0) mult)
RowsTell (Err w) player leaf mult = HasWideRows player leaf mult
