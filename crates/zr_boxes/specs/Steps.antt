-- The first node of a box tree that is refused.
use Rattle.std.specs.Prelude.{◌≡◌, ℕ, ◌+◌, pos, length, IsErr, IsSome, ◌⊎◌}
use Rattle.zr_base.specs.Points.{PointOf}
use Rattle.zr_game.specs.Players.{GameOf, PlayerOf}
use Rattle.zr_game.specs.Forms.{IsPlayer}
use Rattle.zr_game.specs.FeasibleSteps.{feasible_wide}
use Rattle.zr_game.specs.Leaves.{LeafOf, slots}
use Rattle.zr_tree.specs.declared.fault.Fault.{Fault}
use Rattle.zr_tree.specs.declared.fault.Fault.TheVariants.{Bad, Wide as TooWide}
use Rattle.zr_tree.specs.Combining.{HasWideStep}
use Rattle.zr_tree.specs.Nodes.{Multipliers}
use Rattle.zr_tree.specs.Right.{ArePresent}
use Rattle.zr_cases.specs.Cases.{BNodeOf, CutNode, EmptyNode, DeviateNode}
use Rattle.zr_cases.specs.Trees.{BoxTreeOf, Cut, Empty, Deviate}
use Rattle.zr_boxes.specs.Boxes.{BoxOf, cut_above, cut_below}
use Rattle.zr_boxes.specs.Gains.{IsBounded}
use Rattle.zr_boxes.specs.GainSteps.{gain_steps}
use Rattle.zr_boxes.specs.Right.{HasBetter, HasWholeVar, IsEmptied}

-- a step of the sums of a refutation is too wide; they are made where its slots are present
abbrev pub HasWideRows : PlayerOf → LeafOf → Multipliers → Type 0
HasWideRows player leaf mult =
    ArePresent (slots player leaf) mult
    × HasWideStep (length player.vars) (slots player leaf) mult

-- a step of the point's test or of the gain is too wide; they are made where the point has a number
-- for each variable and the bounds are there
pub record HasWideGain (player : PlayerOf) (i : ℕ) (box : BoxOf) (x : PointOf) : Type 0 where
  pub len : length x.num ≡ length player.vars
  pub bounded : IsBounded player i box
  pub wide : IsSome (feasible_wide player x)
      ⊎ IsErr (gain_steps player i box x (pos 0) 0 (length player.vars))

-- a node without children shows that its box has no equilibrium
abbrev pub ClosesBox : GameOf → BoxOf → BNodeOf → Type 0
ClosesBox game box (CutNode i v at) = ⊥
ClosesBox game box (EmptyNode i mult) = IsEmptied game box i mult
ClosesBox game box (DeviateNode i x) = HasBetter game box i x

-- a step of the node's sums is too wide
abbrev pub IsWideEnd : GameOf → BoxOf → BNodeOf → Type 0
IsWideEnd game box (CutNode i v at) = ⊥
IsWideEnd game box (EmptyNode i mult) =
    (player : PlayerOf) × IsPlayer game i player × HasWideRows player (box i) mult
IsWideEnd game box (DeviateNode i x) =
    (player : PlayerOf) × IsPlayer game i player × HasWideGain player i box x

-- the node is right, and no step of its sums is too wide
abbrev pub EndPasses : GameOf → BoxOf → BNodeOf → Type 0
EndPasses game box node = ClosesBox game box node × (IsWideEnd game box node → ⊥)

-- the node, which has the number k, is refused: a step that is too wide stands before what is wrong
abbrev pub EndRefused : GameOf → ℕ → BoxOf → BNodeOf → Fault → Type 0
EndRefused game k box node fault =
    (IsWideEnd game box node × (fault ≡ TooWide k))
    ⊎ ((IsWideEnd game box node → ⊥) × (ClosesBox game box node → ⊥) × (fault ≡ Bad k))

-- the tree is right, and no step of its sums is too wide
abbrev pub BoxPasses : GameOf → BoxOf → BoxTreeOf → Type 0
BoxPasses game box (Cut i v at first second) =
    HasWholeVar game i v
    × BoxPasses game (cut_below box i v at) first
    × BoxPasses game (cut_above box i v at) second
BoxPasses game box (Empty i mult) = EndPasses game box (EmptyNode i mult)
BoxPasses game box (Deviate i x) = EndPasses game box (DeviateNode i x)

-- how many nodes there are
abbrev pub box_size : BoxTreeOf → ℕ
box_size (Cut i v at first second) = 1 + box_size first + box_size second
box_size (Empty i mult) = 1
box_size (Deviate i x) = 1

-- where the node itself is wrong the fault is Bad at its number k; else the fault is that of the
-- first child, or, where that passes, of the second
abbrev pub IsRefusedBox : GameOf → ℕ → BoxOf → BoxTreeOf → Fault → Type 0
IsRefusedBox game k box (Cut i v at first second) fault =
    ((HasWholeVar game i v → ⊥) × (fault ≡ Bad k))
    ⊎ (HasWholeVar game i v × IsRefusedBox game (k + 1) (cut_below box i v at) first fault)
    ⊎ (HasWholeVar game i v
    × BoxPasses game (cut_below box i v at) first
    × IsRefusedBox game (k + 1 + box_size first) (cut_above box i v at) second fault)
IsRefusedBox game k box (Empty i mult) fault = EndRefused game k box (EmptyNode i mult) fault
IsRefusedBox game k box (Deviate i x) fault = EndRefused game k box (DeviateNode i x) fault

-- a step is too wide at some end to which splits of whole variables lead
abbrev pub HasWideBox : GameOf → BoxOf → BoxTreeOf → Type 0
HasWideBox game box (Cut i v at first second) =
    HasWholeVar game i v
    × (HasWideBox game (cut_below box i v at) first ⊎ HasWideBox game (cut_above box i v at) second)
HasWideBox game box (Empty i mult) = IsWideEnd game box (EmptyNode i mult)
HasWideBox game box (Deviate i x) = IsWideEnd game box (DeviateNode i x)
