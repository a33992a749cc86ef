-- What is tested at the lines of a box tree.
use Rattle.std.specs.Prelude.{◌≡◌, ℕ, List}
use Rattle.zr_game.specs.Players.{GameOf}
use Rattle.zr_tree.specs.declared.fault.Fault.{Fault}
use Rattle.zr_cases.specs.Cases.{BNodeOf}
use Rattle.zr_cases.specs.Trees.{BoxTreeOf, box_preorder}
use Rattle.zr_boxes.specs.Boxes.{root_box}
use Rattle.zr_boxes.specs.Right.{IsRightBox}
use Rattle.zr_boxes.specs.Steps.{BoxPasses, HasWideBox, IsRefusedBox}
use Rattle.zr_cert.specs.declared.fault.CertFault.{CertFault}
use Rattle.zr_check.specs.Bounds.{at_line}

-- the nodes are those of a box tree that is right
pub record AreRightBoxes (game : GameOf) (nodes : List BNodeOf) : Type 0 where
  pub tree : BoxTreeOf
  pub listed : box_preorder tree ≡ nodes
  pub right : IsRightBox game (root_box game) tree

-- the box tree of these nodes passes
abbrev pub BoxesPass : GameOf → List BNodeOf → Type 0
BoxesPass game nodes =
    (t : BoxTreeOf) × (box_preorder t ≡ nodes) × BoxPasses game (root_box game) t

-- a node is refused, the tree's first node standing at `line`
abbrev pub BoxesRefused : GameOf → List BNodeOf → ℕ → CertFault → Type 0
BoxesRefused game nodes line fault =
    (t : BoxTreeOf) × (first : Fault) × (box_preorder t ≡ nodes)
    × IsRefusedBox game 0 (root_box game) t first × (fault ≡ at_line line first)

-- a step of some node is too wide
abbrev pub AreWideBoxes : GameOf → List BNodeOf → Type 0
AreWideBoxes game nodes =
    (t : BoxTreeOf) × (box_preorder t ≡ nodes) × HasWideBox game (root_box game) t
