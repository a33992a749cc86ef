-- The fault of a box tree is that of one of its nodes.
use Rattle.std.proofs.Common.{◌≡◌, ℕ, ◌+◌, ◌<◌, arith, refl, ap, ◌∙◌, ⊎_elim, length, length-append}
use Rattle.zr_game.specs.Players.{GameOf}
use Rattle.zr_tree.specs.declared.fault.Fault.{Fault}
use Rattle.zr_tree.specs.declared.fault.Fault.TheVariants as nodes
use Rattle.zr_cases.specs.Cases.{BNodeOf, EmptyNode, DeviateNode}
use Rattle.zr_cases.specs.Trees.{BoxTreeOf, Cut, Empty, Deviate, box_preorder}
use Rattle.zr_boxes.specs.Boxes.{BoxOf, cut_above, cut_below}
use Rattle.zr_boxes.specs.Steps.{EndRefused, IsRefusedBox, box_size}
use Rattle.zr_check.specs.Benches.{node_number}

-- a box tree has as many nodes as are listed
pub boxes_listed : (t : BoxTreeOf) → length (box_preorder t) ≡ box_size t
boxes_listed (Cut i v at first second) =
    let a = boxes_listed first in
    let b = boxes_listed second in
    let l = length-append (box_preorder first) (box_preorder second) in
    omega (arith, a, b, l)
boxes_listed (Empty i mult) = refl
boxes_listed (Deviate i x) = refl

numbered : (f g : Fault) (k : ℕ) → f ≡ g → node_number g ≡ k → node_number f ≡ k
numbered f g k e n = ap node_number e ∙ n

module _ (game : GameOf) where
  end_number : (k : ℕ) (box : BoxOf) (node : BNodeOf) (fault : Fault)
      → EndRefused game k box node fault → node_number fault ≡ k
  end_number k box node fault r =
      ⊎_elim (λ s. numbered fault (nodes.Wide k) k s.1 refl)
      (λ s. numbered fault (nodes.Bad k) k s.2 refl) r

  pub box_fault_below : (k : ℕ) (box : BoxOf) (t : BoxTreeOf) (fault : Fault)
      → IsRefusedBox game k box t fault → node_number fault < k + box_size t
  box_fault_below k box (Cut i v at first second) fault r =
      ⊎_elim (λ s. let n = numbered fault (nodes.Bad k) k s.1 refl in omega (arith, n))
      (λ s. ⊎_elim (λ u. let n = box_fault_below (k + 1) (cut_below box i v at) first fault u.1 in
      omega (arith, n))
      (λ u. let n = box_fault_below (k + 1 + box_size first) (cut_above box i v at) second fault u.2
      in omega (arith, n)) s) r
  box_fault_below k box (Empty i mult) fault r =
      let n = end_number k box (EmptyNode i mult) fault r in omega (arith, n)
  box_fault_below k box (Deviate i x) fault r =
      let n = end_number k box (DeviateNode i x) fault r in omega (arith, n)
