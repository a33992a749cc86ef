-- A walk that goes on from a box, and from a node.
use Rattle.std.proofs.Common.{◌≡◌, ℕ, suc, ◌+◌, ◌<◌, ◌≤◌, arith, sym, ap, ap₂, subst, ◌∙◌, List, [], ◌∷◌, ◌++◌, map, length, get_or, drop, drop-cons, add-one, ⊎_elim, inr}
use Rattle.std.proofs.lemmas.List.{drop_all, get_or-map, length-map}
use Rattle.zr_game.specs.Players.{GameOf}
use Rattle.zr_tree.specs.declared.fault.Fault.{Fault}
use Rattle.zr_cases.specs.declared.bnode.BNode.{BNode}
use Rattle.zr_cases.specs.Cases.{BNodeOf, bnode_of}
use Rattle.zr_cases.specs.Trees.{BoxTreeOf, box_preorder}
use Rattle.zr_boxes.specs.Boxes.{BoxOf, root_box}
use Rattle.zr_boxes.specs.declared.path.Path.{Path}
use Rattle.zr_boxes.specs.Paths.{IsAt, IsPathOf, box_of, due_boxes, due_of, places_of, stack}
use Rattle.zr_boxes.specs.Steps.{BoxPasses, IsRefusedBox}
use Rattle.zr_boxes.specs.Visits.{NodePasses, NodeRefused, children}
use Rattle.zr_boxes.proofs.Walking.{Walked, at_end, at_start, box_due, seen, stopped}

-- as far as it went, the same boxes are due
pub record Going (game : GameOf) (old new : Path) : Type 0 where
  pub due : due_of old ≡ due_of new
  pub path : IsPathOf game new
  pub places : places_of new ≡ places_of old
  pub depth : new.depth ≤ old.depth

-- the nodes from number k on
node_next : (nodes : List BNode) (k : ℕ) (node : BNode) → k < length nodes
    → node ≡ get_or nodes k node
    → drop k (map bnode_of nodes) ≡ bnode_of node ∷ drop (suc k) (map bnode_of nodes)
node_next nodes k node below is =
    let h : k < length (map bnode_of nodes) = omega (arith, below, length-map nodes bnode_of) in
    drop-cons (map bnode_of nodes) k (bnode_of node) h ∙
    ap (λ (n : BNodeOf). n ∷ drop (suc k) (map bnode_of nodes))
    (get_or-map bnode_of nodes k node (bnode_of node) below ∙ ap bnode_of (sym is))

module _ (game : GameOf) (nodes : List BNode) where
  abbrev listed : List BNodeOf
  listed = map bnode_of nodes

  -- k nodes are seen, and the path stands at the first of the boxes that are due
  abbrev pub Standing : ℕ → Path → Type 0
  Standing k path =
      (t : BoxTreeOf) → box_preorder t ≡ listed
      → (boxes : List BoxOf) × IsAt path boxes × Walked game t k (drop k listed) boxes

  pub standing_first : (path : Path) → box_of path.leaves.items ≡ root_box game → path.depth ≡ 0
      → Standing 0 path
  standing_first path e d t is =
      let none : [] ≡ due_of path = ap (λ (n : ℕ).
      due_boxes (box_of path.leaves.items) (stack path.frames.items n)) (sym d) in (
        root_box game ∷ [],
        inr (ap₂ (λ (b : BoxOf) (bs : List BoxOf). b ∷ bs) (sym e) none),
        at_start game t listed is,
      )

  pub standing_last : (k : ℕ) (path : Path) → length nodes ≤ k → Standing k path
      → (t : BoxTreeOf) → box_preorder t ≡ listed → BoxPasses game (root_box game) t
  standing_last k path h s t is =
      let r = s t is in
      let n = length-map nodes bnode_of in
      let none : drop k listed ≡ [] = drop_all k listed (omega (arith, h, n)) in
      at_end game t k r.0 (subst (λ (ns : List BNodeOf). Walked game t k ns r.0) none r.2)

  module _ (k : ℕ) (node : BNode) (below : k < length nodes) (is : node ≡ get_or nodes k node)
      (old : Path) (standing : Standing k old) where
    abbrev rest : List BNodeOf
    rest = drop (suc k) listed

    abbrev box : BoxOf
    box = box_of old.leaves.items

    -- the first box that is due is the current one
    current : (t : BoxTreeOf) → box_preorder t ≡ listed
        → Walked game t k (bnode_of node ∷ rest) (box ∷ due_of old)
    current t e =
        let r = standing t e in
        let w = subst (λ (ns : List BNodeOf). Walked game t k ns r.0)
        (node_next nodes k node below is) r.2 in
        ⊎_elim (λ (z : r.0 ≡ []). absurd (box_due game t k (bnode_of node) rest
        (subst (λ (bs : List BoxOf). Walked game t k (bnode_of node ∷ rest) bs) z w)))
        (λ (z : r.0 ≡ box ∷ due_of old).
        subst (λ (bs : List BoxOf). Walked game t k (bnode_of node ∷ rest) bs) z w) r.1

    pub standing_next : (new : Path) → NodePasses game box (bnode_of node)
        → IsAt new (children box (bnode_of node) ++ due_of old) → Standing (k + 1) new
    standing_next new h at t e =
        let w = seen game t k (bnode_of node) rest box (due_of old) (current t e) h in
        let one : suc k ≡ k + 1 = sym (add-one k) in (
          children box (bnode_of node) ++ due_of old,
          at,
          subst (λ (n : ℕ). Walked game t (k + 1) (drop n listed)
              (children box (bnode_of node) ++ due_of old)) one w,
        )

    pub standing_stopped : (fault : Fault) → NodeRefused game k box (bnode_of node) fault
        → (t : BoxTreeOf) → box_preorder t ≡ listed → IsRefusedBox game 0 (root_box game) t fault
    standing_stopped fault h t e =
        stopped game t k (bnode_of node) rest box (due_of old) (current t e) fault h

-- the walk so far
pub record WalkedTo (game : GameOf) (nodes : List BNode) (k : ℕ) (old new : Path) : Type 0 where
  pub standing : Standing game nodes k new
  pub path : IsPathOf game new
  pub places : places_of new ≡ places_of old
  pub depth : new.depth ≤ k
