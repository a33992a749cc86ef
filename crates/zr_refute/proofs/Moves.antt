-- A walk that goes on from a node.
use Rattle.std.proofs.Common.{◌≡◌, ℕ, suc, ◌+◌, ◌<◌, ◌≤◌, arith, sym, ap, subst, ◌∙◌, List, [], ◌∷◌, ◌++◌, map, length, get_or, drop, drop-cons, take, add-one, ⊎_elim, inr}
use Rattle.std.proofs.lemmas.List.{drop_all, get_or-map, length-map}
use Rattle.zr_game.specs.Players.{GameOf}
use Rattle.zr_game.specs.declared.choice.Choice.{Choice}
use Rattle.zr_game.specs.declared.kind.Kind.{Kind}
use Rattle.zr_tree.specs.declared.fault.Fault.{Fault}
use Rattle.zr_cases.specs.Cases.{RNodeOf, rnode_of}
use Rattle.zr_cases.specs.Trees.{CasesOf, preorder}
use Rattle.zr_cases.specs.declared.rnode.RNode.{RNode}
use Rattle.zr_system.specs.Regions.{LeavesOf}
use Rattle.zr_refute.specs.declared.path.CasePath.{CasePath}
use Rattle.zr_refute.specs.declared.room.Table.{Table}
use Rattle.zr_refute.specs.Refuting.{leaf_counts}
use Rattle.zr_refute.specs.Rooms.{room_of}
use Rattle.zr_refute.specs.Steps.{IsRefused, Passes}
use Rattle.zr_refute.specs.Visits.{NodePasses, NodeRefused}
use Rattle.zr_refute.specs.Walks.{IsAt, IsPathOf, children, due_after, due_of, path_of}
use Rattle.zr_refute.proofs.Walking.{Walked, at_end, at_start, path_due, seen, stopped}

-- the nodes from number n on
node_next : (nodes : List RNode) (n : ℕ) (node : RNode) → n < length nodes
    → node ≡ get_or nodes n node
    → drop n (map rnode_of nodes) ≡ rnode_of node ∷ drop (suc n) (map rnode_of nodes)
node_next nodes n node below is =
    let h : n < length (map rnode_of nodes) = omega (arith, below, length-map nodes rnode_of) in
    drop-cons (map rnode_of nodes) n (rnode_of node) h ∙
    ap (λ (m : RNodeOf). m ∷ drop (suc n) (map rnode_of nodes))
    (get_or-map rnode_of nodes n node (rnode_of node) below ∙ ap rnode_of (sym is))

module _ (game : GameOf) (leaves : LeavesOf) (kind : Kind) (nodes : List RNode) where
  abbrev listed : List RNodeOf
  listed = map rnode_of nodes

  abbrev W : CasesOf → ℕ → List RNodeOf → List (List Choice) → Type 0
  W t n ns paths = Walked game leaves kind t n ns paths

  -- n nodes are seen, and the walk stands at the first of the paths that are due
  abbrev pub Standing : ℕ → CasePath → Type 0
  Standing n path =
      (t : CasesOf) → preorder (leaf_counts leaves) t ≡ listed
      → (paths : List (List Choice)) × IsAt leaves path paths
      × Walked game leaves kind t n (drop n listed) paths

  pub standing_first : (path : CasePath) → path.depth ≡ 0 → Standing 0 path
  standing_first path d t is =
      let e : path_of path ∷ due_of leaves path ≡ [] ∷ [] =
      ap (λ (n : ℕ). take n path.choices.items ∷ due_after leaves path.choices.items n) d in
      ([] ∷ [], inr (sym e), at_start game leaves kind t listed is)

  pub standing_last : (n : ℕ) (path : CasePath) → length nodes ≤ n → Standing n path
      → (t : CasesOf) → preorder (leaf_counts leaves) t ≡ listed
      → Passes game leaves kind [] t
  standing_last n path h s t is =
      let r = s t is in
      let none : drop n listed ≡ [] =
      drop_all n listed (omega (arith, h, length-map nodes rnode_of)) in
      at_end game leaves kind t n r.0 (subst (λ (ns : List RNodeOf). W t n ns r.0) none r.2)

  module _ (n : ℕ) (node : RNode) (below : n < length nodes) (is : node ≡ get_or nodes n node)
      (old : CasePath) (standing : Standing n old) where
    -- the first path that is due is the current one
    current : (t : CasesOf) → preorder (leaf_counts leaves) t ≡ listed
        → W t n (rnode_of node ∷ drop (suc n) listed) (path_of old ∷ due_of leaves old)
    current t e =
        let r = standing t e in
        let w = subst (λ (ns : List RNodeOf). W t n ns r.0) (node_next nodes n node below is) r.2 in
        ⊎_elim (λ (z : r.0 ≡ []). absurd (path_due game leaves kind t n (rnode_of node)
        (drop (suc n) listed) (subst (λ (ps : List (List Choice)).
        W t n (rnode_of node ∷ drop (suc n) listed) ps) z w)))
        (λ (z : r.0 ≡ path_of old ∷ due_of leaves old). subst (λ (ps : List (List Choice)).
        W t n (rnode_of node ∷ drop (suc n) listed) ps) z w) r.1

    pub standing_next : (new : CasePath)
        → NodePasses game leaves kind (path_of old) (rnode_of node)
        → IsAt leaves new (children leaves (path_of old) (rnode_of node) ++ due_of leaves old)
        → Standing (n + 1) new
    standing_next new h at t e =
        let w = seen game leaves kind t n (rnode_of node) (drop (suc n) listed) (path_of old)
        (due_of leaves old) (current t e) h in
        let one : suc n ≡ n + 1 = sym (add-one n) in (
          children leaves (path_of old) (rnode_of node) ++ due_of leaves old,
          at,
          subst (λ (m : ℕ). W t (n + 1) (drop m listed)
              (children leaves (path_of old) (rnode_of node) ++ due_of leaves old)) one w,
        )

    pub standing_stopped : (fault : Fault)
        → NodeRefused game leaves kind n (path_of old) (rnode_of node) fault → (t : CasesOf)
        → preorder (leaf_counts leaves) t ≡ listed → IsRefused game leaves kind 0 [] t fault
    standing_stopped fault h t e =
        stopped game leaves kind t n (rnode_of node) (drop (suc n) listed) (path_of old)
        (due_of leaves old) (current t e) fault h

-- the walk so far
pub record WalkedTo (game : GameOf) (leaves : LeavesOf) (kind : Kind) (nodes : List RNode) (n : ℕ)
    (old new : Table) : Type 0 where
  pub standing : Standing game leaves kind nodes n new.path
  pub path : IsPathOf game leaves new.path
  pub room : room_of new ≡ room_of old
  pub depth : new.path.depth ≤ n
