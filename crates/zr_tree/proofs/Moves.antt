-- A walk that goes on from a leaf, and from a node.
use Rattle.std.proofs.Common.{◌≡◌, ℕ, suc, ◌+◌, ◌<◌, ◌≤◌, arith, sym, ap, ap₂, subst, ◌∙◌, List, [], ◌∷◌, ◌++◌, map, length, get_or, drop, drop-cons, add-one, ⊎_elim, inr}
use Rattle.std.proofs.lemmas.List.{drop_all, get_or-map, length-map}
use Rattle.zr_game.specs.Players.{PlayerOf}
use Rattle.zr_game.specs.Leaves.{LeafOf, leaf_of, root_leaf}
use Rattle.zr_tree.specs.declared.fault.Fault.{Fault}
use Rattle.zr_tree.specs.declared.node.Node.{Node}
use Rattle.zr_tree.specs.declared.path.Path.{Path}
use Rattle.zr_tree.specs.declared.scratch.Room.{Room}
use Rattle.zr_tree.specs.Nodes.{NodeOf, node_of}
use Rattle.zr_tree.specs.Trees.{TreeOf, preorder}
use Rattle.zr_tree.specs.Right.{EndRule, IsRightBy}
use Rattle.zr_tree.specs.Steps.{EndPasses, IsRefusedBy}
use Rattle.zr_tree.specs.Paths.{IsAt, IsPathOf, IsSameSize, due_leaves, due_of, stack}
use Rattle.zr_tree.specs.Visits.{NodePasses, NodeRefused, children}
use Rattle.zr_tree.proofs.Walking.{Walked, at_end, at_start, leaf_due, seen, stopped}

-- as far as it went, the same leaves are due
pub record Going (player : PlayerOf) (old new : Path) : Type 0 where
  pub due : due_of old ≡ due_of new
  pub path : IsPathOf player new
  pub size : IsSameSize old new
  pub depth : new.depth ≤ old.depth

pub size_on : (a b c : Path) → IsSameSize a b → IsSameSize b c → IsSameSize a c
size_on a b c f g =
    record { lows = g.lows ∙ f.lows; highs = g.highs ∙ f.highs; sides = g.sides ∙ f.sides; frames = g.frames ∙ f.frames }

-- the nodes from number k on
pub node_next : (nodes : List Node) (k : ℕ) (node : Node) → k < length nodes
    → node ≡ get_or nodes k node
    → drop k (map node_of nodes) ≡ node_of node ∷ drop (suc k) (map node_of nodes)
node_next nodes k node below is =
    let h : k < length (map node_of nodes) = omega (arith, below, length-map nodes node_of) in
    drop-cons (map node_of nodes) k (node_of node) h ∙
    ap (λ (n : NodeOf). n ∷ drop (suc k) (map node_of nodes))
    (get_or-map node_of nodes k node (node_of node) below ∙ ap node_of (sym is))

module _ (right wide : EndRule) (player : PlayerOf) (nodes : List Node) where
  abbrev listed : List NodeOf
  listed = map node_of nodes

  -- k nodes are seen, and the path stands at the first of the leaves that are due
  abbrev pub Standing : ℕ → Path → Type 0
  Standing k path =
      (t : TreeOf) → preorder t ≡ listed → (leaves : List LeafOf) × IsAt path leaves × Walked right wide player t k (drop k listed) leaves

  pub standing_first : (path : Path) → leaf_of path.leaf ≡ root_leaf player → path.depth ≡ 0 → Standing 0 path
  standing_first path e d t is =
      let none : [] ≡ due_of path = ap (λ (n : ℕ). due_leaves (leaf_of path.leaf) (stack path.frames.items n)) (sym d) in
      (root_leaf player ∷ [], inr (ap₂ (λ (l : LeafOf) (ls : List LeafOf). l ∷ ls) (sym e) none), at_start right wide player t listed is)

  pub standing_last : (k : ℕ) (path : Path) → length nodes ≤ k → Standing k path → (t : TreeOf) → preorder t ≡ listed → IsRightBy (EndPasses right wide) player (root_leaf player) t
  standing_last k path h s t is =
      let r = s t is in
      let none : drop k listed ≡ [] = drop_all k listed (omega (arith, h, length-map nodes node_of)) in
      at_end right wide player t k r.0 (subst (λ (ns : List NodeOf). Walked right wide player t k ns r.0) none r.2)

  module _ (k : ℕ) (node : Node) (below : k < length nodes) (is : node ≡ get_or nodes k node) (old : Path) (standing : Standing k old) where
    next_node : drop k listed ≡ node_of node ∷ drop (suc k) listed
    next_node = node_next nodes k node below is

    -- the first leaf that is due is the current one
    current : (t : TreeOf) → preorder t ≡ listed → Walked right wide player t k (node_of node ∷ drop (suc k) listed) (leaf_of old.leaf ∷ due_of old)
    current t e =
        let r = standing t e in
        let w = subst (λ (ns : List NodeOf). Walked right wide player t k ns r.0) next_node r.2 in
        ⊎_elim (λ (z : r.0 ≡ []). absurd (leaf_due right wide player t k (node_of node) (drop (suc k) listed) (subst (λ (ls : List LeafOf). Walked right wide player t k (node_of node ∷ drop (suc k) listed) ls) z w))) (λ (z : r.0 ≡ leaf_of old.leaf ∷ due_of old). subst (λ (ls : List LeafOf). Walked right wide player t k (node_of node ∷ drop (suc k) listed) ls) z w) r.1

    pub standing_next : (new : Path) → NodePasses right wide player (leaf_of old.leaf) (node_of node) → IsAt new (children (leaf_of old.leaf) (node_of node) ++ due_of old) → Standing (k + 1) new
    standing_next new h at t e =
        let w = seen right wide player t k (node_of node) (drop (suc k) listed) (leaf_of old.leaf) (due_of old) (current t e) h in
        let one : suc k ≡ k + 1 = sym (add-one k) in
        (children (leaf_of old.leaf) (node_of node) ++ due_of old, at, subst (λ (n : ℕ). Walked right wide player t (k + 1) (drop n listed) (children (leaf_of old.leaf) (node_of node) ++ due_of old)) one w)

    pub standing_stopped : (fault : Fault) → NodeRefused right wide player k (leaf_of old.leaf) (node_of node) fault → (t : TreeOf) → preorder t ≡ listed → IsRefusedBy right wide player 0 (root_leaf player) t fault
    standing_stopped fault h t e =
        stopped right wide player t k (node_of node) (drop (suc k) listed) (leaf_of old.leaf) (due_of old) (current t e) fault h

-- the walk so far
pub record WalkedTo (right wide : EndRule) (player : PlayerOf) (nodes : List Node) (k : ℕ) (old new : Room) : Type 0 where
  pub standing : Standing right wide player nodes k new.path
  pub path : IsPathOf player new.path
  pub size : IsSameSize old.path new.path
  pub sums : length new.sums.items ≡ length old.sums.items
  pub depth : new.path.depth ≤ k
