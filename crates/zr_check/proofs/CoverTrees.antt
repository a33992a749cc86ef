-- Lists of covers and the trees that they are.
use Rattle.std.proofs.Common.{◌≡◌, ℕ, zero, suc, ◌+◌, arith, refl, sym, ap, ap₂, ◌∙◌, Some, All, List, [], ◌∷◌, ◌++◌, length, length-append, map, slice_get}
use Rattle.std.proofs.lemmas.List.{length-map}
use Rattle.std.proofs.lemmas.List.Elements.{All-head, All-tail}
use Rattle.zr_game.specs.Leaves.{LeafOf, root_leaf}
use Rattle.zr_game.specs.Named.{NamedOf}
use Rattle.zr_game.specs.Players.{GameOf, PlayerOf}
use Rattle.zr_game.specs.declared.leaf.Side.TheVariants.{VarZero, RowZero}
use Rattle.zr_tree.specs.Covers.{cover_leaves, high_child, low_child, side_child}
use Rattle.zr_tree.specs.Nodes.{NodeOf}
use Rattle.zr_tree.specs.Trees.{TreeOf, Split, Choose, Proof, Known, Loose, preorder}
use Rattle.zr_tree.proofs.Forests.{same_tree, tree_of}
use Rattle.zr_refute.specs.Covered.{cover_regions, covered, region_with}
use Rattle.zr_refute.specs.Refuting.{leaf_counts}
use Rattle.zr_cert.specs.Forms.{IsCoverNode, IsTreeWith, leaf_count}

-- covers are the nodes of trees
pub trees_of : (covers : List (List NodeOf)) → All (IsTreeWith IsCoverNode) covers
    → (trees : List TreeOf) × (map preorder trees ≡ covers)
trees_of [] forms = ([], refl)
trees_of (nodes ∷ covers) forms =
    let t = tree_of nodes (All-head (IsTreeWith IsCoverNode) nodes covers forms).whole.whole in
    let ts = trees_of covers (All-tail (IsTreeWith IsCoverNode) nodes covers forms) in
    (t.0 ∷ ts.0, ap₂ (λ (xs : List NodeOf) (ys : List (List NodeOf)). xs ∷ ys) t.1 ts.1)

-- of one list of trees only
pub same_trees : (ss ts : List TreeOf) → map preorder ss ≡ map preorder ts → ss ≡ ts
same_trees [] [] e = refl
same_trees [] (t ∷ ts) e = absurd cc
same_trees (s ∷ ss) [] e = absurd cc
same_trees (s ∷ ss) (t ∷ ts) e =
    let a : preorder s ≡ preorder t = cc in
    let b : map preorder ss ≡ map preorder ts = cc in
    ap₂ (λ (x : TreeOf) (xs : List TreeOf). x ∷ xs) (same_tree s t a) (same_trees ss ts b)

-- the tree of a number has the nodes of this number
pub tree_at : (trees : List TreeOf) (covers : List (List NodeOf)) → map preorder trees ≡ covers
    → (i : ℕ) (nodes : List NodeOf) → slice_get covers i ≡ Some nodes
    → (tree : TreeOf) × (slice_get trees i ≡ Some tree) × (preorder tree ≡ nodes)
tree_at [] [] e i nodes is = absurd cc
tree_at [] (n ∷ ns) e i nodes is = absurd cc
tree_at (t ∷ ts) [] e i nodes is = absurd cc
tree_at (t ∷ ts) (n ∷ ns) e zero nodes is =
    let a : preorder t ≡ n = cc in
    let b : n ≡ nodes = cc in
    (t, refl, a ∙ b)
tree_at (t ∷ ts) (n ∷ ns) e (suc i) nodes is =
    let a : map preorder ts ≡ ns = cc in
    tree_at ts ns a i nodes is

-- and the other way round
pub nodes_at : (trees : List TreeOf) (covers : List (List NodeOf)) → map preorder trees ≡ covers
    → (i : ℕ) (tree : TreeOf) → slice_get trees i ≡ Some tree
    → slice_get covers i ≡ Some (preorder tree)
nodes_at [] covers e i tree is = absurd cc
nodes_at (t ∷ ts) [] e i tree is = absurd cc
nodes_at (t ∷ ts) (n ∷ ns) e zero tree is =
    let a : preorder t ≡ n = cc in
    let b : t ≡ tree = cc in
    ap Some (sym a ∙ ap preorder b)
nodes_at (t ∷ ts) (n ∷ ns) e (suc i) tree is =
    let a : map preorder ts ≡ ns = cc in
    nodes_at ts ns a i tree is

count_append : (xs ys : List NodeOf)
    → leaf_count (xs ++ ys) ≡ leaf_count xs + leaf_count ys
count_append [] ys = omega arith
count_append (x ∷ xs) ys = let r = count_append xs ys in omega (arith, r)

-- a cover has a leaf for each of its known and loose nodes
leaves_counted : (player : PlayerOf) (leaf : LeafOf) (t : TreeOf)
    → length (cover_leaves player leaf t) ≡ leaf_count (preorder t)
leaves_counted player leaf (Split v at first second) =
    let low = low_child player leaf v at in
    let high = high_child player leaf v at in
    let a = leaves_counted player low first in
    let b = leaves_counted player high second in
    let l = length-append (cover_leaves player low first) (cover_leaves player high second) in
    let c = count_append (preorder first) (preorder second) in
    omega (arith, a, b, l, c)
leaves_counted player leaf (Choose p first second) =
    let zeros = side_child player leaf p VarZero in
    let rows = side_child player leaf p RowZero in
    let a = leaves_counted player zeros first in
    let b = leaves_counted player rows second in
    let l = length-append (cover_leaves player zeros first) (cover_leaves player rows second) in
    let c = count_append (preorder first) (preorder second) in
    omega (arith, a, b, l, c)
leaves_counted player leaf (Proof scale mult) = refl
leaves_counted player leaf (Known x) = refl
leaves_counted player leaf Loose = refl

-- the players have as many leaves as their covers
pub counts_are : (game : GameOf) (trees : List TreeOf) (named : List (List NamedOf))
    → length trees ≡ length game
    → leaf_counts (covered game trees named) ≡ map leaf_count (map preorder trees)
counts_are [] [] named e = refl
counts_are [] (t ∷ ts) named e = absurd cc
counts_are (p ∷ ps) [] named e = absurd cc
counts_are (p ∷ ps) (t ∷ ts) named e =
    let l = length-map (cover_leaves p (root_leaf p) t) region_with in
    let here : length (cover_regions p t) ≡ leaf_count (preorder t) =
    l ∙ leaves_counted p (root_leaf p) t in
    let rest = counts_are ps ts named (omega (arith, e)) in
    ap₂ (λ (n : ℕ) (ns : List ℕ). n ∷ ns) here rest
