-- The leaves of a cover with their flags.
use Rattle.std.proofs.Common.{◌≡◌, ℕ, suc, ◌+◌, ◌<◌, ◌≤◌, arith, refl, sym, ap, ap₂, subst, ◌∙◌, add-one, Bool, false, All, List, [], ◌∷◌, ◌++◌, append_assoc, map, length, length-append, drop, drop-cons, get_or, ℤ, Option, None}
use Rattle.std.proofs.lemmas.List.{length-map, map-append}
use Rattle.std.proofs.lemmas.List.Elements.{All-get_or, All-push}
use Rattle.zr_game.specs.declared.leaf.Leaf.{Leaf}
use Rattle.zr_game.specs.Leaves.{IsLeafOf, LeafOf, leaf_of, root_leaf}
use Rattle.zr_game.specs.Players.{PlayerOf}
use Rattle.zr_tree.specs.Covers.{CoverLeaf, cover_leaves, leaves_at, high_child, low_child, side_child}
use Rattle.zr_tree.specs.Nodes.{NodeOf, SplitNode, ChooseNode, ProofNode, KnownNode, LooseNode}
use Rattle.zr_tree.specs.Trees.{TreeOf, Split, Choose, Proof, Known, Loose, preorder}
use Rattle.zr_game.specs.declared.leaf.Side.{Side}
use Rattle.zr_game.specs.declared.leaf.Side.TheVariants.{Undecided, VarZero, RowZero}
use Rattle.zr_game.proofs.LeafLaws.{same_leaf}
use Rattle.zr_system.specs.declared.leaves.Region.{Region}
use Rattle.zr_system.specs.Regions.{region_of}
use Rattle.zr_refute.specs.Covered.{cover_regions, region_with}
use Rattle.zr_refute.specs.Flags.{flag_of, flags_in, regions_by}

-- the first k leaves have their flags
pub record Flagged (leaves : List Leaf) (exact : List Bool) (k : ℕ) (list : List Region) : Type 0 where
  pub content : map region_of list ++ regions_by (map leaf_of (drop k leaves)) (drop k exact)
      ≡ regions_by (map leaf_of leaves) exact
  pub lengths : (player : PlayerOf) → All (IsLeafOf player) leaves
      → All (λ region. IsLeafOf player region.leaf) list

pub flags_append : (xs ys : List NodeOf) → flags_in (xs ++ ys) ≡ flags_in xs ++ flags_in ys
flags_append [] ys = refl
flags_append (x ∷ xs) ys =
    ap (λ rest. flag_of x ++ rest) (flags_append xs ys)
    ∙ sym (append_assoc (flag_of x) (flags_in xs) (flags_in ys))

abbrev exacts : List CoverLeaf → List Bool
exacts items = map (λ item. item.exact) items

-- the nodes of a tree give the flags of its leaves
pub tree_flags : (player : PlayerOf) (leaf : LeafOf) (t : TreeOf)
    → exacts (cover_leaves player leaf t) ≡ flags_in (preorder t)
tree_flags player leaf (Split v at first second) =
    map-append (λ (item : CoverLeaf). item.exact) (cover_leaves player (low_child player leaf v at) first)
    (cover_leaves player (high_child player leaf v at) second)
    ∙ ap₂ (λ (xs ys : List Bool). xs ++ ys) (tree_flags player (low_child player leaf v at) first)
    (tree_flags player (high_child player leaf v at) second)
    ∙ sym (flags_append (preorder first) (preorder second))
tree_flags player leaf (Choose p first second) =
    map-append (λ (item : CoverLeaf). item.exact) (cover_leaves player (side_child player leaf p VarZero) first)
    (cover_leaves player (side_child player leaf p RowZero) second)
    ∙ ap₂ (λ (xs ys : List Bool). xs ++ ys) (tree_flags player (side_child player leaf p VarZero) first)
    (tree_flags player (side_child player leaf p RowZero) second)
    ∙ sym (flags_append (preorder first) (preorder second))
tree_flags player leaf (Proof scale mult) = refl
tree_flags player leaf (Known x) = refl
tree_flags player leaf Loose = refl

-- each leaf with its own flag
pub same_regions : (items : List CoverLeaf)
    → regions_by (map (λ item. item.leaf) items) (exacts items) ≡ map region_with items
same_regions [] = refl
same_regions (item ∷ items) = ap (λ rest. region_with item ∷ rest) (same_regions items)

-- one leaf more
module _ (leaves : List Leaf) (exact : List Bool) (k : ℕ) (list : List Region) (made : Flagged leaves exact k list)
    (leaf copy : Leaf) (flag : Bool) (below : k < length leaves) (below_flags : k < length exact)
    (is : leaf ≡ get_or leaves k leaf) (is_flag : flag ≡ get_or exact k false)
    (low : copy.low.items ≡ leaf.low.items) (high : copy.high.items ≡ leaf.high.items)
    (sides : copy.sides.items ≡ leaf.sides.items) where
  abbrev region : Region
  region = record { leaf = copy; exact = flag }

  same : leaf_of copy ≡ leaf_of leaf
  same = same_leaf (leaf_of copy) (leaf_of leaf) (λ v. ap (λ (xs : List (Option ℤ)). get_or xs v None) low)
      (λ v. ap (λ (xs : List (Option ℤ)). get_or xs v None) high)
      (λ p. ap (λ (xs : List Side). get_or xs p Undecided) sides)

  left : regions_by (map leaf_of (drop k leaves)) (drop k exact)
      ≡ region_of region ∷ regions_by (map leaf_of (drop (k + 1) leaves)) (drop (k + 1) exact)
  left = rw (add-one k, drop-cons leaves k leaf below, drop-cons exact k false below_flags, sym is, sym is_flag) (ap (λ (l : LeafOf). record { leaf = l; exact = flag } ∷ regions_by (map leaf_of (drop (suc k) leaves)) (drop (suc k) exact)) (sym same))

  pub flagged_more : Flagged leaves exact (k + 1) (list ++ region ∷ [])
  flagged_more = record {
    content = rw (map-append region_of list (region ∷ [])) (append_assoc (map region_of list) (region_of region ∷ []) _
        ∙ ap (λ rest. map region_of list ++ rest) (sym left) ∙ made.content);
    lengths = λ player all. let l = subst (IsLeafOf player) (sym is) (All-get_or (IsLeafOf player) leaves k leaf below all) in
        All-push (λ (r : Region). IsLeafOf player r.leaf) list region (made.lengths player all) (record {
          lows = ap length low ∙ l.lows;
          highs = ap length high ∙ l.highs;
          sides = ap length sides ∙ l.sides;
        });
  }

pub few_flags : (nodes : List NodeOf) → length (flags_in nodes) ≤ length nodes
few_flags [] = omega arith
few_flags (node ∷ nodes) =
    let r = few_flags nodes in
    let l = length-append (flag_of node) (flags_in nodes) in
    let o = flag_at_most node in
    omega (arith, r, l, o)
  where
    flag_at_most : (node : NodeOf) → length (flag_of node) ≤ 1
    flag_at_most (SplitNode v at) = omega arith
    flag_at_most (ChooseNode p) = omega arith
    flag_at_most (ProofNode scale mult) = omega arith
    flag_at_most (KnownNode x) = omega arith
    flag_at_most LooseNode = omega arith

pub few_regions : (leaves : List LeafOf) (flags : List Bool) → length (regions_by leaves flags) ≤ length flags
few_regions [] flags = omega arith
few_regions (leaf ∷ leaves) [] = omega arith
few_regions (leaf ∷ leaves) (flag ∷ flags) = let r = few_regions leaves flags in omega (arith, r)

-- the leaves at a tree's nodes, with their flags, are those of the cover
module _ (player : PlayerOf) (t : TreeOf) (nodes : List NodeOf) (e : preorder t ≡ nodes) where
  abbrev items : List CoverLeaf
  items = cover_leaves player (root_leaf player) t

  pub flags_are : flags_in nodes ≡ exacts items
  flags_are = ap flags_in (sym e) ∙ sym (tree_flags player (root_leaf player) t)

  pub as_many : (leaves : List Leaf) → map leaf_of leaves ≡ leaves_at player (root_leaf player) t
      → length leaves ≡ length (flags_in nodes)
  as_many leaves l =
      sym (length-map leaves leaf_of) ∙ ap length l ∙ length-map items (λ item. item.leaf)
      ∙ sym (length-map items (λ item. item.exact)) ∙ ap length (sym flags_are)

  pub are_regions : (leaves : List Leaf) → map leaf_of leaves ≡ leaves_at player (root_leaf player) t
      → regions_by (map leaf_of leaves) (flags_in nodes) ≡ cover_regions player t
  are_regions leaves l = ap₂ regions_by l flags_are ∙ same_regions items
