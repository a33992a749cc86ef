-- The lists of leaves of the players' covers, one after another.
use Rattle.std.proofs.Common.{◌≡◌, ℕ, zero, suc, ◌+◌, ◌<◌, ◌≤◌, ◌^◌, arith, refl, sym, ap, ap₂, subst, ◌∙◌, add-one, Some, All, List, [], ◌∷◌, ◌++◌, append_assoc, append-nil, map, length, length-append, drop, drop-cons, get_or, slice_get}
use Rattle.std.specs.Global.{Vec}
use Rattle.std.proofs.lemmas.List.{drop_all, map-append}
use Rattle.std.proofs.lemmas.Option.{get_or_from_slice_get}
use Rattle.std.proofs.lemmas.List.Elements.{All-push}
use Rattle.zr_game.specs.Forms.{IsPlayer}
use Rattle.zr_game.specs.Leaves.{IsLeafOf}
use Rattle.zr_game.specs.Players.{GameOf, PlayerOf}
use Rattle.zr_game.proofs.Items.{at_number}
use Rattle.zr_tree.specs.declared.tree.Tree.{Tree}
use Rattle.zr_tree.specs.Nodes.{NodeOf, node_of}
use Rattle.zr_tree.specs.Trees.{TreeOf, preorder}
use Rattle.zr_system.specs.declared.leaves.Region.{Region}
use Rattle.zr_system.specs.Regions.{RegionOf, region_of}
use Rattle.zr_refute.specs.Covered.{cover_regions, regions_with}

abbrev nodes_in : Tree → List NodeOf
nodes_in cover = map node_of cover.nodes.items

abbrev contents : List (Vec Region) → List (List RegionOf)
contents lists = map (λ list. map region_of list.items) lists

-- the lists of the first i players
pub record CoversTo (game : GameOf) (covers : List Tree) (i : ℕ) (lists : List (Vec Region)) : Type 0 where
  pub count : length lists ≡ i
  pub few : All (λ list. length list.items < 2 ^ 32) lists
  pub leaf : (j : ℕ) (list : Vec Region) → slice_get lists j ≡ Some list
      → (player : PlayerOf) → IsPlayer game j player → All (λ region. IsLeafOf player region.leaf) list.items
  pub content : (trees : List TreeOf) → map preorder trees ≡ map nodes_in covers
      → contents lists ++ regions_with (drop i game) (drop i trees) ≡ regions_with game trees

-- what holds of the items of a list, and of one more
each_push : {A : Type 0} (P : ℕ → A → Type 0) (xs : List A) (x : A)
    → ((j : ℕ) (a : A) → slice_get xs j ≡ Some a → P j a) → P (length xs) x
    → (j : ℕ) (a : A) → slice_get (xs ++ x ∷ []) j ≡ Some a → P j a
each_push P [] x f h zero a e = let s : x ≡ a = cc in subst (P zero) s h
each_push P [] x f h (suc j) a e = absurd cc
each_push P (y ∷ ys) x f h zero a e = f zero a e
each_push P (y ∷ ys) x f h (suc j) a e = each_push (λ n. P (suc n)) ys x (λ n b g. f (suc n) b g) h j a e

-- the tree of a cover
tree_at : (trees : List TreeOf) (covers : List Tree) (i : ℕ) (cover : Tree)
    → map preorder trees ≡ map nodes_in covers → i < length covers → cover ≡ get_or covers i cover
    → (t : TreeOf) × (preorder t ≡ nodes_in cover) × (drop i trees ≡ t ∷ drop (suc i) trees)
tree_at [] [] i cover e below is = absurd (omega (arith, below))
tree_at [] (c ∷ cs) i cover e below is = absurd cc
tree_at (t ∷ ts) [] i cover e below is = absurd cc
tree_at (t ∷ ts) (c ∷ cs) zero cover e below is =
    let s : preorder t ≡ nodes_in c = cc in
    (t, s ∙ ap nodes_in (sym is), refl)
tree_at (t ∷ ts) (c ∷ cs) (suc i) cover e below is =
    let s : map preorder ts ≡ map nodes_in cs = cc in
    tree_at ts cs i cover s (omega (arith, below)) is

module _ (game : GameOf) (covers : List Tree) (i : ℕ) (lists : List (Vec Region)) (made : CoversTo game covers i lists)
    (counts : length covers ≡ length game) (cover : Tree) (below : i < length covers) (is : cover ≡ get_or covers i cover)
    (list : Vec Region) (few : length list.items < 2 ^ 32)
    (leaf : (player : PlayerOf) → IsPlayer game i player → All (λ region. IsLeafOf player region.leaf) list.items)
    (content : (player : PlayerOf) → IsPlayer game i player → (t : TreeOf) → preorder t ≡ nodes_in cover
    → map region_of list.items ≡ cover_regions player t) where
  module _ (trees : List TreeOf) (e : map preorder trees ≡ map nodes_in covers) (player : PlayerOf) (here : IsPlayer game i player) where
    found : (t : TreeOf) × (preorder t ≡ nodes_in cover) × (drop i trees ≡ t ∷ drop (suc i) trees)
    found = tree_at trees covers i cover e below is

    player_first : drop i game ≡ player ∷ drop (suc i) game
    player_first =
        drop-cons game i player (omega (arith, below, counts))
        ∙ ap (λ (p : PlayerOf). p ∷ drop (suc i) game) (get_or_from_slice_get game i player player here)

    cut : regions_with (drop i game) (drop i trees) ≡ map region_of list.items ∷ regions_with (drop (suc i) game) (drop (suc i) trees)
    cut =
        ap₂ regions_with player_first found.2
        ∙ ap (λ (rs : List RegionOf). rs ∷ regions_with (drop (suc i) game) (drop (suc i) trees))
        (sym (content player here found.0 found.1))

    go_on : contents (lists ++ list ∷ []) ++ regions_with (drop (suc i) game) (drop (suc i) trees) ≡ regions_with game trees
    go_on =
        ap (λ (xs : List (List RegionOf)). xs ++ regions_with (drop (suc i) game) (drop (suc i) trees))
        (map-append (λ (l : Vec Region). map region_of l.items) lists (list ∷ []))
        ∙ append_assoc (contents lists) (map region_of list.items ∷ []) (regions_with (drop (suc i) game) (drop (suc i) trees))
        ∙ ap (λ (rest : List (List RegionOf)). contents lists ++ rest) (sym cut)
        ∙ made.content trees e

  abbrev leaf_rule : ℕ → Vec Region → Type 0
  leaf_rule j l = (player : PlayerOf) → IsPlayer game j player → All (λ region. IsLeafOf player region.leaf) l.items

  pub covers_more : CoversTo game covers (i + 1) (lists ++ list ∷ [])
  covers_more = record {
    count = let l = length-append lists (list ∷ []) in omega (arith, l, made.count);
    few = All-push (λ (l : Vec Region). length l.items < 2 ^ 32) lists list made.few few;
    leaf = each_push leaf_rule lists list made.leaf (subst (λ n. leaf_rule n list) (sym made.count) leaf);
    content = λ trees e. let who = at_number game i (omega (arith, below, counts)) in
        rw (add-one i) (go_on trees e who.0 who.1);
  }

pub covers_all : (game : GameOf) (covers : List Tree) (i : ℕ) (lists : List (Vec Region)) → CoversTo game covers i lists
    → length covers ≡ length game → length covers ≤ i → (trees : List TreeOf) → map preorder trees ≡ map nodes_in covers
    → contents lists ≡ regions_with game trees
covers_all game covers i lists made counts past trees e =
    let none : drop i game ≡ [] = drop_all i game (omega (arith, counts, past)) in
    sym (append-nil (contents lists))
    ∙ ap (λ (ps : List PlayerOf). contents lists ++ regions_with ps (drop i trees)) (sym none)
    ∙ made.content trees e
