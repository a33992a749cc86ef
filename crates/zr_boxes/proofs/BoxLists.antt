-- Boxes as functions, and the leaves that they are kept in.
use Rattle.std.proofs.Common.{◌≡◌, ◌≢◌, ℕ, zero, suc, ◌<◌, ◌==◌, arith, refl, sym, ap, ap₂, subst, ◌∙◌, cond, true, false, Some, List, [], ◌∷◌, length, map, get_or, set, slice_get, take, ◌++◌, ◌+◌, ⊎_elim}
use Rattle.std.specs.Option.{option_map_or}
use Rattle.std.proofs.lemmas.Bool.{cases_eq}
use Rattle.std.proofs.lemmas.Bool.Decides.{nat_tests}
use Rattle.std.proofs.lemmas.List.{length-map, map-append, take_more}
use Rattle.std.proofs.lemmas.Option.{get_or_from_slice_get, slice_get_read, slice_get_within}
use Rattle.zr_game.specs.declared.leaf.Leaf.{Leaf}
use Rattle.zr_game.specs.Players.{GameOf, PlayerOf}
use Rattle.zr_game.specs.Forms.{IsPlayer}
use Rattle.zr_game.specs.Leaves.{IsLeafOf, LeafOf, leaf_of}
use Rattle.zr_boxes.specs.Boxes.{BoxOf, no_leaf, with_leaf}
use Rattle.zr_boxes.specs.Paths.{box_of}
use Rattle.zr_boxes.specs.Places.{LeafSize, leaf_size, player_size}

-- one value or another at v
pub at_same : {A : Type 0} (a b : A) (v : ℕ) → cond (v == v) a b ≡ a
at_same a b v = let t : (v == v) ≡ true = grind (arith, nat_tests) in rw t refl

pub at_other : {A : Type 0} (a b : A) (v w : ℕ) → v ≢ w → cond (v == w) a b ≡ b
at_other a b v w n = let t : (v == w) ≡ false = grind (arith, nat_tests) in rw t refl

-- boxes that agree at each number are the same
pub same_box : (a b : BoxOf) → ((k : ℕ) → a k ≡ b k) → a ≡ b
same_box a b h = λ i. λ k. h k i

module _ (box : BoxOf) (i : ℕ) where
  pub here : (leaf : LeafOf) → with_leaf box i leaf i ≡ leaf
  here leaf = at_same leaf (box i) i

  pub twice : (a b : LeafOf) → with_leaf (with_leaf box i a) i b ≡ with_leaf box i b
  twice a b =
      same_box (with_leaf (with_leaf box i a) i b) (with_leaf box i b)
      (λ k. both (i == k) (box k))
    where
      both : (t : _) (c : LeafOf) → cond t b (cond t a c) ≡ cond t b c
      both true c = refl
      both false c = refl

  pub own : with_leaf box i (box i) ≡ box
  own = same_box (with_leaf box i (box i)) box
      (λ k. ⊎_elim (λ (e : i ≡ k). subst (λ n. cond (i == n) (box i) (box n) ≡ box n) e
      (at_same (box i) (box i) i)) (λ (n : i ≢ k). at_other (box i) (box k) i k n) (cases_eq i k))

set_here : (xs : List Leaf) (i : ℕ) (y : Leaf) → i < length xs → slice_get (set xs i y) i ≡ Some y
set_here [] i y h = absurd (omega arith)
set_here (x ∷ xs) zero y h = refl
set_here (x ∷ xs) (suc i) y h = set_here xs i y (omega arith)

set_there : (xs : List Leaf) (i k : ℕ) (y : Leaf) → i ≢ k
    → slice_get (set xs i y) k ≡ slice_get xs k
set_there [] i k y n = refl
set_there (x ∷ xs) zero zero y n = absurd (n refl)
set_there (x ∷ xs) zero (suc k) y n = refl
set_there (x ∷ xs) (suc i) zero y n = refl
set_there (x ∷ xs) (suc i) (suc k) y n = set_there xs i k y (λ e. n (ap suc e))

-- a list of leaves with one set
pub box_set : (leaves : List Leaf) (i : ℕ) (leaf : Leaf) → i < length leaves
    → box_of (set leaves i leaf) ≡ with_leaf (box_of leaves) i (leaf_of leaf)
box_set leaves i leaf h =
    same_box (box_of (set leaves i leaf)) (with_leaf (box_of leaves) i (leaf_of leaf)) each
  where
    each : (k : ℕ) → box_of (set leaves i leaf) k ≡ with_leaf (box_of leaves) i (leaf_of leaf) k
    each k =
        ⊎_elim (λ (e : i ≡ k). subst (λ n. box_of (set leaves i leaf) n
        ≡ with_leaf (box_of leaves) i (leaf_of leaf) n) e
        (ap (λ o. option_map_or leaf_of o no_leaf) (set_here leaves i leaf h) ∙
        sym (at_same (leaf_of leaf) (box_of leaves i) i)))
        (λ (n : i ≢ k). ap (λ o. option_map_or leaf_of o no_leaf) (set_there leaves i k leaf n) ∙
        sym (at_other (leaf_of leaf) (box_of leaves k) i k n)) (cases_eq i k)

-- the leaf that was read
pub box_at : (leaves : List Leaf) (i : ℕ) (leaf : Leaf) → i < length leaves
    → leaf ≡ get_or leaves i leaf → box_of leaves i ≡ leaf_of leaf
box_at leaves i leaf h is =
    ap (λ o. option_map_or leaf_of o no_leaf)
    (slice_get_read leaves (length leaves) i leaf refl h is)

-- a leaf of the same size is set
pub sizes_kept : (leaves : List Leaf) (i : ℕ) (old new : Leaf) → i < length leaves
    → old ≡ get_or leaves i old → leaf_size new ≡ leaf_size old
    → map leaf_size (set leaves i new) ≡ map leaf_size leaves
sizes_kept [] i old new h is same = refl
sizes_kept (x ∷ xs) zero old new h is same =
    ap (λ s. s ∷ map leaf_size xs) (same ∙ ap leaf_size is)
sizes_kept (x ∷ xs) (suc i) old new h is same =
    ap (λ ss. leaf_size x ∷ ss) (sizes_kept xs i old new (omega arith) is same)

module _ (game : GameOf) (leaves : List Leaf) (fits : map leaf_size leaves ≡ map player_size game)
  where
    pub leaf_count : length leaves ≡ length game
    leaf_count =
        sym (length-map leaves leaf_size) ∙ ap length fits ∙ length-map game player_size

    pub leaf_below : (i : ℕ) (player : PlayerOf) → IsPlayer game i player → i < length leaves
    leaf_below i player is =
        let w = slice_get_within game i player is in
        let n = leaf_count in
        omega (arith, w, n)

same_size : (game : GameOf) (leaves : List Leaf) → map leaf_size leaves ≡ map player_size game
    → (i : ℕ) (player : PlayerOf) (leaf : Leaf) → IsPlayer game i player
    → slice_get leaves i ≡ Some leaf → leaf_size leaf ≡ player_size player
same_size [] leaves e i player leaf is found = absurd cc
same_size (p ∷ ps) [] e i player leaf is found = absurd cc
same_size (p ∷ ps) (x ∷ xs) e zero player leaf is found =
    let a : leaf_size x ≡ player_size p = cc in
    let b : x ≡ leaf = cc in
    let d : p ≡ player = cc in
    ap leaf_size (sym b) ∙ a ∙ ap player_size d
same_size (p ∷ ps) (x ∷ xs) e (suc i) player leaf is found =
    let a : map leaf_size xs ≡ map player_size ps = cc in
    same_size ps xs a i player leaf is found

-- the leaf of a player's number is one of the player
pub is_leaf_of : (game : GameOf) (leaves : List Leaf) → map leaf_size leaves ≡ map player_size game
    → (i : ℕ) (player : PlayerOf) → IsPlayer game i player → (leaf : Leaf)
    → leaf ≡ get_or leaves i leaf → IsLeafOf player leaf
is_leaf_of game leaves fits i player is leaf read =
    let found = slice_get_read leaves (length leaves) i leaf refl
    (leaf_below game leaves fits i player is) read in
    let s = same_size game leaves fits i player leaf is found in
    record {
      lows = ap (λ (z : LeafSize). z.lows) s;
      highs = ap (λ (z : LeafSize). z.highs) s;
      sides = ap (λ (z : LeafSize). z.sides) s;
    }

-- leaves of one player have one size
pub one_size : (player : PlayerOf) (a b : Leaf) → IsLeafOf player a → IsLeafOf player b
    → leaf_size a ≡ leaf_size b
one_size player a b p q =
    let l = p.lows ∙ sym q.lows in
    let h = p.highs ∙ sym q.highs in
    let s = p.sides ∙ sym q.sides in
    λ i. record { lows = l i; highs = h i; sides = s i }

-- one player's leaf more
pub sizes_more : (game : GameOf) (leaves : List Leaf) (i : ℕ) (player : PlayerOf) (leaf : Leaf)
    → map leaf_size leaves ≡ map player_size (take i game) → IsPlayer game i player
    → IsLeafOf player leaf
    → map leaf_size (leaves ++ leaf ∷ []) ≡ map player_size (take (i + 1) game)
sizes_more game leaves i player leaf before is of_player =
    let below = slice_get_within game i player is in
    let size : leaf_size leaf ≡ player_size player =
    (λ j. record {
      lows = of_player.lows j;
      highs = of_player.highs j;
      sides = of_player.sides j;
    }) in
    map-append leaf_size leaves (leaf ∷ []) ∙
    ap₂ (λ (xs ys : List LeafSize). xs ++ ys) before
    (ap (λ s. s ∷ [])
    (size ∙ ap player_size (sym (get_or_from_slice_get game i player player is)))) ∙
    sym (ap (map player_size) (take_more game i player below) ∙
    map-append player_size (take i game) (get_or game i player ∷ []))
