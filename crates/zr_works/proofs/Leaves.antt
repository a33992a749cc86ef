-- An open tree has no more leaves than its player has leaf choices.
use Rattle.std.proofs.Common.{◌≡◌, ℕ, zero, suc, ◌+◌, ◌<◌, ◌≤◌, arith, refl, Some, List, [], ◌∷◌, map, length, length-append, slice_get, slice_index_or}
use Rattle.std.proofs.lemmas.List.{length-map}
use Rattle.zr_game.specs.Forms.{IsGame}
use Rattle.zr_game.specs.Leaves.{LeafOf, root_leaf}
use Rattle.zr_game.specs.Players.{GameOf, PlayerOf}
use Rattle.zr_game.specs.declared.leaf.Side.TheVariants.{VarZero, RowZero}
use Rattle.zr_tree.specs.Covers.{cover_leaves, high_child, low_child, side_child}
use Rattle.zr_tree.specs.Trees.{TreeOf, Split, Choose, Proof, Known, Loose}
use Rattle.zr_asked.specs.OpenTrees.{IsOpenTree, units}
use Rattle.zr_system.specs.Regions.{player_at}
use Rattle.zr_refute.specs.Covered.{region_with, regions_with}
use Rattle.zr_sizes.specs.Sizes.{leaf_choices}
use Rattle.zr_sizes.proofs.FewUnits.{few_units as own_units}
use Rattle.zr_best.specs.Works.{AreOpenTrees, all_units}
use Rattle.zr_works.specs.Most.{AreAllBounded, all_choices}

-- ---- units

-- each player's open trees have fewer units than it has leaf choices
abbrev pub HaveFewUnits : GameOf → Type 0
HaveFewUnits players =
    (i : ℕ) (player : PlayerOf) → slice_get players i ≡ Some player
    → (tree : TreeOf) → IsOpenTree player (root_leaf player) tree
    → units tree + 1 ≤ leaf_choices player

pub few_units : (game : GameOf) → IsGame game → AreAllBounded game → HaveFewUnits game
few_units game form bounded i player is tree o =
    own_units game i player (form.players i player is) (bounded i player is) tree o

pub all_few : (players : GameOf) (trees : List TreeOf) → HaveFewUnits players
    → AreOpenTrees players trees → all_units trees + length players ≤ all_choices players
all_few [] [] few o = omega arith
all_few [] (t ∷ ts) few o = absurd o
all_few (player ∷ players) [] few o = absurd o
all_few (player ∷ players) (t ∷ ts) few o =
    let a = few 0 player refl t o.0 in
    let r = all_few players ts (λ i p is. few (suc i) p is) o.1 in
    omega (arith, a, r)

-- ---- leaves

-- there is at most a leaf more than inner nodes
leaves_few : (player : PlayerOf) (leaf : LeafOf) (tree : TreeOf)
    → length (cover_leaves player leaf tree) ≤ units tree + 1
leaves_few player leaf (Split v at first second) =
    let a = leaves_few player (low_child player leaf v at) first in
    let b = leaves_few player (high_child player leaf v at) second in
    let n = length-append (cover_leaves player (low_child player leaf v at) first)
    (cover_leaves player (high_child player leaf v at) second) in
    omega (arith, a, b, n)
leaves_few player leaf (Choose p first second) =
    let a = leaves_few player (side_child player leaf p VarZero) first in
    let b = leaves_few player (side_child player leaf p RowZero) second in
    let n = length-append (cover_leaves player (side_child player leaf p VarZero) first)
    (cover_leaves player (side_child player leaf p RowZero) second) in
    omega (arith, a, b, n)
leaves_few player leaf (Proof scale mult) = omega arith
leaves_few player leaf (Known x) = omega arith
leaves_few player leaf Loose = omega arith

pub regions_few : (players : GameOf) (trees : List TreeOf) → HaveFewUnits players
    → AreOpenTrees players trees → (i : ℕ) → i < length players
    → length (slice_index_or (regions_with players trees) i []) ≤ leaf_choices (player_at players i)
regions_few [] trees few o i below = absurd (omega (arith, below))
regions_few (player ∷ players) [] few o i below = absurd o
regions_few (player ∷ players) (t ∷ ts) few o zero below =
    let a = few 0 player refl t o.0 in
    let n = leaves_few player (root_leaf player) t in
    let m = length-map (cover_leaves player (root_leaf player) t) region_with in
    let r : length (map region_with (cover_leaves player (root_leaf player) t))
    ≤ leaf_choices player = omega (arith, a, n, m) in
    r
regions_few (player ∷ players) (t ∷ ts) few o (suc i) below =
    regions_few players ts (λ k p is. few (suc k) p is) o.1 i (omega (arith, below))
