-- The leaves of the players' covers, and what shows by them that there is no equilibrium.
use Rattle.std.specs.Prelude.{◌≡◌, ℕ, List, [], ◌∷◌, map, Some, slice_get, slice_index_or}
use Rattle.std.specs.List.{All}
use Rattle.zr_game.specs.Forms.{IsPlayer}
use Rattle.zr_game.specs.Leaves.{root_leaf}
use Rattle.zr_game.specs.Named.{IsNamed, NamedOf}
use Rattle.zr_game.specs.Players.{GameOf, PlayerOf}
use Rattle.zr_game.specs.declared.kind.Kind.{Kind}
use Rattle.zr_tree.specs.Covers.{CoverLeaf, IsCoverTree, cover_leaves}
use Rattle.zr_tree.specs.Trees.{TreeOf}
use Rattle.zr_cases.specs.Trees.{CasesOf}
use Rattle.zr_system.specs.Regions.{LeavesOf, RegionOf}
use Rattle.zr_refute.specs.Refuting.{RefutesUnder}

abbrev pub region_with : CoverLeaf → RegionOf
region_with item = record { leaf = item.leaf; exact = item.exact }

-- the leaves of one player's cover
abbrev pub cover_regions : PlayerOf → TreeOf → List RegionOf
cover_regions player tree = map region_with (cover_leaves player (root_leaf player) tree)

-- of each player's cover, in order
abbrev pub regions_with : GameOf → List TreeOf → List (List RegionOf)
regions_with [] trees = []
regions_with (player ∷ players) [] = []
regions_with (player ∷ players) (tree ∷ trees) =
    cover_regions player tree ∷ regions_with players trees

-- the leaves of the players' covers, with what is named of each, and no cuts
abbrev pub covered : GameOf → List TreeOf → List (List NamedOf) → LeavesOf
covered game trees named = record {
  regions = regions_with game trees;
  named = named;
  cuts = map (λ player. []) game;
}

-- each player has a cover of its points, and what is named of it is a feasible point, or a ray at
-- one
pub record AreRightCovers (game : GameOf) (trees : List TreeOf) (named : List (List NamedOf)) : Type
    0 where
  pub covers : (i : ℕ) (player : PlayerOf) → IsPlayer game i player
      → (tree : TreeOf) × (slice_get trees i ≡ Some tree)
      × IsCoverTree player (root_leaf player) tree
  pub named_items : (i : ℕ) (player : PlayerOf) → IsPlayer game i player
      → All (IsNamed player) (slice_index_or named i [])

-- such covers and names, and a refutation of the system over the covers' leaves
pub record ShowsNone (game : GameOf) (kind : Kind) (trees : List TreeOf)
    (named : List (List NamedOf)) (t : CasesOf) : Type 0 where
  pub covers : AreRightCovers game trees named
  pub refutes : RefutesUnder game (covered game trees named) kind [] t
