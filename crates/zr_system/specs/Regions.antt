-- What the system is over, as content: each player's leaves with their slots, and its named points
-- and rays.
use Rattle.std.specs.Prelude.{ℕ, ◌==◌, ◌&&◌, ℤ, pos, Bool, false, Option, Some, None, if◌then◌else◌, List, [], ◌∷◌, ◌++◌, map, length, slice_index_or}
use Rattle.std.specs.Option.{is_some, option_map_or}
use Rattle.zr_base.specs.Terms.{coef_at}
use Rattle.zr_base.specs.declared.row.Cut.{Cut}
use Rattle.zr_game.specs.declared.player.CrossTerm.{CrossTerm}
use Rattle.zr_game.specs.declared.leaf.Side.TheVariants.{Undecided}
use Rattle.zr_game.specs.Players.{GameOf, PlayerOf}
use Rattle.zr_game.specs.Leaves.{Bound, LeafOf, bound_with, leaf_of, slot_of, slots}
use Rattle.zr_game.specs.Named.{NamedOf, named_of}
use Rattle.zr_system.specs.declared.leaves.Region.{Region}
use Rattle.zr_system.specs.declared.leaves.Leaves.{Leaves}

-- a leaf, and whether it counts as exact
pub record RegionOf : Type 0 where
  pub leaf : LeafOf
  pub exact : Bool

-- for each player its leaves, its named points and rays, and its cuts
pub record LeavesOf : Type 0 where
  pub regions : List (List RegionOf)
  pub named : List (List NamedOf)
  pub cuts : List (List Bound)

abbrev pub region_of : Region → RegionOf
region_of region = record { leaf = leaf_of region.leaf; exact = region.exact }

abbrev pub cut_of : Cut → Bound
cut_of cut = bound_with cut.coef.items cut.le

abbrev pub leaves_of : Leaves → LeavesOf
leaves_of leaves = record {
  regions = map (λ list. map region_of list.items) leaves.regions.items;
  named = map (λ list. map named_of list.items) leaves.named.items;
  cuts = map (λ list. map cut_of list.items) leaves.cuts.items;
}

abbrev pub no_player : PlayerOf
no_player = record {
  name = [];
  vars = [];
  rows = [];
  pairs = [];
  cost = [];
  cross = [];
  others = [];
}

abbrev pub player_at : GameOf → ℕ → PlayerOf
player_at game i = slice_index_or game i no_player

-- how many variables player i has
abbrev pub var_count : GameOf → ℕ → ℕ
var_count game i = length (player_at game i).vars

-- how many leaves player i has
abbrev pub leaf_count : LeavesOf → ℕ → ℕ
leaf_count leaves i = length (slice_index_or leaves.regions i [])

abbrev pub no_region : RegionOf
no_region = record {
  leaf = record { low = λ v. None; high = λ v. None; side = λ p. Undecided };
  exact = false;
}

abbrev pub region_at : LeavesOf → ℕ → ℕ → RegionOf
region_at leaves i k = slice_index_or (slice_index_or leaves.regions i []) k no_region

-- leaf k of player i counts as exact
abbrev pub is_exact : LeavesOf → ℕ → ℕ → Bool
is_exact leaves i k = (region_at leaves i k).exact

abbrev pub named_at : LeavesOf → ℕ → List NamedOf
named_at leaves i = slice_index_or leaves.named i []

-- the slots of leaf k of player i, and after them the player's cuts
abbrev pub all_slots : GameOf → LeavesOf → ℕ → ℕ → List (Option Bound)
all_slots game leaves i k =
    slots (player_at game i) (region_at leaves i k).leaf ++ map (λ cut. Some cut)
    (slice_index_or leaves.cuts i [])

abbrev pub slot_count : GameOf → LeavesOf → ℕ → ℕ → ℕ
slot_count game leaves i k = length (all_slots game leaves i k)

abbrev pub is_present : GameOf → LeavesOf → ℕ → ℕ → ℕ → Bool
is_present game leaves i k s = is_some (slot_of (all_slots game leaves i k) s)

-- the slot's number at variable v, and its right side; an absent slot has zeros
abbrev pub slot_number : GameOf → LeavesOf → ℕ → ℕ → ℕ → ℕ → ℤ
slot_number game leaves i k s v = option_map_or (λ bound. bound.coef v)
    (slot_of (all_slots game leaves i k) s) (pos 0)

abbrev pub slot_right : GameOf → LeavesOf → ℕ → ℕ → ℕ → ℤ
slot_right game leaves i k s = option_map_or (λ bound. bound.le)
    (slot_of (all_slots game leaves i k) s) (pos 0)

-- what variable v costs player i by itself
abbrev pub own_number : GameOf → ℕ → ℕ → ℤ
own_number game i v = coef_at (player_at game i).cost v

-- the number of the cross term of these variables, which is 0 where there is none
abbrev pub cross_coef : List CrossTerm → ℕ → ℕ → ℕ → ℤ
cross_coef [] v k u = pos 0
cross_coef (t ∷ ts) v k u = if (t.own == v) && ((t.player == k) && (t.var == u)) then t.coef else
    cross_coef ts v k u

-- what variable v of player i costs it besides, times variable u of player k
abbrev pub cross_number : GameOf → ℕ → ℕ → ℕ → ℕ → ℤ
cross_number game i v k u = cross_coef (player_at game i).cross v k u
