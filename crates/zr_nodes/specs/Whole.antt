-- What ties the parts of a forest together. No public clause cites this module.
use Rattle.std.specs.Prelude.{◌≡◌, ℕ, ◌+◌, ◌≤◌, List, length}
use Rattle.zr_nodes.specs.Forests.{Forest, IsForest}
use Rattle.zr_nodes.specs.Places.{Left}
use Rattle.zr_nodes.specs.Kin.{Kin}

-- the forest that the parts show
abbrev pub seen : {T : Type 0} → List T → Kin → Left → ℕ → Forest T
seen items kin leaves spare = record {
  items = items;
  parents = kin.parents;
  left = leaves.order;
  spare = spare;
}

-- the parts are those of one forest, and each has room for the spare nodes
pub record IsWhole {T : Type 0} (items : List T) (room : ℕ) (kin : Kin) (leaves : Left) (spare : ℕ)
    : Type 0 where
  pub forest : IsForest (seen items kin leaves spare)
  pub size : leaves.size ≡ length items
  pub items_room : length items + spare ≤ room
  pub kin_room : length items + spare ≤ kin.room
  pub leaves_room : length items + spare ≤ leaves.room
