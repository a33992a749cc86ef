-- A scratch's room and its places.
use Rattle.std.specs.Prelude.{◌≡◌, length}
use Rattle.zr_tree.specs.declared.scratch.Room.{Room}
use Rattle.zr_tree.specs.Scratches.{Places}

abbrev pub places_of : Room → Places
places_of room = record {
  nodes = length room.path.frames.items;
  columns = length room.sums.items;
  vars = length room.path.leaf.low.items;
  pairs = length room.path.leaf.sides.items;
}

-- there are as many high bounds as low ones
pub record IsRoom (room : Room) : Type 0 where
  pub highs : length room.path.leaf.high.items ≡ length room.path.leaf.low.items
