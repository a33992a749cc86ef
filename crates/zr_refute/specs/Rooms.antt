-- What a room for checks of refutations has.
use Rattle.std.specs.Prelude.{◌≡◌, ℕ, List, length}
use Rattle.zr_game.specs.Players.{GameOf}
use Rattle.zr_system.specs.declared.line.Line.{Line}
use Rattle.zr_system.specs.declared.unknown.Unknown.{Unknown}
use Rattle.zr_system.specs.Lines.{base_lines}
use Rattle.zr_system.specs.Regions.{LeavesOf}
use Rattle.zr_system.specs.Unknowns.{columns}
use Rattle.zr_refute.specs.declared.room.Table.{Table}

-- the unknowns by column, the rows where no choice is made, and places for sums and choices
pub record CaseRoomOf : Type 0 where
  pub order : List Unknown
  pub lines : List Line
  pub sums : ℕ
  pub choices : ℕ

abbrev pub room_of : Table → CaseRoomOf
room_of table = record {
  order = table.order.items;
  lines = table.base.items;
  sums = length table.sums.items;
  choices = length table.path.choices.items;
}

-- the room is for these leaves, with a sum for each column
pub record IsRoomFor (game : GameOf) (leaves : LeavesOf) (room : CaseRoomOf) : Type 0 where
  pub order : room.order ≡ columns game leaves
  pub lines : room.lines ≡ base_lines game leaves
  pub sums : room.sums ≡ length (columns game leaves)
