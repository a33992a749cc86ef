-- What a search asks of the ends of its trees.
use Rattle.std.specs.Prelude.{Bool, true, false}
use Rattle.zr_game.specs.Players.{GameOf}
use Rattle.zr_system.specs.Regions.{LeavesOf}
use Rattle.zr_refute.specs.Refuting.{EndRule}
use Rattle.zr_choices.specs.Replies.{IsRefutedBy}

-- the multipliers refute the rows under the path; or where that isn't wanted nothing
abbrev pub end_rule : GameOf → LeavesOf → Bool → EndRule
end_rule game leaves true path mult = IsRefutedBy game leaves path mult
end_rule game leaves false path mult = Unit {0}
