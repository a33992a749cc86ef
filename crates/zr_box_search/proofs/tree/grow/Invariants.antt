use Rattle.std.proofs.Common.{◌+◌, ◌*◌, ◌-◌, length, map}
use Rattle.zr_io.specs.Purses.{counted}
use Rattle.zr_game.specs.Games.{game_of}
use Rattle.zr_cases.specs.Cases.{bnode_of}
use Rattle.zr_box_search.specs.Dues.{due_of}
use Rattle.zr_box_search.specs.Fates.{SpendsUnits}
use Rattle.zr_box_search.proofs.Growing.{IsGrowing}
use Rattle.zr_box_search.proofs.tree.grow.Given as goal

abbrev pub invariant-boxes : goal.invariant-boxes
invariant-boxes l = record {
  growing : IsGrowing (game_of l.game) (map bnode_of l.nodes.items) (due_of l.due.items)
      (l.purse.branches - l.fn.purse.branches);
  spends : SpendsUnits l.fn.purse l.purse (l.purse.branches - l.fn.purse.branches);
}

abbrev pub decreases-boxes : goal.decreases-boxes
decreases-boxes l = 2 * (l.purse.limit - counted l.purse) + length (due_of l.due.items)
