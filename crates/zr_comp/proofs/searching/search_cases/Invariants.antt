use Rattle.std.proofs.Common.{◌+◌, ◌*◌, ◌-◌, length, map}
use Rattle.zr_io.specs.Purses.{counted}
use Rattle.zr_game.specs.Games.{game_of}
use Rattle.zr_cases.specs.Cases.{rnode_of}
use Rattle.zr_system.specs.Regions.{leaves_of}
use Rattle.zr_comp.specs.Cases.{due_paths}
use Rattle.zr_comp.specs.Spending.{SpendsBranches}
use Rattle.zr_comp.proofs.Growing.{IsGrowing}
use Rattle.zr_comp.proofs.searching.search_cases.Given as goal

abbrev pub invariant-paths : goal.invariant-paths
invariant-paths l = record {
  growing : IsGrowing (game_of l.game) (leaves_of l.leaves) l.kind (map rnode_of l.nodes.items)
      (due_paths l.due.items) (l.purse.branches - l.fn.purse.branches);
  spends : SpendsBranches l.fn.purse l.purse;
}

abbrev pub decreases-paths : goal.decreases-paths
decreases-paths l = 2 * (l.purse.limit - counted l.purse) + length (due_paths l.due.items)
