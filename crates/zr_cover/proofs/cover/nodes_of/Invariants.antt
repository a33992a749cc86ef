use Rattle.std.proofs.Common.{◌+◌, ◌*◌, ◌-◌, length, map}
use Rattle.zr_io.specs.Purses.{counted}
use Rattle.zr_game.specs.Players.{player_of}
use Rattle.zr_tree.specs.Nodes.{node_of}
use Rattle.zr_cover.specs.Fates.{due_paths}
use Rattle.zr_cover.proofs.Growing.{IsGrowing, SpendsBranches}
use Rattle.zr_cover.proofs.cover.nodes_of.Given as goal

abbrev pub invariant-branches : goal.invariant-branches
invariant-branches l = record {
  growing : IsGrowing (player_of l.player) (map node_of l.nodes.items) (due_paths l.due.items)
      (l.purse.branches - l.fn.purse.branches);
  spends : SpendsBranches l.fn.purse l.purse;
}

abbrev pub decreases-branches : goal.decreases-branches
decreases-branches l =
    2 * (l.purse.limit - counted l.purse) + length (due_paths l.due.items)
