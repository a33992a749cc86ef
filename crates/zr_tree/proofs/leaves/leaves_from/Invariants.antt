use Rattle.std.proofs.Common.{map, drop, All}
use Rattle.zr_game.specs.Players.{player_of}
use Rattle.zr_game.specs.Leaves.{IsLeafOf, leaf_of}
use Rattle.zr_tree.specs.Nodes.{node_of}
use Rattle.zr_tree.specs.Openings.{upcoming}
use Rattle.zr_tree.proofs.Listing.{Listing}
use Rattle.zr_tree.proofs.leaves.leaves_from.Given as goal

abbrev pub invariant-loop-node : goal.invariant-loop-node
invariant-loop-node l = record {
  listing : Listing (player_of l.player) (leaf_of l.fn.root) (map node_of l.nodes)
      (drop l.node-index (map node_of l.nodes)) (map leaf_of (upcoming l.due.items))
      (map leaf_of l.leaves.items);
  due : All (IsLeafOf (player_of l.player)) (upcoming l.due.items);
  lengths : All (IsLeafOf (player_of l.player)) l.leaves.items;
}
