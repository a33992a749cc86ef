use Rattle.std.proofs.Common.{map, take}
use Rattle.std.specs.List.{All}
use Rattle.zr_game.specs.Players.{player_of}
use Rattle.zr_tree.specs.Form.{IsNodeForm}
use Rattle.zr_tree.specs.Nodes.{node_of}
use Rattle.zr_branch.specs.Replies.{CountsPivotsAlone}
use Rattle.zr_bnb.specs.Found.{AreNodesOf, proofs_for}
use Rattle.zr_bnb.proofs.prove.nodes_of.Given as goal

abbrev pub invariant-plans : goal.invariant-plans
invariant-plans l = record {
  nodes : AreNodesOf (player_of l.player) (proofs_for l.aim l.least) (take l.plan-index l.plans)
      (map node_of l.nodes.items);
  forms : All IsNodeForm (map node_of l.nodes.items);
  counts : CountsPivotsAlone l.fn.purse l.purse;
}
