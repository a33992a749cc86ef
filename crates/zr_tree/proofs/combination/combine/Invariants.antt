use Rattle.std.proofs.Common.{take}
use Rattle.zr_game.specs.Players.{player_of}
use Rattle.zr_game.specs.Leaves.{leaf_of, slots}
use Rattle.zr_tree.specs.Combining.{IsCombined}
use Rattle.zr_tree.proofs.combination.combine.Given as goal

abbrev pub invariant-loop-slot : goal.invariant-loop-slot
invariant-loop-slot l = IsCombined (slots (player_of l.player) (leaf_of l.leaf)) (take l.slot-index l.mult) l.sums l.le
