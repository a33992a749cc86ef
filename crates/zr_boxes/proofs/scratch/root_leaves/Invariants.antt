use Rattle.std.proofs.Common.{◌≡◌, map, take}
use Rattle.zr_game.specs.Games.{game_of}
use Rattle.zr_boxes.specs.Places.{leaf_size, player_size}
use Rattle.zr_boxes.proofs.scratch.root_leaves.Given as goal

abbrev pub invariant-loop-i : goal.invariant-loop-i
invariant-loop-i l = map leaf_size l.leaves.items ≡ map player_size (take l.i (game_of l.game))
