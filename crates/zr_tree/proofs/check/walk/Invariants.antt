use Rattle.zr_game.specs.Players.{player_of}
use Rattle.zr_tree.specs.Tasks.{end_rule, end_wide}
use Rattle.zr_tree.proofs.Moves.{WalkedTo}
use Rattle.zr_tree.proofs.check.walk.Given as goal

abbrev pub invariant-loop-k : goal.invariant-loop-k
invariant-loop-k l =
    WalkedTo (end_rule l.task (player_of l.player)) (end_wide l.task (player_of l.player)) (player_of l.player) l.nodes l.k l.fn.room l.room
