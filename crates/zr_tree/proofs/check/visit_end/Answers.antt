use Rattle.std.proofs.Common.{sym, subst, List}
use Rattle.zr_game.specs.Players.{player_of}
use Rattle.zr_game.specs.Leaves.{LeafOf, leaf_of}
use Rattle.zr_tree.specs.Nodes.{node_of}
use Rattle.zr_tree.specs.Paths.{Entered}
use Rattle.zr_tree.specs.Tasks.{end_rule, end_wide}
use Rattle.zr_tree.proofs.TaskEnds.{no_children, told_bad, told_right, told_wide}
use Rattle.zr_tree.proofs.check.visit_end.Goals as goal

pub returns-in-Ok-true-clause-ok : goal.returns-in-Ok-true-clause-ok
returns-in-Ok-true-clause-ok c =
    told_right (end_rule c.args.task (player_of c.args.player.now)) (end_wide c.args.task (player_of c.args.player.now)) (player_of c.args.player.now) (leaf_of c.args.room.now.path.leaf) c.args.k (node_of c.args.node.now) c.requires.end c.in-Ok-true.field-0 c.in-Ok-true.field-0-test c.in-Ok-true.ensures

pub returns-in-Ok-true-clause-entered : goal.returns-in-Ok-true-clause-entered
returns-in-Ok-true-clause-entered c =
    subst (λ (leaves : List LeafOf). Entered (player_of c.args.player.now) leaves c.args.room.now.path c.go_on.new.path) (sym (no_children (leaf_of c.args.room.now.path.leaf) (node_of c.args.node.now) c.requires.end)) c.go_on.ensures

pub returns-in-Ok-false-clause-err : goal.returns-in-Ok-false-clause-err
returns-in-Ok-false-clause-err c =
    told_bad (end_rule c.args.task (player_of c.args.player.now)) (end_wide c.args.task (player_of c.args.player.now)) (player_of c.args.player.now) (leaf_of c.args.room.now.path.leaf) c.args.k (node_of c.args.node.now) c.requires.end c.in-Ok-false.field-0 c.in-Ok-false.field-0-test c.in-Ok-false.ensures

pub returns-in-Err-clause-err : goal.returns-in-Err-clause-err
returns-in-Err-clause-err c =
    told_wide (end_rule c.args.task (player_of c.args.player.now)) (end_wide c.args.task (player_of c.args.player.now)) (player_of c.args.player.now) (leaf_of c.args.room.now.path.leaf) c.args.k (node_of c.args.node.now) c.requires.end c.in-Err.ensures
