use Rattle.zr_game.specs.Games.{game_of}
use Rattle.zr_game.specs.declared.choice.Choice.TheVariants.{On}
use Rattle.zr_system.specs.Regions.{leaves_of}
use Rattle.zr_system.proofs.PathLines.{path_more}
use Rattle.zr_system.proofs.line.push_path.Goals as goal

pub loop-choice-preserved : goal.loop-choice-preserved
loop-choice-preserved c =
    path_more (game_of c.args.game.now) (leaves_of c.args.leaves.now) c.args.list.now.items
    c.args.path.now c.loop-choice.choice-index (On 0 0) c.loop-choice.list.items
    c.push_choice.new.list.items c.loop-choice-test.true c.loop-choice.invariant
    c.in_ok-push_choice.ensures
