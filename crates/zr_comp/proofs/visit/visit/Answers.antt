use Rattle.zr_game.specs.Games.{game_of}
use Rattle.zr_system.specs.Regions.{leaves_of}
use Rattle.zr_comp.proofs.Paths.{due_list}
use Rattle.zr_comp.proofs.visit.visit.Goals as goal

pub ask-requires-clause-path : goal.ask-requires-clause-path
ask-requires-clause-path c =
    (due_list (game_of c.args.game.now) (leaves_of c.args.leaves.now) c.args.kind c.args.path.now
    c.requires.path).exist

pub fate_of-requires-clause-path : goal.fate_of-requires-clause-path
fate_of-requires-clause-path c =
    due_list (game_of c.args.game.now) (leaves_of c.args.leaves.now) c.args.kind c.args.path.now
    c.requires.path

pub returns-in-Err-clause-cause : goal.returns-in-Err-clause-cause
returns-in-Err-clause-cause c = λ old new.
    c.stop_of.ensures (game_of c.args.game.now) (leaves_of c.args.leaves.now) c.args.kind
    c.args.path.now c.requires.path.open_is c.in-Err.ensures.cause old new
