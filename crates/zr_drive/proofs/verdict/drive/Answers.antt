use Rattle.std.proofs.Common.{sym, subst, IfErr}
use Rattle.zr_game.specs.Games.{game_of}
use Rattle.zr_game.specs.declared.kind.Kind.{Kind}
use Rattle.zr_drive.specs.declared.stop.DriveStop.{DriveStop}
use Rattle.zr_drive.specs.Ends.{IsDriveCause}
use Rattle.zr_drive.proofs.Stopping.{cause_if_stopped}
use Rattle.zr_drive.proofs.verdict.drive.Goals as goal

pub returns-in-Err-clause-cause : goal.returns-in-Err-clause-cause
returns-in-Err-clause-cause c =
    let game = game_of c.args.game.now in
    subst (λ (stop : DriveStop). IsDriveCause game c.args.kind c.args.limit stop)
    (sym c.stop_of.ensures)
    (cause_if_stopped game c.args.kind c.args.limit c.new-purse.result c.decide.new.purse
    c.new-purse.ensures c.decide.ensures.spends c.in-Err.stop c.in-Err.ensures.cause
    c.in-Err.ensures.below)

pub returns-in-Ok-clause-cause : goal.returns-in-Ok-clause-cause
returns-in-Ok-clause-cause c =
    let game = game_of c.args.game.now in
    subst (λ (kind : Kind). IfErr c.checked.result (IsDriveCause game kind c.args.limit))
    c.in-Ok.ensures.right.0 (c.checked.ensures.cause c.args.limit)
