use Rattle.std.proofs.Common.{subst, slice_index}
use Rattle.zr_game.specs.Games.{game_of}
use Rattle.zr_basis.specs.Programs.{Program}
use Rattle.zr_basis.specs.Runs.{IsFromSlacks, end_of}
use Rattle.zr_simplex.specs.Causes.{IsStuckAfter}
use Rattle.zr_simplex.specs.Programs.{program_of}
use Rattle.zr_simplex.specs.StuckSteps.{IsStuck}
use Rattle.zr_system.specs.Regions.{leaves_of}
use Rattle.zr_choices.proofs.Drawing.{program_same}
use Rattle.zr_choices.proofs.Stopping.{choices_cause, stuck_choices}
use Rattle.zr_choices.proofs.asking.ask.Goals as goal

pub reply_of-requires-clause-basic : goal.reply_of-requires-clause-basic
reply_of-requires-clause-basic c =
    let r = c.in-Ok-solve_lp.ensures.basic in
    let end = end_of (program_of c.in-Ok.question.lp) r.0 in
    (end.basis, end.form, end.basic, r.3)

pub returns-clause-cause : goal.returns-clause-cause
returns-clause-cause c =
    let game = game_of c.args.game.now in
    let leaves = leaves_of c.args.leaves.now in
    let path = c.args.path.now in
    let q = c.in-Ok.question in
    let is = c.in-Ok.ensures.question in
    let old = c.args.purse.now in
    let new = c.solve_lp.new.purse in
    let stuck = c.in-Err-Wide.stuck in
    let same = program_same game leaves path q.lp is.asks is.good in
    let cause = rw c.in-Err-Wide.field-0-is at c.in-Err-Wide.ensures.cause in
    choices_cause game leaves path stuck c.stuck_at.result c.stuck_at.ensures
    (stuck_choices game leaves path stuck old new
    (subst (λ (p : Program). IsStuck p stuck) same cause.0)
    (subst (λ (p : Program). IsStuckAfter p (IsFromSlacks p) old new
    (λ i. slice_index stuck.basis.items i) stuck.step stuck.wide) same cause.1))
