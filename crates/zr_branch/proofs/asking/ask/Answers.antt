use Rattle.std.proofs.Common.{◌∙◌, sym, ap, subst, slice_index}
use Rattle.zr_game.specs.Players.{player_of}
use Rattle.zr_game.specs.Leaves.{LeafOf, leaf_of}
use Rattle.zr_basis.specs.Programs.{Program}
use Rattle.zr_basis.specs.Runs.{IsFromSlacks, end_of}
use Rattle.zr_simplex.specs.Causes.{IsStuckAfter}
use Rattle.zr_simplex.specs.Programs.{numbers, program_of}
use Rattle.zr_simplex.specs.StuckSteps.{IsStuck}
use Rattle.zr_asked.specs.Branches.{branch_program}
use Rattle.zr_asked.specs.Paths.{branch}
use Rattle.zr_branch.specs.Columns.{IsBranchQuestion, KeepsLows}
use Rattle.zr_branch.proofs.Branching.{ask_cause, keeps_lows, stuck_branch}
use Rattle.zr_branch.proofs.Questions.{program_same}
use Rattle.zr_branch.proofs.asking.ask.Goals as goal

pub reply_of-requires-clause-asked : goal.reply_of-requires-clause-asked
reply_of-requires-clause-asked c =
    let player = player_of c.args.player.now in
    let leaf = branch player c.args.path.now in (
      leaf,
      c.args.aim.now,
      subst (λ (l : LeafOf). IsBranchQuestion player l c.args.aim.now c.in-Ok.asked) c.requires.leaf c.in-Ok.ensures,
      keeps_lows player c.args.path.now,
    )

pub reply_of-requires-clause-basic : goal.reply_of-requires-clause-basic
reply_of-requires-clause-basic c =
    let r = c.in-Ok-solve_lp.ensures.basic in
    let end = end_of (program_of c.in-Ok.asked.lp) r.0 in
    (end.basis, end.form, end.basic, r.3)

pub returns-in-Ok-reply_of-clause-reply : goal.returns-in-Ok-reply_of-clause-reply
returns-in-Ok-reply_of-clause-reply c =
    let player = player_of c.args.player.now in
    let leaf = branch player c.args.path.now in
    c.in-Ok-reply_of.ensures leaf c.args.aim.now
    (subst (λ (l : LeafOf). IsBranchQuestion player l c.args.aim.now c.in-Ok.asked) c.requires.leaf c.in-Ok.ensures)
    (keeps_lows player c.args.path.now)

pub returns-clause-cause : goal.returns-clause-cause
returns-clause-cause c =
    let player = player_of c.args.player.now in
    let path = c.args.path.now in
    let leaf = branch player path in
    let aim = c.args.aim.now in
    let old = c.args.purse.now in
    let new = c.solve_lp.new.purse in
    let stuck = c.in-Err-Wide.stuck in
    let b = subst (λ (l : LeafOf). IsBranchQuestion player l aim c.in-Ok.asked) c.requires.leaf c.in-Ok.ensures in
    let same = program_same player leaf aim c.in-Ok.asked b in
    let cause = rw c.in-Err-Wide.field-0-is at c.in-Err-Wide.ensures.cause in
    ask_cause c.args.i player path aim stuck c.stuck_at.result c.stuck_at.ensures
    (stuck_branch player path aim stuck old new c.requires.path
    (subst (λ (p : Program). IsStuck p stuck) same cause.0)
    (subst (λ (p : Program). IsStuckAfter p (IsFromSlacks p) old new (λ i. slice_index stuck.basis.items i) stuck.step stuck.wide) same cause.1))
