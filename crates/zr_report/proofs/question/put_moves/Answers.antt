use Rattle.std.proofs.Common.{pos, get_or}
use Rattle.zr_base.proofs.SumSteps.{get_or_default}
use Rattle.zr_asked.specs.declared.question.Move.TheVariants.{Low}
use Rattle.zr_report.proofs.Growing.{moves_grow}
use Rattle.zr_text.proofs.Putting.{all_written, more_written, none_written}
use Rattle.zr_report.proofs.question.put_moves.Goals as goal

pub loop-step-init : goal.loop-step-init
loop-step-init c = none_written moves_grow c.args.out.now.items c.args.path.now

pub loop-step-preserved : goal.loop-step-preserved
loop-step-preserved c =
    let m = get_or c.args.path.now c.loop-step.step-index (Low 0 (pos 0)) in
    more_written moves_grow c.args.out.now.items c.args.path.now c.loop-step.step-index m
    c.loop-step.out.items c.put_move.new.out.items c.loop-step-test.true
    (get_or_default c.args.path.now c.loop-step.step-index (Low 0 (pos 0)) m c.loop-step-test.true)
    c.loop-step.invariant c.in_ok-put_move.ensures

pub returns : goal.returns
returns c =
    all_written moves_grow c.args.out.now.items c.args.path.now c.loop-step.step-index c.loop-step.out.items
    c.loop-step-test.false c.loop-step.invariant
