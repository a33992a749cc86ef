use Rattle.std.proofs.Common.{pos, get_or}
use Rattle.zr_base.proofs.SumSteps.{get_or_default}
use Rattle.zr_game.specs.declared.choice.Choice.TheVariants.{On}
use Rattle.zr_report.proofs.Growing.{choices_grow}
use Rattle.zr_text.proofs.Putting.{all_written, more_written, none_written}
use Rattle.zr_report.proofs.question.put_choice_lines.Goals as goal

pub loop-choice-init : goal.loop-choice-init
loop-choice-init c = none_written choices_grow c.args.out.now.items c.args.path.now

pub loop-choice-preserved : goal.loop-choice-preserved
loop-choice-preserved c =
    let m = get_or c.args.path.now c.loop-choice.choice-index (On 0 0) in
    more_written choices_grow c.args.out.now.items c.args.path.now c.loop-choice.choice-index m
    c.loop-choice.out.items c.put_choice.new.out.items c.loop-choice-test.true
    (get_or_default c.args.path.now c.loop-choice.choice-index (On 0 0) m c.loop-choice-test.true)
    c.loop-choice.invariant c.in_ok-put_choice.ensures

pub returns : goal.returns
returns c =
    all_written choices_grow c.args.out.now.items c.args.path.now c.loop-choice.choice-index c.loop-choice.out.items
    c.loop-choice-test.false c.loop-choice.invariant
