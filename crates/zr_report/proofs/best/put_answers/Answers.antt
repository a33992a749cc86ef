use Rattle.zr_report.specs.Spelling.{answer_lines}
use Rattle.zr_report.proofs.Growing.{answers_grow}
use Rattle.zr_text.proofs.Putting.{all_written, more_written, none_written}
use Rattle.zr_report.proofs.best.put_answers.Goals as goal

pub loop-i-init : goal.loop-i-init
loop-i-init c = none_written answers_grow c.args.out.now.items c.args.answers.now

pub loop-i-preserved : goal.loop-i-preserved
loop-i-preserved c =
    more_written answers_grow c.args.out.now.items c.args.answers.now c.loop-i.i c.index-answers-i.result
    c.loop-i.out.items c.put_answer.new.out.items c.loop-i-test.true c.index-answers-i.is c.loop-i.invariant
    c.in_ok-put_answer.ensures

pub returns : goal.returns
returns c =
    all_written answers_grow c.args.out.now.items c.args.answers.now c.loop-i.i c.loop-i.out.items
    c.loop-i-test.false c.loop-i.invariant
