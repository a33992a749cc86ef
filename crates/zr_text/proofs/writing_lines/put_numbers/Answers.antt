use Rattle.std.proofs.Common.{rules, arith, ◌<◌, ◌∙◌, length, pos, FitsSigned}
use Rattle.std.specs.Int.{w128}
use Rattle.std.proofs.lemmas.Int.{to_z-of_z}
use Rattle.zr_base.proofs.SumSteps.{get_or_default}
use Rattle.zr_text.proofs.Putting.{all_written, more_written, none_written, numbers_grow}
use Rattle.zr_text.proofs.writing_lines.put_numbers.Goals as goal

pub loop-j-init : goal.loop-j-init
loop-j-init c = none_written numbers_grow c.args.out.now.items c.args.point.now.num

pub loop-j-preserved : goal.loop-j-preserved
loop-j-preserved c =
    let here : c.loop-j.j < length c.args.point.now.num = omega (arith, c.loop-j-test.true, c.len-j-end.ensures) in
    let fits : FitsSigned w128 c.num.result = search rules in
    more_written numbers_grow c.args.out.now.items c.args.point.now.num c.loop-j.j c.num.result c.loop-j.out.items c.put_integer_field.new.out.items here (c.num.ensures.value ∙ get_or_default c.args.point.now.num c.loop-j.j (pos 0) c.num.result here) c.loop-j.invariant (simp to_z-of_z at c.in_ok-put_integer_field.ensures)

pub returns : goal.returns
returns c = all_written numbers_grow c.args.out.now.items c.args.point.now.num c.loop-j.j c.loop-j.out.items (omega (arith, c.loop-j-test.false, c.len-j-end.ensures)) c.loop-j.invariant
