use Rattle.std.proofs.Common.{rules, ◌≡◌, ◌++◌, ◌∷◌, get_or, pos, FitsSigned}
use Rattle.std.specs.Int.{w128}
use Rattle.std.proofs.lemmas.Int.{to_z-of_z}
use Rattle.zr_base.proofs.SumSteps.{get_or_default}
use Rattle.zr_form.specs.Numbers.{signed}
use Rattle.zr_text.proofs.Putting.{all_written, more_written, none_written, numbers_grow}
use Rattle.zr_text.proofs.writing_lines.put_direction.Goals as goal

pub loop-n-init : goal.loop-n-init
loop-n-init c = none_written numbers_grow c.args.out.now.items c.args.dir.now

pub loop-n-preserved : goal.loop-n-preserved
loop-n-preserved c =
    let fits : FitsSigned w128 (get_or c.args.dir.now c.loop-n.n-index (pos 0)) = search rules in
    let n = get_or c.args.dir.now c.loop-n.n-index (pos 0) in
    let put : c.put_integer_field.new.out.items ≡ c.loop-n.out.items ++ 32 ∷ signed n = simp to_z-of_z at c.in_ok-put_integer_field.ensures in
    more_written numbers_grow c.args.out.now.items c.args.dir.now c.loop-n.n-index n c.loop-n.out.items c.put_integer_field.new.out.items c.loop-n-test.true (get_or_default c.args.dir.now c.loop-n.n-index (pos 0) n c.loop-n-test.true) c.loop-n.invariant put

pub returns : goal.returns
returns c = all_written numbers_grow c.args.out.now.items c.args.dir.now c.loop-n.n-index c.loop-n.out.items c.loop-n-test.false c.loop-n.invariant
