use Rattle.std.proofs.Common.{◌∙◌, ap, arith, length, refl, sym, false}
use Rattle.std.specs.Prelude.{option_copied, is_some}
use Rattle.zr_form.specs.Bounds.{is_narrow, is_positive}
use Rattle.zr_form.specs.Code.{left_of}
use Rattle.zr_form.specs.Fields.{integers}
use Rattle.zr_lines.specs.Reader.{is_two_lists, ray_at, ray_with}
use Rattle.zr_lines.proofs.OtherTests.{integer_front}
use Rattle.zr_lines.proofs.PointSteps.{by_count, no_count, no_den}
use Rattle.zr_lines.proofs.loose_point.is_ray.Goals as goal

pub returns-in_default : goal.returns-in_default
unfolding ray_at
returns-in_default c =
    let fs = left_of (option_copied c.args.left) in
    ap is_some (no_den false ray_with is_two_lists fs fs c.in_default.ensures)

pub number_count-requires : goal.number_count-requires
number_count-requires c =
    let n = c.in-Some.ensures in
    let g = integer_front (is_positive false) (left_of (option_copied c.args.left)) (left_of (option_copied c.in-Some.rest)) n.0 n.1 in
    omega (arith, ap length g.1, c.requires)

pub returns-in_default-number_count : goal.returns-in_default-number_count
unfolding ray_at
returns-in_default-number_count c =
    let fs = left_of (option_copied c.args.left) in
    let gs = left_of (option_copied c.in-Some.rest) in
    let n = c.in-Some.ensures in
    no_count false ray_with is_two_lists fs gs n.0 n.1 (integers (is_narrow false) gs) refl c.in_default-number_count.ensures

pub returns : goal.returns
unfolding ray_at
returns c =
    let fs = left_of (option_copied c.args.left) in
    let gs = left_of (option_copied c.in-Some.rest) in
    let n = c.in-Some.ensures in
    c.is_two_lists.ensures ∙ sym (by_count false ray_with is_two_lists fs gs n.0 n.1 (integers (is_narrow false) gs) refl c.in-Some-number_count.count c.in-Some-number_count.ensures)
