use Rattle.std.proofs.Common.{ap, arith, false, length}
use Rattle.std.specs.Prelude.{option_copied}
use Rattle.zr_form.specs.Bounds.{is_index}
use Rattle.zr_form.specs.Code.{left_of}
use Rattle.zr_lines.specs.Fits.{is_scale}
use Rattle.zr_lines.proofs.OtherTests.{integer_front, natural_front}
use Rattle.zr_lines.proofs.loose_node.is_leaf.Goals as goal

pub are_counted-requires : goal.are_counted-requires
are_counted-requires c =
    let fs = left_of (option_copied c.args.left) in
    let gs = left_of (option_copied c.in-Some.rest) in
    let hs = left_of (option_copied c.in-Some-spelled_natural.rest) in
    let z = c.in-Some.ensures in
    let n = c.in-Some-spelled_natural.ensures in
    let f = integer_front (is_scale false c.are_refuted.result) fs gs z.0 z.1 in
    let g = natural_front (is_index false) gs hs n.0 n.2 in
    omega (arith, ap length f.1, ap length g.1, c.requires)
