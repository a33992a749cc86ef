use Rattle.std.proofs.Common.{ap, arith, false, length}
use Rattle.std.specs.Prelude.{option_copied}
use Rattle.zr_form.specs.Bounds.{is_index}
use Rattle.zr_form.specs.Code.{left_of}
use Rattle.zr_lines.proofs.OtherTests.{natural_front}
use Rattle.zr_lines.proofs.loose_multipliers.is_counting.Goals as goal

pub are_counted-requires : goal.are_counted-requires
are_counted-requires c =
    let n = c.in-Some.ensures in
    let g = natural_front (is_index false) (left_of (option_copied c.args.left)) (left_of (option_copied c.in-Some.rest)) n.0 n.2 in
    omega (arith, ap length g.1, c.requires)
