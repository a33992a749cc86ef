use Rattle.std.proofs.Common.{rules, ◌^◌, ◌<◌, arith, length, false}
use Rattle.zr_form.specs.Bounds.{is_positive}
use Rattle.zr_lines.proofs.LooseSteps.{fields_fit}
use Rattle.zr_text.proofs.TextSteps.{integer_shorter, word_shorter}
use Rattle.zr_text.proofs.loose.is_part.Goals as goal

pub is_point-requires : goal.is_point-requires
is_point-requires c =
    let few : length c.args.line.now < 2 ^ 64 = search rules in
    let z = c.in-Some-after_positive.ensures in
    omega (arith, word_shorter _ _ _ _ c.in-Some.ensures, integer_shorter (is_positive false) _ _ z.0 z.1, fields_fit c.args.line.now, few)
