use Rattle.std.proofs.Common.{◌^◌, ◌<◌, ◌∙◌, ap, arith, length, rules, sym, false, Some}
use Rattle.std.specs.Prelude.{option_copied, is_some}
use Rattle.zr_form.specs.Code.{left_of}
use Rattle.zr_form.specs.Lines.{fields_of}
use Rattle.zr_form.proofs.Parsing.{fields_first}
use Rattle.zr_lines.specs.declared.words.NamedWord.TheVariants.{Point, Ray}
use Rattle.zr_lines.specs.Reader.{named_at, named_rest}
use Rattle.zr_lines.specs.Words.{named_word}
use Rattle.zr_lines.proofs.LooseSteps.{fields_fit}
use Rattle.zr_lines.proofs.Worded.{word_known, word_unknown}
use Rattle.zr_lines.proofs.named_lines.is_named.Goals as goal

pub returns-in_default : goal.returns-in_default
unfolding named_at
returns-in_default c =
    let f = c.next_field.result.0.now in
    let gs = left_of (option_copied c.next_field.result.1) in
    let fs = fields_of c.args.line.now in
    let cut = fields_first c.args.line.now f c.next_field.result.1 c.next_field.ensures.before c.next_field.ensures.after in
    ap is_some (sym (word_unknown named_word (named_rest false) fs f gs cut (sym c.in_default.ensures)))

pub returns-in-Point : goal.returns-in-Point
unfolding named_at
returns-in-Point c =
    let f = c.next_field.result.0.now in
    let gs = left_of (option_copied c.next_field.result.1) in
    let fs = fields_of c.args.line.now in
    let cut = fields_first c.args.line.now f c.next_field.result.1 c.next_field.ensures.before c.next_field.ensures.after in
    c.is_named_point.ensures ∙ ap is_some (sym (word_known named_word (named_rest false) fs f gs cut Point (sym c.in-Some.ensures ∙ ap Some c.in-Point.is)))

pub is_named_point-requires : goal.is_named_point-requires
is_named_point-requires c =
    let e = fields_first c.args.line.now c.next_field.result.0.now c.next_field.result.1 c.next_field.ensures.before c.next_field.ensures.after in
    let few : length c.args.line.now < 2 ^ 64 = search rules in
    omega (arith, ap length e, fields_fit c.args.line.now, few)

pub returns-in-Ray : goal.returns-in-Ray
unfolding named_at
returns-in-Ray c =
    let f = c.next_field.result.0.now in
    let gs = left_of (option_copied c.next_field.result.1) in
    let fs = fields_of c.args.line.now in
    let cut = fields_first c.args.line.now f c.next_field.result.1 c.next_field.ensures.before c.next_field.ensures.after in
    c.is_named_ray.ensures ∙ ap is_some (sym (word_known named_word (named_rest false) fs f gs cut Ray (sym c.in-Some.ensures ∙ ap Some c.in-Ray.is)))

pub is_named_ray-requires : goal.is_named_ray-requires
is_named_ray-requires c =
    let e = fields_first c.args.line.now c.next_field.result.0.now c.next_field.result.1 c.next_field.ensures.before c.next_field.ensures.after in
    let few : length c.args.line.now < 2 ^ 64 = search rules in
    omega (arith, ap length e, fields_fit c.args.line.now, few)
