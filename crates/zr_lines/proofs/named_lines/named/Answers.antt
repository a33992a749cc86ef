use Rattle.std.proofs.Common.{◌≡◌, ◌∙◌, ap, sym, subst, true, Option, Some}
use Rattle.std.specs.Prelude.{option_copied, option_map, IfOk}
use Rattle.zr_form.specs.Code.{left_of}
use Rattle.zr_form.specs.Lines.{fields_of}
use Rattle.zr_form.proofs.Parsing.{fields_first}
use Rattle.zr_lines.specs.declared.words.NamedWord.TheVariants.{Point, Ray}
use Rattle.zr_lines.specs.Reader.{named_at, named_rest}
use Rattle.zr_lines.specs.Words.{named_word}
use Rattle.zr_lines.proofs.Worded.{word_known, word_unknown}
use Rattle.zr_game.specs.Named.{NamedOf, named_of}
use Rattle.zr_lines.proofs.named_lines.named.Goals as goal

pub returns-in_default : goal.returns-in_default
unfolding named_at
returns-in_default c =
    let f = c.next_field.result.0.now in
    let gs = left_of (option_copied c.next_field.result.1) in
    let fs = fields_of c.args.line.now in
    let cut = fields_first c.args.line.now f c.next_field.result.1 c.next_field.ensures.before c.next_field.ensures.after in
    sym (word_unknown named_word (named_rest true) fs f gs cut (sym c.in_default.ensures))

pub returns-in-Point : goal.returns-in-Point
unfolding named_at
returns-in-Point c =
    let f = c.next_field.result.0.now in
    let gs = left_of (option_copied c.next_field.result.1) in
    let fs = fields_of c.args.line.now in
    let cut = fields_first c.args.line.now f c.next_field.result.1 c.next_field.ensures.before c.next_field.ensures.after in
    subst (λ (z : Option NamedOf). IfOk c.named_point.result (λ o. option_map named_of o ≡ z)) (sym (word_known named_word (named_rest true) fs f gs cut Point (sym c.in-Some.ensures ∙ ap Some c.in-Point.is))) (c.named_point.ensures)

pub returns-in-Ray : goal.returns-in-Ray
unfolding named_at
returns-in-Ray c =
    let f = c.next_field.result.0.now in
    let gs = left_of (option_copied c.next_field.result.1) in
    let fs = fields_of c.args.line.now in
    let cut = fields_first c.args.line.now f c.next_field.result.1 c.next_field.ensures.before c.next_field.ensures.after in
    subst (λ (z : Option NamedOf). IfOk c.named_ray.result (λ o. option_map named_of o ≡ z)) (sym (word_known named_word (named_rest true) fs f gs cut Ray (sym c.in-Some.ensures ∙ ap Some c.in-Ray.is))) (c.named_ray.ensures)
