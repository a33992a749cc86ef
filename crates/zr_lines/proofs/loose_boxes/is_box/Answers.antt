use Rattle.std.proofs.Common.{◌^◌, ◌<◌, ◌∙◌, ap, arith, length, rules, sym, false, Some}
use Rattle.std.specs.Prelude.{option_copied, is_some}
use Rattle.zr_form.specs.Code.{left_of}
use Rattle.zr_form.specs.Lines.{fields_of}
use Rattle.zr_form.proofs.Parsing.{fields_first}
use Rattle.zr_lines.specs.declared.words.BoxWord.TheVariants.{Split, Empty, Deviate}
use Rattle.zr_lines.specs.Reader.{box_at, box_rest}
use Rattle.zr_lines.specs.Words.{box_word}
use Rattle.zr_lines.proofs.LooseSteps.{fields_fit}
use Rattle.zr_lines.proofs.Worded.{word_known, word_unknown}
use Rattle.zr_lines.proofs.loose_boxes.is_box.Goals as goal

pub returns-in_default : goal.returns-in_default
unfolding box_at
returns-in_default c =
    let f = c.next_field.result.0.now in
    let gs = left_of (option_copied c.next_field.result.1) in
    let fs = fields_of c.args.line.now in
    let cut = fields_first c.args.line.now f c.next_field.result.1 c.next_field.ensures.before c.next_field.ensures.after in
    ap is_some (sym (word_unknown box_word (box_rest false) fs f gs cut (sym c.in_default.ensures)))

pub returns-in-Split : goal.returns-in-Split
unfolding box_at
returns-in-Split c =
    let f = c.next_field.result.0.now in
    let gs = left_of (option_copied c.next_field.result.1) in
    let fs = fields_of c.args.line.now in
    let cut = fields_first c.args.line.now f c.next_field.result.1 c.next_field.ensures.before c.next_field.ensures.after in
    c.is_split.ensures ∙ ap is_some (sym (word_known box_word (box_rest false) fs f gs cut Split (sym c.in-Some.ensures ∙ ap Some c.in-Split.is)))

pub returns-in-Empty : goal.returns-in-Empty
unfolding box_at
returns-in-Empty c =
    let f = c.next_field.result.0.now in
    let gs = left_of (option_copied c.next_field.result.1) in
    let fs = fields_of c.args.line.now in
    let cut = fields_first c.args.line.now f c.next_field.result.1 c.next_field.ensures.before c.next_field.ensures.after in
    c.is_empty.ensures ∙ ap is_some (sym (word_known box_word (box_rest false) fs f gs cut Empty (sym c.in-Some.ensures ∙ ap Some c.in-Empty.is)))

pub is_empty-requires : goal.is_empty-requires
is_empty-requires c =
    let e = fields_first c.args.line.now c.next_field.result.0.now c.next_field.result.1 c.next_field.ensures.before c.next_field.ensures.after in
    let few : length c.args.line.now < 2 ^ 64 = search rules in
    omega (arith, ap length e, fields_fit c.args.line.now, few)

pub returns-in-Deviate : goal.returns-in-Deviate
unfolding box_at
returns-in-Deviate c =
    let f = c.next_field.result.0.now in
    let gs = left_of (option_copied c.next_field.result.1) in
    let fs = fields_of c.args.line.now in
    let cut = fields_first c.args.line.now f c.next_field.result.1 c.next_field.ensures.before c.next_field.ensures.after in
    c.is_deviate.ensures ∙ ap is_some (sym (word_known box_word (box_rest false) fs f gs cut Deviate (sym c.in-Some.ensures ∙ ap Some c.in-Deviate.is)))

pub is_deviate-requires : goal.is_deviate-requires
is_deviate-requires c =
    let e = fields_first c.args.line.now c.next_field.result.0.now c.next_field.result.1 c.next_field.ensures.before c.next_field.ensures.after in
    let few : length c.args.line.now < 2 ^ 64 = search rules in
    omega (arith, ap length e, fields_fit c.args.line.now, few)
