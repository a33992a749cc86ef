use Rattle.std.proofs.Common.{◌≡◌, ◌∙◌, ap, sym, subst, true, Option, Some}
use Rattle.std.specs.Prelude.{option_copied, option_map, IfOk}
use Rattle.zr_form.specs.Code.{left_of}
use Rattle.zr_form.specs.Lines.{fields_of}
use Rattle.zr_form.proofs.Parsing.{fields_first}
use Rattle.zr_lines.specs.declared.words.BoxWord.TheVariants.{Split, Empty, Deviate}
use Rattle.zr_lines.specs.Reader.{box_at, box_rest}
use Rattle.zr_lines.specs.Words.{box_word}
use Rattle.zr_lines.proofs.Worded.{word_known, word_unknown}
use Rattle.zr_cases.specs.Cases.{BNodeOf, bnode_of}
use Rattle.zr_lines.proofs.box_lines.box_node.Goals as goal

pub returns-in_default : goal.returns-in_default
unfolding box_at
returns-in_default c =
    let f = c.next_field.result.0.now in
    let gs = left_of (option_copied c.next_field.result.1) in
    let fs = fields_of c.args.line.now in
    let cut = fields_first c.args.line.now f c.next_field.result.1 c.next_field.ensures.before c.next_field.ensures.after in
    sym (word_unknown box_word (box_rest true) fs f gs cut (sym c.in_default.ensures))

pub returns-in-Split : goal.returns-in-Split
unfolding box_at
returns-in-Split c =
    let f = c.next_field.result.0.now in
    let gs = left_of (option_copied c.next_field.result.1) in
    let fs = fields_of c.args.line.now in
    let cut = fields_first c.args.line.now f c.next_field.result.1 c.next_field.ensures.before c.next_field.ensures.after in
    c.split.ensures ∙ sym (word_known box_word (box_rest true) fs f gs cut Split (sym c.in-Some.ensures ∙ ap Some c.in-Split.is))

pub returns-in-Empty : goal.returns-in-Empty
unfolding box_at
returns-in-Empty c =
    let f = c.next_field.result.0.now in
    let gs = left_of (option_copied c.next_field.result.1) in
    let fs = fields_of c.args.line.now in
    let cut = fields_first c.args.line.now f c.next_field.result.1 c.next_field.ensures.before c.next_field.ensures.after in
    subst (λ (z : Option BNodeOf). IfOk c.empty.result (λ o. option_map bnode_of o ≡ z)) (sym (word_known box_word (box_rest true) fs f gs cut Empty (sym c.in-Some.ensures ∙ ap Some c.in-Empty.is))) (c.empty.ensures)

pub returns-in-Deviate : goal.returns-in-Deviate
unfolding box_at
returns-in-Deviate c =
    let f = c.next_field.result.0.now in
    let gs = left_of (option_copied c.next_field.result.1) in
    let fs = fields_of c.args.line.now in
    let cut = fields_first c.args.line.now f c.next_field.result.1 c.next_field.ensures.before c.next_field.ensures.after in
    subst (λ (z : Option BNodeOf). IfOk c.deviate.result (λ o. option_map bnode_of o ≡ z)) (sym (word_known box_word (box_rest true) fs f gs cut Deviate (sym c.in-Some.ensures ∙ ap Some c.in-Deviate.is))) (c.deviate.ensures)
