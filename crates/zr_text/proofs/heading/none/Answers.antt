use Rattle.std.proofs.Common.{◌∙◌, ap, sym, true, Option, Some, Bor}
use Rattle.std.specs.Prelude.{option_copied}
use Rattle.zr_form.specs.Code.{left_of}
use Rattle.zr_form.specs.Reading.{Bytes}
use Rattle.zr_form.proofs.Parsing.{fields_first}
use Rattle.zr_lines.proofs.Worded.{word_absent, word_known, word_unknown}
use Rattle.zr_text.specs.declared.words.NoneWord.TheVariants.{Cover, Empty, Boxes}
use Rattle.zr_text.specs.Reader.{none_at, none_rest, none_word}
use Rattle.zr_text.proofs.heading.none.Goals as goal

pub returns-in_default : goal.returns-in_default
unfolding none_at
returns-in_default c =
    sym (word_absent none_word (none_rest true) (left_of (option_copied c.args.left)) (ap (λ (o : Option (Bor Bytes)). left_of (option_copied o)) c.in_default.is))

pub returns-in_default-none_word : goal.returns-in_default-none_word
unfolding none_at
returns-in_default-none_word c =
    let f = c.next_field.result.0.now in
    let gs = left_of (option_copied c.next_field.result.1) in
    let fs = left_of (option_copied c.args.left) in
    let cut = ap (λ (o : Option (Bor Bytes)). left_of (option_copied o)) c.in-Some.is ∙ fields_first c.in-Some.line.now f c.next_field.result.1 c.next_field.ensures.before c.next_field.ensures.after in
    sym (word_unknown none_word (none_rest true) fs f gs cut (sym c.in_default-none_word.ensures))

pub returns-in-Cover : goal.returns-in-Cover
unfolding none_at
returns-in-Cover c =
    let f = c.next_field.result.0.now in
    let gs = left_of (option_copied c.next_field.result.1) in
    let fs = left_of (option_copied c.args.left) in
    let cut = ap (λ (o : Option (Bor Bytes)). left_of (option_copied o)) c.in-Some.is ∙ fields_first c.in-Some.line.now f c.next_field.result.1 c.next_field.ensures.before c.next_field.ensures.after in
    c.cover.ensures ∙ sym (word_known none_word (none_rest true) fs f gs cut Cover (sym c.in-Some-none_word.ensures ∙ ap Some c.in-Cover.is))

pub returns-in-Empty : goal.returns-in-Empty
unfolding none_at
returns-in-Empty c =
    let f = c.next_field.result.0.now in
    let gs = left_of (option_copied c.next_field.result.1) in
    let fs = left_of (option_copied c.args.left) in
    let cut = ap (λ (o : Option (Bor Bytes)). left_of (option_copied o)) c.in-Some.is ∙ fields_first c.in-Some.line.now f c.next_field.result.1 c.next_field.ensures.before c.next_field.ensures.after in
    c.empty.ensures ∙ sym (word_known none_word (none_rest true) fs f gs cut Empty (sym c.in-Some-none_word.ensures ∙ ap Some c.in-Empty.is))

pub returns-in-Boxes : goal.returns-in-Boxes
unfolding none_at
returns-in-Boxes c =
    let f = c.next_field.result.0.now in
    let gs = left_of (option_copied c.next_field.result.1) in
    let fs = left_of (option_copied c.args.left) in
    let cut = ap (λ (o : Option (Bor Bytes)). left_of (option_copied o)) c.in-Some.is ∙ fields_first c.in-Some.line.now f c.next_field.result.1 c.next_field.ensures.before c.next_field.ensures.after in
    c.boxes.ensures ∙ sym (word_known none_word (none_rest true) fs f gs cut Boxes (sym c.in-Some-none_word.ensures ∙ ap Some c.in-Boxes.is))
