use Rattle.std.proofs.Common.{◌≡◌, ◌∙◌, ap, sym, subst, true, Option, Some}
use Rattle.std.specs.Prelude.{option_copied, option_map, IfOk}
use Rattle.zr_form.specs.Code.{left_of}
use Rattle.zr_form.specs.Lines.{fields_of}
use Rattle.zr_form.proofs.Parsing.{fields_first}
use Rattle.zr_lines.specs.declared.words.CaseWord.TheVariants.{OnOff, Row, Which, Close}
use Rattle.zr_lines.specs.Reader.{case_at, case_rest}
use Rattle.zr_lines.specs.Words.{case_word}
use Rattle.zr_lines.proofs.Worded.{word_known, word_unknown}
use Rattle.zr_cases.specs.Cases.{RNodeOf, rnode_of}
use Rattle.zr_lines.proofs.case_lines.case.Goals as goal

pub returns-in_default : goal.returns-in_default
unfolding case_at
returns-in_default c =
    let f = c.next_field.result.0.now in
    let gs = left_of (option_copied c.next_field.result.1) in
    let fs = fields_of c.args.line.now in
    let cut = fields_first c.args.line.now f c.next_field.result.1 c.next_field.ensures.before c.next_field.ensures.after in
    sym (word_unknown case_word (case_rest true c.args.players) fs f gs cut (sym c.in_default.ensures))

pub returns-in-OnOff : goal.returns-in-OnOff
unfolding case_at
returns-in-OnOff c =
    let f = c.next_field.result.0.now in
    let gs = left_of (option_copied c.next_field.result.1) in
    let fs = fields_of c.args.line.now in
    let cut = fields_first c.args.line.now f c.next_field.result.1 c.next_field.ensures.before c.next_field.ensures.after in
    c.on_off.ensures c.args.players ∙ sym (word_known case_word (case_rest true c.args.players) fs f gs cut OnOff (sym c.in-Some.ensures ∙ ap Some c.in-OnOff.is))

pub returns-in-Row : goal.returns-in-Row
unfolding case_at
returns-in-Row c =
    let f = c.next_field.result.0.now in
    let gs = left_of (option_copied c.next_field.result.1) in
    let fs = fields_of c.args.line.now in
    let cut = fields_first c.args.line.now f c.next_field.result.1 c.next_field.ensures.before c.next_field.ensures.after in
    c.row.ensures c.args.players ∙ sym (word_known case_word (case_rest true c.args.players) fs f gs cut Row (sym c.in-Some.ensures ∙ ap Some c.in-Row.is))

pub returns-in-Which : goal.returns-in-Which
unfolding case_at
returns-in-Which c =
    let f = c.next_field.result.0.now in
    let gs = left_of (option_copied c.next_field.result.1) in
    let fs = fields_of c.args.line.now in
    let cut = fields_first c.args.line.now f c.next_field.result.1 c.next_field.ensures.before c.next_field.ensures.after in
    c.which.ensures ∙ sym (word_known case_word (case_rest true c.args.players) fs f gs cut Which (sym c.in-Some.ensures ∙ ap Some c.in-Which.is))

pub returns-in-Close : goal.returns-in-Close
unfolding case_at
returns-in-Close c =
    let f = c.next_field.result.0.now in
    let gs = left_of (option_copied c.next_field.result.1) in
    let fs = fields_of c.args.line.now in
    let cut = fields_first c.args.line.now f c.next_field.result.1 c.next_field.ensures.before c.next_field.ensures.after in
    subst (λ (z : Option RNodeOf). IfOk c.close.result (λ o. option_map rnode_of o ≡ z)) (sym (word_known case_word (case_rest true c.args.players) fs f gs cut Close (sym c.in-Some.ensures ∙ ap Some c.in-Close.is))) (c.close.ensures c.args.players)
