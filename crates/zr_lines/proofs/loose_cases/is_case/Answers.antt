use Rattle.std.proofs.Common.{◌^◌, ◌<◌, ◌∙◌, ap, arith, length, rules, sym, false, Some}
use Rattle.std.specs.Prelude.{option_copied, is_some}
use Rattle.zr_form.specs.Code.{left_of}
use Rattle.zr_form.specs.Lines.{fields_of}
use Rattle.zr_form.proofs.Parsing.{fields_first}
use Rattle.zr_lines.specs.declared.words.CaseWord.TheVariants.{OnOff, Row, Which, Close}
use Rattle.zr_lines.specs.Reader.{case_at, case_rest}
use Rattle.zr_lines.specs.Words.{case_word}
use Rattle.zr_lines.proofs.LooseSteps.{fields_fit}
use Rattle.zr_lines.proofs.Worded.{word_known, word_unknown}
use Rattle.zr_lines.proofs.loose_cases.is_case.Goals as goal

pub returns-in_default : goal.returns-in_default
unfolding case_at
returns-in_default c =
    let f = c.next_field.result.0.now in
    let gs = left_of (option_copied c.next_field.result.1) in
    let fs = fields_of c.args.line.now in
    let cut = fields_first c.args.line.now f c.next_field.result.1 c.next_field.ensures.before c.next_field.ensures.after in
    ap is_some (sym (word_unknown case_word (case_rest false c.args.players) fs f gs cut (sym c.in_default.ensures)))

pub returns-in-OnOff : goal.returns-in-OnOff
unfolding case_at
returns-in-OnOff c =
    let f = c.next_field.result.0.now in
    let gs = left_of (option_copied c.next_field.result.1) in
    let fs = fields_of c.args.line.now in
    let cut = fields_first c.args.line.now f c.next_field.result.1 c.next_field.ensures.before c.next_field.ensures.after in
    c.is_on_off.ensures c.args.players ∙ ap is_some (sym (word_known case_word (case_rest false c.args.players) fs f gs cut OnOff (sym c.in-Some.ensures ∙ ap Some c.in-OnOff.is)))

pub returns-in-Row : goal.returns-in-Row
unfolding case_at
returns-in-Row c =
    let f = c.next_field.result.0.now in
    let gs = left_of (option_copied c.next_field.result.1) in
    let fs = fields_of c.args.line.now in
    let cut = fields_first c.args.line.now f c.next_field.result.1 c.next_field.ensures.before c.next_field.ensures.after in
    c.is_row.ensures c.args.players ∙ ap is_some (sym (word_known case_word (case_rest false c.args.players) fs f gs cut Row (sym c.in-Some.ensures ∙ ap Some c.in-Row.is)))

pub returns-in-Which : goal.returns-in-Which
unfolding case_at
returns-in-Which c =
    let f = c.next_field.result.0.now in
    let gs = left_of (option_copied c.next_field.result.1) in
    let fs = fields_of c.args.line.now in
    let cut = fields_first c.args.line.now f c.next_field.result.1 c.next_field.ensures.before c.next_field.ensures.after in
    c.is_which.ensures ∙ ap is_some (sym (word_known case_word (case_rest false c.args.players) fs f gs cut Which (sym c.in-Some.ensures ∙ ap Some c.in-Which.is)))

pub returns-in-Close : goal.returns-in-Close
unfolding case_at
returns-in-Close c =
    let f = c.next_field.result.0.now in
    let gs = left_of (option_copied c.next_field.result.1) in
    let fs = fields_of c.args.line.now in
    let cut = fields_first c.args.line.now f c.next_field.result.1 c.next_field.ensures.before c.next_field.ensures.after in
    c.is_close.ensures c.args.players ∙ ap is_some (sym (word_known case_word (case_rest false c.args.players) fs f gs cut Close (sym c.in-Some.ensures ∙ ap Some c.in-Close.is)))

pub is_close-requires : goal.is_close-requires
is_close-requires c =
    let e = fields_first c.args.line.now c.next_field.result.0.now c.next_field.result.1 c.next_field.ensures.before c.next_field.ensures.after in
    let few : length c.args.line.now < 2 ^ 64 = search rules in
    omega (arith, ap length e, fields_fit c.args.line.now, few)
