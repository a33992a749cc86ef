use Rattle.std.proofs.Common.{◌≡◌, ◌∙◌, ap, sym, subst, true, Option, Some}
use Rattle.std.specs.Prelude.{option_copied, option_map, IfOk}
use Rattle.zr_form.specs.Code.{left_of}
use Rattle.zr_form.specs.Lines.{fields_of}
use Rattle.zr_form.proofs.Parsing.{fields_first}
use Rattle.zr_lines.specs.declared.words.NodeWord.TheVariants.{Split, Choose, Leaf, Known, Loose}
use Rattle.zr_lines.specs.Reader.{node_at, node_rest}
use Rattle.zr_lines.specs.Words.{node_word}
use Rattle.zr_lines.proofs.Worded.{word_known, word_unknown}
use Rattle.zr_tree.specs.Nodes.{NodeOf, node_of}
use Rattle.zr_lines.proofs.node.node.Goals as goal

pub returns-in_default : goal.returns-in_default
unfolding node_at
returns-in_default c =
    let f = c.next_field.result.0.now in
    let gs = left_of (option_copied c.next_field.result.1) in
    let fs = fields_of c.args.line.now in
    let cut = fields_first c.args.line.now f c.next_field.result.1 c.next_field.ensures.before c.next_field.ensures.after in
    sym (word_unknown node_word (node_rest true c.args.ends) fs f gs cut (sym c.in_default.ensures))

pub returns-in-Split : goal.returns-in-Split
unfolding node_at
returns-in-Split c =
    let f = c.next_field.result.0.now in
    let gs = left_of (option_copied c.next_field.result.1) in
    let fs = fields_of c.args.line.now in
    let cut = fields_first c.args.line.now f c.next_field.result.1 c.next_field.ensures.before c.next_field.ensures.after in
    c.split.ensures c.args.ends ∙ sym (word_known node_word (node_rest true c.args.ends) fs f gs cut Split (sym c.in-Some.ensures ∙ ap Some c.in-Split.is))

pub returns-in-Choose : goal.returns-in-Choose
unfolding node_at
returns-in-Choose c =
    let f = c.next_field.result.0.now in
    let gs = left_of (option_copied c.next_field.result.1) in
    let fs = fields_of c.args.line.now in
    let cut = fields_first c.args.line.now f c.next_field.result.1 c.next_field.ensures.before c.next_field.ensures.after in
    c.choose.ensures c.args.ends ∙ sym (word_known node_word (node_rest true c.args.ends) fs f gs cut Choose (sym c.in-Some.ensures ∙ ap Some c.in-Choose.is))

pub returns-in-Leaf : goal.returns-in-Leaf
unfolding node_at
returns-in-Leaf c =
    let f = c.next_field.result.0.now in
    let gs = left_of (option_copied c.next_field.result.1) in
    let fs = fields_of c.args.line.now in
    let cut = fields_first c.args.line.now f c.next_field.result.1 c.next_field.ensures.before c.next_field.ensures.after in
    subst (λ (z : Option NodeOf). IfOk c.leaf.result (λ o. option_map node_of o ≡ z)) (sym (word_known node_word (node_rest true c.args.ends) fs f gs cut Leaf (sym c.in-Some.ensures ∙ ap Some c.in-Leaf.is))) (c.leaf.ensures)

pub returns-in-Known : goal.returns-in-Known
unfolding node_at
returns-in-Known c =
    let f = c.next_field.result.0.now in
    let gs = left_of (option_copied c.next_field.result.1) in
    let fs = fields_of c.args.line.now in
    let cut = fields_first c.args.line.now f c.next_field.result.1 c.next_field.ensures.before c.next_field.ensures.after in
    subst (λ (z : Option NodeOf). IfOk c.known.result (λ o. option_map node_of o ≡ z)) (sym (word_known node_word (node_rest true c.args.ends) fs f gs cut Known (sym c.in-Some.ensures ∙ ap Some c.in-Known.is))) (c.known.ensures)

pub returns-in-Loose : goal.returns-in-Loose
unfolding node_at
returns-in-Loose c =
    let f = c.next_field.result.0.now in
    let gs = left_of (option_copied c.next_field.result.1) in
    let fs = fields_of c.args.line.now in
    let cut = fields_first c.args.line.now f c.next_field.result.1 c.next_field.ensures.before c.next_field.ensures.after in
    c.loose.ensures ∙ sym (word_known node_word (node_rest true c.args.ends) fs f gs cut Loose (sym c.in-Some.ensures ∙ ap Some c.in-Loose.is))
