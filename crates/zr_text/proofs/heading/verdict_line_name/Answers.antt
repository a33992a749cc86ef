use Rattle.std.proofs.Common.{rules, ◌≡◌, ◌∙◌, true, false}
use Rattle.std.specs.Prelude.{bytes_eq, codes}
use Rattle.std.proofs.lemmas.Bool.{cond-true, cond-false}
use Rattle.zr_form.proofs.Atomic.{atom_end, atom_none, atom_some}
use Rattle.zr_text.specs.Reader.{verdict_line_word}
use Rattle.zr_text.proofs.heading.verdict_line_name.Goals as goal

pub returns-in_err-left : goal.returns-in_err-left
returns-in_err-left c = rw c.from_residual.ensures (atom_end verdict_line_word c.args.left c.in_err-left.was)

pub returns-then-eq : goal.returns-then-eq
returns-then-eq c =
    let a : bytes_eq c.next_field.result.0.now (codes "profile") ≡ true = search rules in
    atom_some verdict_line_word c.args.left c.in_ok-left.field-0 c.next_field.result.0.now c.next_field.result.1 true c.in_ok-left.was c.next_field.ensures.before c.next_field.ensures.after (cond-true _ _ _ a)

pub returns-then-eq-2 : goal.returns-then-eq-2
returns-then-eq-2 c =
    let a : bytes_eq c.next_field.result.0.now (codes "profile") ≡ false = search rules in
    let b : bytes_eq c.next_field.result.0.now (codes "none") ≡ true = search rules in
    atom_some verdict_line_word c.args.left c.in_ok-left.field-0 c.next_field.result.0.now c.next_field.result.1 false c.in_ok-left.was c.next_field.ensures.before c.next_field.ensures.after (cond-false _ _ _ a ∙ cond-true _ _ _ b)

pub returns : goal.returns
returns c =
    let a : bytes_eq c.next_field.result.0.now (codes "profile") ≡ false = search rules in
    let b : bytes_eq c.next_field.result.0.now (codes "none") ≡ false = search rules in
    atom_none verdict_line_word c.args.left c.in_ok-left.field-0 c.next_field.result.0.now c.next_field.result.1 c.in_ok-left.was c.next_field.ensures.before c.next_field.ensures.after (cond-false _ _ _ a ∙ cond-false _ _ _ b)
