use Rattle.std.proofs.Common.{rules, ◌≡◌, ap, true, false, ◌∙◌, cond, Some, None}
use Rattle.std.specs.Prelude.{bytes_eq}
use Rattle.std.proofs.lemmas.Bool.{cond-true, cond-false}
use Rattle.std.proofs.lemmas.Slice.Eq.{bytes_eq-Decides}
use Rattle.zr_form.specs.Reading.{Bytes}
use Rattle.zr_form.specs.Fields.{word_read}
use Rattle.zr_form.proofs.Atomic.{atom_end, atom_none, atom_some}
use Rattle.zr_form.proofs.atoms.word.Goals as goal

pub returns-in_err-left : goal.returns-in_err-left
unfolding word_read
returns-in_err-left c = rw c.from_residual.ensures (atom_end (λ f. cond (bytes_eq f c.args.word.now) (Some f) None) c.args.left (c.in_err-left.was))

pub returns-then-eq : goal.returns-then-eq
unfolding word_read
returns-then-eq c =
    let same : bytes_eq c.next_field.result.0.now c.args.word.now ≡ true = search rules in
    let is : c.next_field.result.0.now ≡ c.args.word.now = (bytes_eq-Decides c.next_field.result.0.now c.args.word.now).0 same in
    atom_some (λ f. cond (bytes_eq f c.args.word.now) (Some f) None) c.args.left c.in_ok-left.field-0 c.next_field.result.0.now c.next_field.result.1 c.args.word.now (c.in_ok-left.was) c.next_field.ensures.before c.next_field.ensures.after (cond-true _ _ _ same ∙ ap (λ (z : Bytes). Some z) is)

pub returns-else-eq : goal.returns-else-eq
unfolding word_read
returns-else-eq c =
    let other : bytes_eq c.next_field.result.0.now c.args.word.now ≡ false = search rules in
    atom_none (λ f. cond (bytes_eq f c.args.word.now) (Some f) None) c.args.left c.in_ok-left.field-0 c.next_field.result.0.now c.next_field.result.1 (c.in_ok-left.was) c.next_field.ensures.before c.next_field.ensures.after (cond-false _ _ _ other)
