use Rattle.std.proofs.Common.{rules, sym, FitsSigned, true}
use Rattle.std.specs.Int.{w128}
use Rattle.std.proofs.lemmas.Int.{to_z-of_z}
use Rattle.zr_form.specs.Numbers.{integer}
use Rattle.zr_form.specs.Fields.{only_if, integer_read}
use Rattle.zr_form.specs.Bounds.{is_narrow}
use Rattle.zr_form.proofs.Atomic.{atom_end, atom_none, atom_some}
use Rattle.zr_form.proofs.atoms.signed.Goals as goal

pub returns-in_err-left : goal.returns-in_err-left
unfolding integer_read
returns-in_err-left c = rw c.from_residual.ensures (atom_end (λ f. only_if (is_narrow true) (integer f)) c.args.left (c.in_err-left.was))

pub returns-in_err-n : goal.returns-in_err-n
unfolding integer_read
returns-in_err-n c = rw c.from_residual-in_err-n.ensures (atom_none (λ f. only_if (is_narrow true) (integer f)) c.args.left c.in_ok-left.field-0 c.next_field.result.0.now c.next_field.result.1 (c.in_ok-left.was) c.next_field.ensures.before c.next_field.ensures.after (sym (c.in_err-n.ensures)))

pub returns : goal.returns
unfolding integer_read
returns c =
    let f : FitsSigned w128 c.in_ok-n.n = search rules in
    simp to_z-of_z (atom_some (λ f. only_if (is_narrow true) (integer f)) c.args.left c.in_ok-left.field-0 c.next_field.result.0.now c.next_field.result.1 c.in_ok-n.n (c.in_ok-left.was) c.next_field.ensures.before c.next_field.ensures.after (sym (c.in_ok-n.ensures)))
