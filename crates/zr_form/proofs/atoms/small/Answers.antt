use Rattle.std.proofs.Common.{arith, true}
use Rattle.zr_form.specs.Numbers.{natural}
use Rattle.zr_form.specs.Fields.{only_if, natural_read}
use Rattle.zr_form.specs.Bounds.{below}
use Rattle.zr_form.proofs.Atomic.{atom_end, atom_none, atom_some, small_some, small_none, small_high}
use Rattle.zr_form.proofs.atoms.small.Goals as goal

pub returns-in_err-left-clause-reads : goal.returns-in_err-left-clause-reads
unfolding natural_read
returns-in_err-left-clause-reads c = rw c.from_residual.ensures (atom_end (λ f. only_if (below true c.args.limit) (natural f)) c.args.left (c.in_err-left.was))

pub returns-in_err-n-clause-reads : goal.returns-in_err-n-clause-reads
unfolding natural_read
returns-in_err-n-clause-reads c = rw c.from_residual-in_err-n.ensures (atom_none (λ f. only_if (below true c.args.limit) (natural f)) c.args.left c.in_ok-left.field-0 c.next_field.result.0.now c.next_field.result.1 (c.in_ok-left.was) c.next_field.ensures.before c.next_field.ensures.after (small_none c.args.limit (natural c.next_field.result.0.now) (omega arith) (c.in_err-n.ensures)))

pub returns-then-n-limit-clause-reads : goal.returns-then-n-limit-clause-reads
unfolding natural_read
returns-then-n-limit-clause-reads c = atom_some (λ f. only_if (below true c.args.limit) (natural f)) c.args.left c.in_ok-left.field-0 c.next_field.result.0.now c.next_field.result.1 c.in_ok-n.n (c.in_ok-left.was) c.next_field.ensures.before c.next_field.ensures.after (small_some c.args.limit (natural c.next_field.result.0.now) c.in_ok-n.n (c.in_ok-n.ensures) (omega arith))

pub returns-else-n-limit-clause-reads : goal.returns-else-n-limit-clause-reads
unfolding natural_read
returns-else-n-limit-clause-reads c = atom_none (λ f. only_if (below true c.args.limit) (natural f)) c.args.left c.in_ok-left.field-0 c.next_field.result.0.now c.next_field.result.1 (c.in_ok-left.was) c.next_field.ensures.before c.next_field.ensures.after (small_high c.args.limit (natural c.next_field.result.0.now) c.in_ok-n.n (c.in_ok-n.ensures) (omega arith))
