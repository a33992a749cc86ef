use Rattle.zr_game.proofs.Checks.{Checked}
use Rattle.zr_cert.specs.Certs.{bound_of}
use Rattle.zr_cert.specs.Forms.{IsBoundForm}
use Rattle.zr_cert.proofs.form.are_bounds.Given as goal

abbrev pub invariant-loop-bound : goal.invariant-loop-bound
invariant-loop-bound l = Checked l.bound-index (λ k bound. IsBoundForm (bound_of bound)) l.bounds l.all
