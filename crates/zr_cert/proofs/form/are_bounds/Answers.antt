use Rattle.std.proofs.Common.{arith}
use Rattle.zr_game.proofs.Checks.{all_checked, all_mapped, more_checked, none_checked}
use Rattle.zr_cert.specs.Certs.{bound_of}
use Rattle.zr_cert.specs.Forms.{IsBoundForm}
use Rattle.zr_cert.proofs.form.are_bounds.Goals as goal

pub loop-bound-init : goal.loop-bound-init
loop-bound-init c = none_checked (λ k bound. IsBoundForm (bound_of bound)) c.args.bounds.now

pub loop-bound-preserved : goal.loop-bound-preserved
loop-bound-preserved c =
    more_checked (λ k bound. IsBoundForm (bound_of bound)) c.args.bounds.now c.loop-bound.bound-index c.bound-item.result c.loop-bound-test.true c.bound-item.is c.loop-bound.all c.loop-bound.invariant c.is_bound-all.result c.is_bound-all.ensures

pub returns : goal.returns
returns c =
    all_mapped bound_of IsBoundForm c.args.bounds.now c.loop-bound.all (all_checked (λ k bound. IsBoundForm (bound_of bound)) c.args.bounds.now c.loop-bound.bound-index c.loop-bound.all (omega arith) (omega arith) c.loop-bound.invariant)
