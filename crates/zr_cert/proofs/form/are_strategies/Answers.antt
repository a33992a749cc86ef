use Rattle.std.proofs.Common.{arith}
use Rattle.zr_game.proofs.Checks.{all_checked, all_mapped, more_checked, none_checked}
use Rattle.zr_cert.specs.Certs.{mixture_of}
use Rattle.zr_cert.specs.Forms.{IsMixtureForm}
use Rattle.zr_cert.proofs.form.are_strategies.Goals as goal

pub loop-strategy-init : goal.loop-strategy-init
loop-strategy-init c = none_checked (λ k strategy. IsMixtureForm (mixture_of strategy)) c.args.strategies.now

pub loop-strategy-preserved : goal.loop-strategy-preserved
loop-strategy-preserved c =
    more_checked (λ k strategy. IsMixtureForm (mixture_of strategy)) c.args.strategies.now c.loop-strategy.strategy-index c.strategy-item.result c.loop-strategy-test.true c.strategy-item.is c.loop-strategy.all c.loop-strategy.invariant c.is_strategy-all.result c.is_strategy-all.ensures

pub returns : goal.returns
returns c =
    all_mapped mixture_of IsMixtureForm c.args.strategies.now c.loop-strategy.all (all_checked (λ k strategy. IsMixtureForm (mixture_of strategy)) c.args.strategies.now c.loop-strategy.strategy-index c.loop-strategy.all (omega arith) (omega arith) c.loop-strategy.invariant)
