use Rattle.zr_game.proofs.Checks.{Checked}
use Rattle.zr_cert.specs.Certs.{mixture_of}
use Rattle.zr_cert.specs.Forms.{IsMixtureForm}
use Rattle.zr_cert.proofs.form.are_strategies.Given as goal

abbrev pub invariant-loop-strategy : goal.invariant-loop-strategy
invariant-loop-strategy l = Checked l.strategy-index (λ k strategy. IsMixtureForm (mixture_of strategy)) l.strategies l.all
