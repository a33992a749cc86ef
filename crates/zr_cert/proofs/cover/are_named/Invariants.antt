use Rattle.zr_game.proofs.Checks.{Checked}
use Rattle.zr_game.specs.Named.{named_of}
use Rattle.zr_cert.specs.Forms.{IsNamedForm}
use Rattle.zr_cert.proofs.cover.are_named.Given as goal

abbrev pub invariant-loop-item : goal.invariant-loop-item
invariant-loop-item l = Checked l.item-index (λ k item. IsNamedForm (named_of item)) l.items l.all
