use Rattle.zr_game.proofs.Checks.{Checked}
use Rattle.zr_cert.specs.Certs.{named_list}
use Rattle.zr_cert.specs.Forms.{AreNamed}
use Rattle.zr_cert.proofs.cover.are_named_lists.Given as goal

abbrev pub invariant-loop-items : goal.invariant-loop-items
invariant-loop-items l = Checked l.items-index (λ k items. AreNamed (named_list items)) l.named l.all
