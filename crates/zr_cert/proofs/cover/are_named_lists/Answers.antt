use Rattle.std.proofs.Common.{arith}
use Rattle.zr_game.proofs.Checks.{all_checked, all_mapped, more_checked, none_checked}
use Rattle.zr_cert.specs.Certs.{named_list}
use Rattle.zr_cert.specs.Forms.{AreNamed}
use Rattle.zr_cert.proofs.cover.are_named_lists.Goals as goal

pub loop-items-init : goal.loop-items-init
loop-items-init c = none_checked (λ k items. AreNamed (named_list items)) c.args.named.now

pub loop-items-preserved : goal.loop-items-preserved
loop-items-preserved c =
    more_checked (λ k items. AreNamed (named_list items)) c.args.named.now c.loop-items.items-index c.items-item.result c.loop-items-test.true c.items-item.is c.loop-items.all c.loop-items.invariant c.are_named-all.result (rw c.deref.ensures.value at c.are_named-all.ensures)

pub returns : goal.returns
returns c =
    all_mapped named_list AreNamed c.args.named.now c.loop-items.all (all_checked (λ k items. AreNamed (named_list items)) c.args.named.now c.loop-items.items-index c.loop-items.all (omega arith) (omega arith) c.loop-items.invariant)
