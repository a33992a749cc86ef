use Rattle.std.proofs.Common.{arith}
use Rattle.zr_game.proofs.Checks.{all_checked, all_mapped, more_checked, none_checked}
use Rattle.zr_game.specs.Named.{named_of}
use Rattle.zr_check.specs.Covers.{IsItemOfLength}
use Rattle.zr_check.proofs.cover_room.are_of_length.Goals as goal

pub loop-item-init : goal.loop-item-init
loop-item-init c =
    none_checked (λ k item. IsItemOfLength c.args.vars (named_of item)) c.args.items.now

pub loop-item-preserved : goal.loop-item-preserved
loop-item-preserved c =
    more_checked (λ k item. IsItemOfLength c.args.vars (named_of item)) c.args.items.now
    c.loop-item.item-index c.item-item.result c.loop-item-test.true c.item-item.is
    c.loop-item.all c.loop-item.invariant c.is_of_length-all.result c.is_of_length-all.ensures

pub returns : goal.returns
returns c =
    all_mapped named_of (IsItemOfLength c.args.vars) c.args.items.now c.loop-item.all
    (all_checked (λ k item. IsItemOfLength c.args.vars (named_of item)) c.args.items.now
    c.loop-item.item-index c.loop-item.all (omega arith) (omega arith) c.loop-item.invariant)
