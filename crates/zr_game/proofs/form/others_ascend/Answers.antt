use Rattle.std.proofs.Common.{pos, None}
use Rattle.zr_game.specs.Forms.{other_order}
use Rattle.zr_game.specs.declared.player.Other.{Other}
use Rattle.zr_game.proofs.Sorted.{in_order, more_order, none_order}
use Rattle.zr_game.proofs.TermOrders.{other_follows}
use Rattle.zr_game.proofs.form.others_ascend.Goals as goal

pub loop-k-init : goal.loop-k-init
loop-k-init c = none_order other_order c.args.others.now

pub loop-k-preserved : goal.loop-k-preserved
loop-k-preserved c =
    let d : Other = record { first = (0, 0); second = None; coef = pos 0 } in
    let within = c.loop-k-test.true in
    more_order other_order c.args.others.now c.loop-k.k d c.loop-k.auto.k within c.loop-k.all
    c.loop-k.invariant c.is_other_before-all.result c.is_other_before-all.ensures

pub returns : goal.returns
returns c =
    let end = c.loop-k-test.false in
    in_order other_order other_follows c.args.others.now c.loop-k.k c.loop-k.all end
    c.loop-k.invariant
