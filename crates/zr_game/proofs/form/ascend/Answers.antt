use Rattle.std.proofs.Common.{pos}
use Rattle.zr_game.specs.Forms.{cross_order}
use Rattle.zr_game.specs.declared.player.CrossTerm.{CrossTerm}
use Rattle.zr_game.proofs.Sorted.{in_order, more_order, none_order}
use Rattle.zr_game.proofs.TermOrders.{cross_follows}
use Rattle.zr_game.proofs.form.ascend.Goals as goal

pub loop-k-init : goal.loop-k-init
loop-k-init c = none_order cross_order c.args.cross.now

pub loop-k-preserved : goal.loop-k-preserved
loop-k-preserved c =
    let d : CrossTerm = record { own = 0; player = 0; var = 0; coef = pos 0 } in
    let within = c.loop-k-test.true in
    more_order cross_order c.args.cross.now c.loop-k.k d c.loop-k.auto.k within c.loop-k.all
    c.loop-k.invariant c.is_before-all.result c.is_before-all.ensures

pub returns : goal.returns
returns c =
    let end = c.loop-k-test.false in
    in_order cross_order cross_follows c.args.cross.now c.loop-k.k c.loop-k.all end
    c.loop-k.invariant
