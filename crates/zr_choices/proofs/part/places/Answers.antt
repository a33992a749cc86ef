use Rattle.std.proofs.Common.{◌≡◌, arith, length}
use Rattle.zr_choices.specs.Parted.{place}
use Rattle.zr_choices.specs.Programs.{free_in}
use Rattle.zr_choices.proofs.Placing.{firsts_end}
use Rattle.zr_choices.proofs.part.places.Goals as goal

pub returns : goal.returns
returns c =
    let order = c.args.order.now in
    let k = c.loop-u.u-index in
    let e : k ≡ length
    order = (let past = c.loop-u-test.false in let within = c.loop-u.auto.u-index-end in omega
    (arith, past, within)) in
    firsts_end (length order) k c.loop-u.next (place (free_in order)) c.loop-u.list.items
    c.push-2.new.self.items e c.loop-u.invariant.list c.loop-u.invariant.next
    c.in_ok-push-2.ensures.items
