use Rattle.zr_gen.proofs.Lists.{gathered}
use Rattle.zr_gen.specs.Packing.{item_meetings}
use Rattle.zr_gen.proofs.packing.meetings.Goals as goal

pub loop-k-preserved : goal.loop-k-preserved
loop-k-preserved c =
    let d = c.args.drawn.now in
    gathered (item_meetings d.players d.items d.draws.number c.args.i) c.loop-k.terms.items
    c.add_item_meetings.new.terms.items c.loop-k.k c.loop-k.invariant
    c.in_ok-add_item_meetings.ensures
