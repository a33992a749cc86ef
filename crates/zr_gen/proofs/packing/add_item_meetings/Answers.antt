use Rattle.zr_gen.proofs.Lists.{appended}
use Rattle.zr_gen.specs.Packing.{meeting_with}
use Rattle.zr_gen.proofs.packing.add_item_meetings.Goals as goal

pub loop-j-preserved : goal.loop-j-preserved
loop-j-preserved c =
    let d = c.args.drawn.now in
    appended (meeting_with d.players d.items d.draws.number c.args.i c.args.k) c.args.terms.now.items
    c.loop-j.terms.items c.add_meeting.new.terms.items c.loop-j.j c.loop-j.invariant
    c.in_ok-add_meeting.ensures
