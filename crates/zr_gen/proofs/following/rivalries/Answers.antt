use Rattle.zr_gen.proofs.Lists.{gathered}
use Rattle.zr_gen.specs.Following.{rivalry_with}
use Rattle.zr_gen.proofs.following.rivalries.Goals as goal

pub loop-j-preserved : goal.loop-j-preserved
loop-j-preserved c =
    let d = c.args.drawn.now in
    gathered (rivalry_with d.players d.draws.number c.args.i) c.loop-j.terms.items
    c.add_rivalry.new.terms.items c.loop-j.j c.loop-j.invariant c.in_ok-add_rivalry.ensures
