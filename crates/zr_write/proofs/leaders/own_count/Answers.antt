use Rattle.std.proofs.Common.{length, sym}
use Rattle.std.proofs.lemmas.Bool.{ltb-true}
use Rattle.zr_write.proofs.Grown.{first_is}
use Rattle.zr_write.proofs.leaders.own_count.Goals as goal

pub returns-in-Some : goal.returns-in-Some
returns-in-Some c =
    let here = ltb-true 0 (length c.args.followers.now) (sym c.in-Some.ensures.lookup.0) in
    sym (first_is c.args.columns c.args.followers.now c.in-Some.follower.now here c.in-Some.ensures.lookup.1)
