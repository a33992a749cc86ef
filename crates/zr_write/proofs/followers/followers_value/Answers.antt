use Rattle.std.proofs.Common.{map}
use Rattle.zr_game.specs.Players.{var_of}
use Rattle.zr_source.specs.Names.{var_name}
use Rattle.zr_source.specs.Sources.{follower_of}
use Rattle.zr_write.specs.Canonical.{follower_data}
use Rattle.zr_write.proofs.Grown.{whole_by}
use Rattle.zr_write.proofs.followers.followers_value.Goals as goal

pub returns : goal.returns
returns c = whole_by (follower_data (map var_name (map var_of c.args.vars.now))) follower_of c.args.followers.now c.loop-follower.follower-index c.loop-follower.items c.loop-follower-test.false c.loop-follower.invariant
