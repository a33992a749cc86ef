use Rattle.std.proofs.Common.{map}
use Rattle.zr_game.specs.Players.{var_of}
use Rattle.zr_source.specs.Names.{var_name}
use Rattle.zr_source.specs.Sources.{follower_of}
use Rattle.zr_write.specs.Canonical.{follower_data}
use Rattle.zr_write.proofs.Grown.{Stands}
use Rattle.zr_write.proofs.followers.followers_value.Given as goal

abbrev pub invariant-loop-follower : goal.invariant-loop-follower
invariant-loop-follower l = Stands (λ follower. follower_data (map var_name (map var_of l.vars)) (follower_of follower)) l.followers l.follower-index l.items.items
