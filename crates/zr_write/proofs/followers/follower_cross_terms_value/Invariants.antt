use Rattle.std.proofs.Common.{map}
use Rattle.zr_game.specs.Players.{var_of}
use Rattle.zr_source.specs.Names.{var_name}
use Rattle.zr_write.specs.Canonical.{follower_cross_data}
use Rattle.zr_write.proofs.Grown.{Stands}
use Rattle.zr_write.proofs.followers.follower_cross_terms_value.Given as goal

abbrev pub invariant-loop-own : goal.invariant-loop-own
invariant-loop-own l = Stands (follower_cross_data (map var_name (map var_of l.vars))) l.terms l.own-index l.items.items
