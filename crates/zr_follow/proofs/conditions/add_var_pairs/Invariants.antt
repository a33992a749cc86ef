use Rattle.std.proofs.Common.{◌≡◌, ◌+◌, ◌-◌, ◌++◌, map}
use Rattle.zr_game.specs.Players.{pair_of}
use Rattle.zr_source.specs.Sources.{follower_of}
use Rattle.zr_follow.specs.Expansion.{var_pairs}
use Rattle.zr_follow.proofs.conditions.add_var_pairs.Given as goal

abbrev pub invariant-loop-k : goal.invariant-loop-k
invariant-loop-k l =
    map pair_of l.pairs.items ++ var_pairs l.from (follower_of l.follower) (l.follower.first + l.k) (l.follower.count - l.k) ≡ map pair_of l.initial.pairs.items ++ var_pairs l.from (follower_of l.follower) l.follower.first l.follower.count
