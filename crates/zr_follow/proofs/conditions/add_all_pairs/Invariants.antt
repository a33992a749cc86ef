use Rattle.std.proofs.Common.{◌≡◌, ◌+◌, ◌++◌, drop, map}
use Rattle.zr_game.specs.Players.{pair_of}
use Rattle.zr_source.specs.Sources.{follower_of}
use Rattle.zr_follow.specs.Expansion.{all_pairs, multipliers}
use Rattle.zr_follow.proofs.conditions.add_all_pairs.Given as goal

abbrev pub invariant-loop-follower : goal.invariant-loop-follower
invariant-loop-follower l = record {
  column : l.at + multipliers (map follower_of (drop l.follower-index l.followers)) ≡ l.from + multipliers (map follower_of l.followers);
  made : map pair_of l.pairs.items ++ all_pairs l.at (map follower_of (drop l.follower-index l.followers)) ≡ map pair_of l.initial.pairs.items ++ all_pairs l.from (map follower_of l.followers);
}
