use Rattle.std.proofs.Common.{◌≡◌, ◌+◌, drop, map}
use Rattle.zr_source.specs.Sources.{follower_of}
use Rattle.zr_follow.specs.Expansion.{added_pairs}
use Rattle.zr_follow.proofs.counts.pair_count.Given as goal

abbrev pub invariant-loop-follower : goal.invariant-loop-follower
invariant-loop-follower l =
    l.sum + added_pairs (map follower_of (drop l.follower-index l.followers)) ≡ added_pairs (map follower_of l.followers)
