use Rattle.std.proofs.Common.{◌≡◌, ◌++◌, filter, map}
use Rattle.zr_value.specs.Terms.{is_term}
use Rattle.zr_read.specs.Followers.{follower_cross_of}
use Rattle.zr_read.proofs.followers.without_zeros.Given as goal

abbrev pub invariant-loop-own : goal.invariant-loop-own
invariant-loop-own l =
    l.kept.items ++ map follower_cross_of (filter is_term l.own-iterator)
    ≡ map follower_cross_of (filter is_term l.fn.all.entries)
