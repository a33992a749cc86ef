use Rattle.std.proofs.Common.{◌≡◌, map}
use Rattle.std.specs.List.{range_with_len}
use Rattle.zr_source.specs.Sources.{leader_of}
use Rattle.zr_gen.specs.Following.{leader_with_follower}
use Rattle.zr_gen.proofs.following.all_leaders.Given as goal

abbrev pub invariant-loop-i : goal.invariant-loop-i
invariant-loop-i l = map leader_of l.list.items
    ≡ map (leader_with_follower l.drawn.players l.drawn.draws.number) (range_with_len 0 l.i)
