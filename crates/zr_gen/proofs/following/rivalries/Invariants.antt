use Rattle.std.proofs.Common.{◌≡◌}
use Rattle.std.specs.List.{flat_map, range_with_len}
use Rattle.zr_gen.specs.Following.{rivalry_with}
use Rattle.zr_gen.proofs.following.rivalries.Given as goal

abbrev pub invariant-loop-j : goal.invariant-loop-j
invariant-loop-j l = l.terms.items
    ≡ flat_map (rivalry_with l.drawn.players l.drawn.draws.number l.i) (range_with_len 0 l.j)
