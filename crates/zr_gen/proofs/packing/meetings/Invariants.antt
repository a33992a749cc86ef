use Rattle.std.proofs.Common.{◌≡◌}
use Rattle.std.specs.List.{flat_map, range_with_len}
use Rattle.zr_gen.specs.Packing.{item_meetings}
use Rattle.zr_gen.proofs.packing.meetings.Given as goal

abbrev pub invariant-loop-k : goal.invariant-loop-k
invariant-loop-k l = l.terms.items
    ≡ flat_map (item_meetings l.drawn.players l.drawn.items l.drawn.draws.number l.i)
    (range_with_len 0 l.k)
