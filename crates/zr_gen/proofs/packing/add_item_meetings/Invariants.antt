use Rattle.std.proofs.Common.{◌≡◌, ◌++◌}
use Rattle.std.specs.List.{flat_map, range_with_len}
use Rattle.zr_gen.specs.Packing.{meeting_with}
use Rattle.zr_gen.proofs.packing.add_item_meetings.Given as goal

abbrev pub invariant-loop-j : goal.invariant-loop-j
invariant-loop-j l = l.terms.items ≡ l.initial.terms.items
    ++ flat_map (meeting_with l.drawn.players l.drawn.items l.drawn.draws.number l.i l.k)
    (range_with_len 0 l.j)
