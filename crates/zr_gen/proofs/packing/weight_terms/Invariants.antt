use Rattle.std.proofs.Common.{◌≡◌, map, pos}
use Rattle.std.specs.List.{range_with_len}
use Rattle.zr_gen.specs.Packing.{weight}
use Rattle.zr_gen.proofs.packing.weight_terms.Given as goal

abbrev pub invariant-loop-k : goal.invariant-loop-k
invariant-loop-k l = l.terms.items
    ≡ map (λ k. (k, pos (weight l.drawn.players l.drawn.items l.drawn.draws.number l.i k)))
    (range_with_len 0 l.k)
