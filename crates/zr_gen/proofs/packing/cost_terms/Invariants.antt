use Rattle.std.proofs.Common.{◌≡◌, map, pos, neg_ℤ}
use Rattle.std.specs.List.{range_with_len}
use Rattle.zr_gen.specs.Packing.{gain}
use Rattle.zr_gen.proofs.packing.cost_terms.Given as goal

abbrev pub invariant-loop-k : goal.invariant-loop-k
invariant-loop-k l = l.terms.items
    ≡ map (λ k. (k, neg_ℤ (pos (gain l.drawn.players l.drawn.items l.drawn.draws.number l.i k))))
    (range_with_len 0 l.k)
