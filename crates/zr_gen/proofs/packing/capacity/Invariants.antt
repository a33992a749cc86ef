use Rattle.std.proofs.Common.{◌≡◌, ◌*◌, ◌≤◌}
use Rattle.std.specs.List.{range_with_len, sum_by}
use Rattle.zr_gen.specs.Packing.{weight}
use Rattle.zr_gen.proofs.packing.capacity.Given as goal

abbrev pub invariant-loop-k : goal.invariant-loop-k
invariant-loop-k l = record {
  sum : l.sum ≡ sum_by (weight l.drawn.players l.drawn.items l.drawn.draws.number l.i)
      (range_with_len 0 l.k);
  most : l.sum ≤ 20 * l.k;
}
