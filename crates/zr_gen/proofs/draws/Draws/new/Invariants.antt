use Rattle.std.proofs.Common.{◌≡◌, map}
use Rattle.std.specs.List.{range_with_len}
use Rattle.zr_gen.specs.Draws.{head, state}
use Rattle.zr_gen.proofs.draws.Draws.new.Given as goal

abbrev pub invariant-loop : goal.invariant-loop
invariant-loop l = record {
  state : l.state ≡ state l.number l.counter;
  heads : l.heads.items ≡ map (head l.number) (range_with_len 1 l.counter);
}
