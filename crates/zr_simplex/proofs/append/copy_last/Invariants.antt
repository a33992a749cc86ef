use Rattle.std.proofs.Common.{◌≡◌, ◌++◌, take, drop}
use Rattle.std.specs.List.{All}
use Rattle.zr_base.specs.Steps.{IsNarrow}
use Rattle.zr_simplex.proofs.append.copy_last.Given as goal

abbrev pub invariant-loop-k : goal.invariant-loop-k
invariant-loop-k l = record {
  made : l.numbers.items ≡ l.initial.numbers.items ++ take l.k (drop l.start l.initial.numbers.items);
  narrow : All IsNarrow l.numbers.items;
}
