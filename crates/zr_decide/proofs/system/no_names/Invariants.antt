use Rattle.std.proofs.Common.{◌≡◌, All, [], length}
use Rattle.zr_decide.proofs.system.no_names.Given as goal

abbrev pub invariant-loop : goal.invariant-loop
invariant-loop l = record {
  len : length l.lists.items ≡ l.counter;
  empty : All (λ list. list.items ≡ []) l.lists.items;
}
