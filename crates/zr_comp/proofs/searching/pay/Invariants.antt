use Rattle.std.proofs.Common.{◌≡◌, ◌+◌}
use Rattle.zr_io.specs.declared.purse.Purse.{Purse}
use Rattle.zr_comp.proofs.searching.pay.Given as goal

abbrev pub invariant-loop-paid : goal.invariant-loop-paid
invariant-loop-paid l = record {
  limit : l.purse.limit ≡ l.initial.purse.limit;
  cuts : l.purse.cuts ≡ l.initial.purse.cuts;
  pivots : l.purse.pivots ≡ l.initial.purse.pivots;
  branches : l.purse.branches ≡ l.initial.purse.branches + l.paid;
}
