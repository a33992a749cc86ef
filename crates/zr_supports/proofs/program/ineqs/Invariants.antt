use Rattle.std.proofs.Common.{◌≡◌, false, length, map, All}
use Rattle.zr_lin.specs.Ineqs.{IsIneq, ineq_of}
use Rattle.zr_supports.proofs.program.ineqs.Given as goal

abbrev pub invariant-loop-line : goal.invariant-loop-line
invariant-loop-line l = record {
  form : All (IsIneq l.columns) (map ineq_of l.list.items);
  weak : All (λ row. row.strict ≡ false) (map ineq_of l.list.items);
  len : length l.list.items ≡ l.line-index;
}
