use Rattle.std.proofs.Common.{◌≡◌, ◌*◌, false, length, map}
use Rattle.std.specs.List.{All}
use Rattle.zr_lin.specs.Ineqs.{IsIneq, ineq_of}
use Rattle.zr_simplex.proofs.tests.made.made_rows.Given as goal

abbrev pub invariant-loop-i : goal.invariant-loop-i
invariant-loop-i l = record {
  count : length l.rows.items ≡ l._i;
  rows : All (IsIneq (l.shape.parts * l.shape.stride)) (map ineq_of l.rows.items);
  weak : All (λ row. row.strict ≡ false) (map ineq_of l.rows.items);
}
