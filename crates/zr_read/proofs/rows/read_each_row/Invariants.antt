use Rattle.std.proofs.Common.{[], map}
use Rattle.serde_json.specs.View.{view}
use Rattle.zr_base.specs.Rows.{row_of}
use Rattle.zr_value.proofs.Walks.{Walked}
use Rattle.zr_read.specs.Rows.{add_rows}
use Rattle.zr_read.proofs.rows.read_each_row.Given as goal

abbrev pub invariant-loop-i : goal.invariant-loop-i
invariant-loop-i l = record {
  walked : Walked (add_rows l.format l.names) view [] l.items l.i (map row_of l.list.items);
}
