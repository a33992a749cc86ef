use Rattle.std.proofs.Common.{◌≡◌, drop, map}
use Rattle.std.specs.Prelude.{nat_le}
use Rattle.std.specs.List.{sum_by}
use Rattle.serde_json.specs.View.{view}
use Rattle.zr_read.specs.Rows.{row_count}
use Rattle.zr_read.proofs.rows.are_few_rows.Given as goal

abbrev pub invariant-loop-item : goal.invariant-loop-item
invariant-loop-item l =
    nat_le (sum_by (row_count l.format) (map view (drop l.item-index l.items))) l.left
    ≡ nat_le (sum_by (row_count l.format) (map view l.items)) l.most
