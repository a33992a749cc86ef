use Rattle.std.proofs.Common.{◌≡◌, ◌<◌, length, get_or}
use Rattle.zr_lin.proofs.SparseRows.{read_form}
use Rattle.zr_simplex.proofs.tests.made.is_right.Goals as goal

pub value_at-requires : goal.value_at-requires
value_at-requires c =
    let rows = c.args.lp.now.rows.items in
    let inside : c.loop-row.row-index < length rows = rw c.deref-row-items.ensures.value at c.loop-row-test.true in
    let is : c.row-item.result ≡ get_or rows c.loop-row.row-index c.row-item.result = rw c.deref-row-items.ensures.value at c.row-item.is in
    rw (c.deref.ensures.value, c.requires.len) (read_form c.args.lp.now.columns rows c.requires.lp.rows c.loop-row.row-index c.row-item.result inside is).0
