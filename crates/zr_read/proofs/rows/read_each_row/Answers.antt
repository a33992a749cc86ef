use Rattle.std.proofs.Common.{refl, [], map}
use Rattle.serde_json.specs.View.{view}
use Rattle.zr_base.specs.Rows.{row_of}
use Rattle.zr_value.proofs.Walks.{walked_more, walk_stops, walk_ends}
use Rattle.zr_read.specs.Rows.{add_rows}
use Rattle.zr_read.proofs.rows.read_each_row.Goals as goal

pub loop-i-init : goal.loop-i-init
loop-i-init c = record { walked = rw (c.new-list.ensures.items) (record { rest = refl }) }

pub loop-i-preserved : goal.loop-i-preserved
loop-i-preserved c = record {
  walked = walked_more (add_rows c.args.format c.args.names.now) view [] c.args.items.now c.index-items-i.result c.loop-i.i (map row_of c.loop-i.list.items) c.index-items-i.is c.loop-i-test.true c.loop-i.invariant.walked (λ _. (map row_of c.add_rows-added.new.so_far.items)) c.add_rows-added.result c.add_rows-added.ensures
      c.in_default.field-0 c.in_default.ensures;
}

pub returns-in-Err : goal.returns-in-Err
returns-in-Err c =
    walk_stops (add_rows c.args.format c.args.names.now) view [] c.args.items.now c.index-items-i.result c.loop-i.i (map row_of c.loop-i.list.items) c.index-items-i.is c.loop-i-test.true c.loop-i.invariant.walked (λ _. (map row_of c.add_rows-added.new.so_far.items)) c.add_rows-added.result c.add_rows-added.ensures
    c.in-Err.e c.in-Err.ensures

pub returns : goal.returns
returns c =
    walk_ends (add_rows c.args.format c.args.names.now) view [] c.args.items.now c.loop-i.i (map row_of c.loop-i.list.items)
    c.loop-i-test.false c.loop-i.invariant.walked
