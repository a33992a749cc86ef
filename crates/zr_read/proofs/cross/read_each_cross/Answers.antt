use Rattle.std.proofs.Common.{refl, []}
use Rattle.serde_json.specs.View.{view}
use Rattle.zr_value.proofs.Walks.{walked_more, walk_stops, walk_ends}
use Rattle.zr_read.specs.Costs.{add_cross}
use Rattle.zr_read.proofs.cross.read_each_cross.Goals as goal

pub loop-i-init : goal.loop-i-init
loop-i-init c = record { walked = rw (c.new-all.ensures.empty) (record { rest = refl }) }

pub loop-i-preserved : goal.loop-i-preserved
loop-i-preserved c = record {
  walked = walked_more (add_cross c.args.known.now.players c.args.known.now.variables.items c.args.p c.args.aim) view [] c.args.items.now c.index-items-i.result c.loop-i.i c.loop-i.all.entries c.index-items-i.is c.loop-i-test.true c.loop-i.invariant.walked (λ _. c.add_cross-added.new.so_far.entries) c.add_cross-added.result c.add_cross-added.ensures
      c.in_default.field-0 c.in_default.ensures;
}

pub returns-in-Err : goal.returns-in-Err
returns-in-Err c =
    walk_stops (add_cross c.args.known.now.players c.args.known.now.variables.items c.args.p c.args.aim) view [] c.args.items.now c.index-items-i.result c.loop-i.i c.loop-i.all.entries c.index-items-i.is c.loop-i-test.true c.loop-i.invariant.walked (λ _. c.add_cross-added.new.so_far.entries) c.add_cross-added.result c.add_cross-added.ensures
    c.in-Err.e c.in-Err.ensures

pub returns : goal.returns
returns c =
    walk_ends (add_cross c.args.known.now.players c.args.known.now.variables.items c.args.p c.args.aim) view [] c.args.items.now c.loop-i.i c.loop-i.all.entries
    c.loop-i-test.false c.loop-i.invariant.walked
