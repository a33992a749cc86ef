use Rattle.std.proofs.Common.{refl}
use Rattle.zr_read.specs.Costs.{add_other, no_others}
use Rattle.zr_read.specs.Seen.{others_of}
use Rattle.serde_json.specs.View.{view}
use Rattle.zr_value.proofs.Walks.{walked_more, walk_stops, walk_ends}
use Rattle.zr_read.proofs.others.read_each_other.Goals as goal

pub loop-i-init : goal.loop-i-init
loop-i-init c = record { walked = record { rest = rw (c.new.ensures.empty) (rw (c.new-2.ensures.empty) refl) } }

pub loop-i-preserved : goal.loop-i-preserved
loop-i-preserved c = record {
  walked = walked_more (add_other c.args.known.now.players c.args.known.now.variables.items c.args.p c.args.aim) view no_others c.args.items.now c.index-items-i.result c.loop-i.i (others_of c.loop-i.all) c.index-items-i.is c.loop-i-test.true c.loop-i.invariant.walked (λ _. (others_of c.add_other-added.new.so_far)) c.add_other-added.result c.add_other-added.ensures
      c.in_default.field-0 c.in_default.ensures;
}

pub returns-in-Err : goal.returns-in-Err
returns-in-Err c =
    walk_stops (add_other c.args.known.now.players c.args.known.now.variables.items c.args.p c.args.aim) view no_others c.args.items.now c.index-items-i.result c.loop-i.i (others_of c.loop-i.all) c.index-items-i.is c.loop-i-test.true c.loop-i.invariant.walked (λ _. (others_of c.add_other-added.new.so_far)) c.add_other-added.result c.add_other-added.ensures
    c.in-Err.e c.in-Err.ensures

pub returns : goal.returns
returns c =
    walk_ends (add_other c.args.known.now.players c.args.known.now.variables.items c.args.p c.args.aim) view no_others c.args.items.now c.loop-i.i (others_of c.loop-i.all)
    c.loop-i-test.false c.loop-i.invariant.walked
