use Rattle.std.proofs.Common.{refl, [], map}
use Rattle.serde_json.specs.View.{view}
use Rattle.zr_game.specs.Players.{pair_of, var_of}
use Rattle.zr_value.proofs.Walks.{walked_more, walk_stops, walk_ends}
use Rattle.zr_read.specs.Rows.{add_pair}
use Rattle.zr_read.proofs.pairs.read_each_pair.Goals as goal

pub loop-i-init : goal.loop-i-init
loop-i-init c = record { walked = rw (c.new-list.ensures.items) (record { rest = refl }) }

pub loop-i-preserved : goal.loop-i-preserved
loop-i-preserved c = record {
  walked = walked_more (add_pair c.args.names.now (map var_of c.args.vars.now)) view [] c.args.items.now c.index-items-i.result c.loop-i.i (map pair_of c.loop-i.list.items) c.index-items-i.is c.loop-i-test.true c.loop-i.invariant.walked (λ _. (map pair_of c.add_pair-added.new.so_far.items)) c.add_pair-added.result c.add_pair-added.ensures
      c.in_default.field-0 c.in_default.ensures;
}

pub returns-in-Err : goal.returns-in-Err
returns-in-Err c =
    walk_stops (add_pair c.args.names.now (map var_of c.args.vars.now)) view [] c.args.items.now c.index-items-i.result c.loop-i.i (map pair_of c.loop-i.list.items) c.index-items-i.is c.loop-i-test.true c.loop-i.invariant.walked (λ _. (map pair_of c.add_pair-added.new.so_far.items)) c.add_pair-added.result c.add_pair-added.ensures
    c.in-Err.e c.in-Err.ensures

pub returns : goal.returns
returns c =
    walk_ends (add_pair c.args.names.now (map var_of c.args.vars.now)) view [] c.args.items.now c.loop-i.i (map pair_of c.loop-i.list.items)
    c.loop-i-test.false c.loop-i.invariant.walked
