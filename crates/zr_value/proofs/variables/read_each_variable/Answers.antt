use Rattle.std.proofs.Common.{refl, rules, [], map}
use Rattle.serde_json.specs.View.{view}
use Rattle.zr_game.specs.Players.{var_of}
use Rattle.zr_value.proofs.Places.{on_placed}
use Rattle.zr_value.proofs.Walks.{walked_more, walk_stops, walk_ends}
use Rattle.zr_value.specs.Variables.{add_variable}
use Rattle.zr_value.proofs.variables.read_each_variable.Goals as goal

pub loop-i-init : goal.loop-i-init
loop-i-init c = record {
  walked = rw (c.new-list.ensures.items) (record { rest = refl });
  names = search rules;
}

pub add_variable-added-requires : goal.add_variable-added-requires
add_variable-added-requires c = c.loop-i.invariant.names

pub loop-i-preserved : goal.loop-i-preserved
loop-i-preserved c = record {
  walked = walked_more (add_variable c.args.format) view [] c.args.items.now c.index-items-i.result c.loop-i.i (map var_of c.loop-i.list.items) c.index-items-i.is c.loop-i-test.true c.loop-i.invariant.walked (λ _. map var_of c.add_variable-added.new.list.items) c.add_variable-added.result c.add_variable-added.ensures.read c.in_default.field-0 c.in_default.ensures;
  names = on_placed _ _ c.add_variable-added.result c.in_default.field-0 c.in_default.ensures c.add_variable-added.ensures.names;
}

pub returns-in-Err-clause-read : goal.returns-in-Err-clause-read
returns-in-Err-clause-read c = walk_stops (add_variable c.args.format) view [] c.args.items.now c.index-items-i.result c.loop-i.i (map var_of c.loop-i.list.items) c.index-items-i.is c.loop-i-test.true c.loop-i.invariant.walked (λ _. map var_of c.add_variable-added.new.list.items) c.add_variable-added.result c.add_variable-added.ensures.read c.in-Err.e c.in-Err.ensures

pub returns-clause-read : goal.returns-clause-read
returns-clause-read c = walk_ends (add_variable c.args.format) view [] c.args.items.now c.loop-i.i (map var_of c.loop-i.list.items) c.loop-i-test.false c.loop-i.invariant.walked
