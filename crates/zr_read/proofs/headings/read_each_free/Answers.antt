use Rattle.std.proofs.Common.{refl, arith, map}
use Rattle.serde_json.specs.View.{view}
use Rattle.zr_game.specs.Players.{var_of}
use Rattle.zr_value.proofs.Places.{on_placed}
use Rattle.zr_value.proofs.Walks.{walked_more, walk_stops, walk_ends}
use Rattle.zr_read.specs.Followers.{add_free}
use Rattle.zr_read.proofs.headings.read_each_free.Goals as goal

pub loop-i-init : goal.loop-i-init
loop-i-init c = record {
  walked = record { rest = refl };
  names = c.requires;
  longer = omega arith;
}

pub add_free-added-requires : goal.add_free-added-requires
add_free-added-requires c = c.loop-i.invariant.names

pub loop-i-preserved : goal.loop-i-preserved
loop-i-preserved c =
    let one = on_placed _ _ c.add_free-added.result c.in_default.field-0 c.in_default.ensures c.add_free-added.ensures.one_more in
    record {
      walked = walked_more add_free view (map var_of c.args.before.list.items) c.args.items.now c.index-items-i.result c.loop-i.i (map var_of c.loop-i.list.items) c.index-items-i.is c.loop-i-test.true c.loop-i.invariant.walked (λ _. map var_of c.add_free-added.new.list.items) c.add_free-added.result c.add_free-added.ensures.read c.in_default.field-0 c.in_default.ensures;
      names = on_placed _ _ c.add_free-added.result c.in_default.field-0 c.in_default.ensures c.add_free-added.ensures.names;
      longer = omega (arith, one, c.loop-i.invariant.longer);
    }

pub returns-in-Err-clause-read : goal.returns-in-Err-clause-read
returns-in-Err-clause-read c = walk_stops add_free view (map var_of c.args.before.list.items) c.args.items.now c.index-items-i.result c.loop-i.i (map var_of c.loop-i.list.items) c.index-items-i.is c.loop-i-test.true c.loop-i.invariant.walked (λ _. map var_of c.add_free-added.new.list.items) c.add_free-added.result c.add_free-added.ensures.read c.in-Err.e c.in-Err.ensures

pub returns-clause-read : goal.returns-clause-read
returns-clause-read c = walk_ends add_free view (map var_of c.args.before.list.items) c.args.items.now c.loop-i.i (map var_of c.loop-i.list.items) c.loop-i-test.false c.loop-i.invariant.walked
