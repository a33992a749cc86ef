use Rattle.std.proofs.Common.{refl, rules, [], map, ◌∙◌, ap, ◌+◌}
use Rattle.serde_json.specs.View.{view}
use Rattle.zr_value.proofs.Places.{on_placed}
use Rattle.zr_value.proofs.Walks.{walked_more, walk_stops, walk_ends}
use Rattle.zr_read.specs.Passes.{add_heading}
use Rattle.zr_read.specs.Seen.{heading_of}
use Rattle.zr_read.proofs.headings.read_each_heading.Goals as goal

pub loop-i-init : goal.loop-i-init
loop-i-init c = record {
  walked = rw (c.new-list.ensures.items) (record { rest = refl });
  count = search rules;
  players = search rules;
  variables = search rules;
}

pub add_heading-added-requires-clause-players : goal.add_heading-added-requires-clause-players
add_heading-added-requires-clause-players c = c.loop-i.invariant.players

pub add_heading-added-requires-clause-variables : goal.add_heading-added-requires-clause-variables
add_heading-added-requires-clause-variables c = c.loop-i.invariant.variables

pub loop-i-preserved : goal.loop-i-preserved
loop-i-preserved c = record {
  walked = walked_more (add_heading c.args.format c.args.taken.now) view [] c.args.items.now c.index-items-i.result c.loop-i.i (map heading_of c.loop-i.list.items) c.index-items-i.is c.loop-i-test.true c.loop-i.invariant.walked (λ _. map heading_of c.add_heading-added.new.list.items) c.add_heading-added.result c.add_heading-added.ensures.read c.in_default.field-0 c.in_default.ensures;
  count = on_placed _ _ c.add_heading-added.result c.in_default.field-0 c.in_default.ensures c.add_heading-added.ensures.one_more ∙ ap (λ n. n + 1) c.loop-i.invariant.count;
  players = on_placed _ _ c.add_heading-added.result c.in_default.field-0 c.in_default.ensures c.add_heading-added.ensures.players;
  variables = on_placed _ _ c.add_heading-added.result c.in_default.field-0 c.in_default.ensures c.add_heading-added.ensures.variables;
}

pub returns-in-Err-clause-read : goal.returns-in-Err-clause-read
returns-in-Err-clause-read c = walk_stops (add_heading c.args.format c.args.taken.now) view [] c.args.items.now c.index-items-i.result c.loop-i.i (map heading_of c.loop-i.list.items) c.index-items-i.is c.loop-i-test.true c.loop-i.invariant.walked (λ _. map heading_of c.add_heading-added.new.list.items) c.add_heading-added.result c.add_heading-added.ensures.read c.in-Err.e c.in-Err.ensures

pub returns-clause-read : goal.returns-clause-read
returns-clause-read c = walk_ends (add_heading c.args.format c.args.taken.now) view [] c.args.items.now c.loop-i.i (map heading_of c.loop-i.list.items) c.loop-i-test.false c.loop-i.invariant.walked
