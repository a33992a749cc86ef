use Rattle.std.proofs.Common.{rules, [], ◌∙◌, length, map, ap, sym, arith}
use Rattle.std.proofs.lemmas.List.{nil_from_length}
use Rattle.zr_source.specs.Sources.{leader_of}
use Rattle.zr_value.specs.Values.{each}
use Rattle.zr_value.proofs.Places.{on_placed}
use Rattle.zr_read.specs.Passes.{add_leader}
use Rattle.zr_read.specs.Seen.{heading_of}
use Rattle.zr_read.proofs.Consumed.{consumed_more, consumed_stops}
use Rattle.zr_read.proofs.players.read_each_leader.Goals as goal

pub loop-i-init : goal.loop-i-init
loop-i-init c = search rules

pub add_leader-added-requires-clause-below : goal.add_leader-added-requires-clause-below
add_leader-added-requires-clause-below c =
    let one = ap length c.in-Some.ensures.steps.0.0 in
    let left = c.loop-i.invariant.left in
    omega (arith, one, left, c.requires.all)

pub add_leader-added-requires-clause-few : goal.add_leader-added-requires-clause-few
add_leader-added-requires-clause-few c =
    let one = ap length c.in-Some.ensures.steps.0.0 in
    let left = c.loop-i.invariant.left in
    omega (arith, one, left, c.requires.few)

pub loop-i-preserved : goal.loop-i-preserved
loop-i-preserved c =
    let steps = c.in-Some.ensures.steps in
    let one = ap length steps.0.0 in
    let more = on_placed _ _ c.add_leader-added.result c.in_default.field-0 c.in_default.ensures c.add_leader-added.ensures.one_more in
    record {
      walked = consumed_more (add_leader c.args.format c.args.most c.args.known.now.players c.args.known.now.variables.items) heading_of
          (each (add_leader c.args.format c.args.most c.args.known.now.players c.args.known.now.variables.items) 0 [] (map heading_of c.args.headings.items))
          c.loop-i.i-iterator.count c.in-Some.i c.next.new.self.count (map leader_of c.loop-i.list.items)
          c.loop-i.i-iterator.iter.rest.items c.in-Some.heading c.next.new.self.iter.rest.items steps.0.0 steps.1 steps.2
          c.loop-i.invariant.walked (λ _. map leader_of c.add_leader-added.new.so_far.items) c.add_leader-added.result
          c.add_leader-added.ensures.read c.in_default.field-0 c.in_default.ensures;
      whole = omega (arith, one, steps.0.1, c.loop-i.invariant.whole);
      left = omega (arith, one, more, c.loop-i.invariant.left);
    }

pub returns-in-Err : goal.returns-in-Err
returns-in-Err c =
    let steps = c.in-Some.ensures.steps in
    consumed_stops (add_leader c.args.format c.args.most c.args.known.now.players c.args.known.now.variables.items) heading_of
    (each (add_leader c.args.format c.args.most c.args.known.now.players c.args.known.now.variables.items) 0 [] (map heading_of c.args.headings.items))
    c.loop-i.i-iterator.count c.in-Some.i c.next.new.self.count (map leader_of c.loop-i.list.items)
    c.loop-i.i-iterator.iter.rest.items c.in-Some.heading c.next.new.self.iter.rest.items steps.0.0 steps.1 steps.2
    c.loop-i.invariant.walked (λ _. map leader_of c.add_leader-added.new.so_far.items) c.add_leader-added.result
    c.add_leader-added.ensures.read c.in-Err.e c.in-Err.ensures

pub returns : goal.returns
returns c =
    let none = nil_from_length c.loop-i.i-iterator.iter.rest.items
    (sym (c.loop-i.invariant.whole) ∙ c.in-None.ensures.steps.0.0) in
    c.loop-i.invariant.walked
    ∙ ap (λ ws. each (add_leader c.args.format c.args.most c.args.known.now.players c.args.known.now.variables.items) c.loop-i.i-iterator.count (map leader_of c.loop-i.list.items) (map heading_of ws)) none
