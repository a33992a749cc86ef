use Rattle.std.proofs.Common.{rules, arith, ◌∙◌, length, FitsSigned}
use Rattle.std.specs.Int.{w128}
use Rattle.std.proofs.lemmas.Int.{to_z-of_z}
use Rattle.std.proofs.lemmas.List.Elements.{All-push}
use Rattle.zr_base.specs.Points.{num_of}
use Rattle.zr_base.specs.Steps.{IsNarrow}
use Rattle.zr_choices.specs.Parted.{joined}
use Rattle.zr_choices.specs.Programs.{free_in}
use Rattle.zr_choices.proofs.Joining.{firsts_more, joined_at, place_more}
use Rattle.zr_choices.proofs.Places.{place_next}
use Rattle.zr_choices.proofs.value.values_by.Goals as goal

pub value_of-requires-clause-columns : goal.value_of-requires-clause-columns
value_of-requires-clause-columns c =
    let us = c.args.order.now in
    let p = place_next (free_in us) c.loop-u.u-index (length us) c.loop-u-test.true in
    let i = c.loop-u.invariant.columns in
    let q = c.requires.columns in
    omega (arith, p, i, q)

pub loop-u-preserved : goal.loop-u-preserved
loop-u-preserved c =
    let free = free_in c.args.order.now in
    let j = c.loop-u.u-index in
    let q = num_of c.args.point.now in
    let v = c.value_of.result in
    let f : FitsSigned w128 v = search rules in
    let items = simp to_z-of_z at c.in_ok-push.ensures.items in
    let columns = c.loop-u.invariant.columns in
    let w = c.width.ensures.value in
    let p = place_more free j in
    let few = c.loop-u.invariant.few in
    let two = c.width.ensures.few in
    record {
      values = firsts_more j (joined free q) v c.loop-u.values.items c.push.new.self.items
          c.loop-u.invariant.values items (c.value_of.ensures.value
          ∙ joined_at free q j c.loop-u.c columns);
      columns = omega (arith, columns, w, p);
      few = omega (arith, few, two);
      narrow = rw items (All-push IsNarrow c.loop-u.values.items v c.loop-u.invariant.narrow
          c.value_of.ensures.narrow);
    }
