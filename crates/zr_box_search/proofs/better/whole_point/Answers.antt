use Rattle.std.proofs.Common.{rules, ◌∙◌, arith, ap₂, int_div, FitsSigned}
use Rattle.std.specs.Int.{w128}
use Rattle.std.proofs.lemmas.Int.{ints, to_z-of_z}
use Rattle.std.proofs.lemmas.List.Elements.{All-push}
use Rattle.zr_base.specs.Steps.{IsNarrow}
use Rattle.zr_box_search.proofs.Bounding.{quotients_more}
use Rattle.zr_box_search.proofs.better.whole_point.Goals as goal

pub unreachable-requires : goal.unreachable-requires
unreachable-requires c =
    let e = c.in-Err.ensures.valid.1
    (omega (arith, ints), omega arith, c.loop-v.invariant.narrow) in
    absurd cc

pub loop-v-preserved : goal.loop-v-preserved
loop-v-preserved c =
    let f : FitsSigned w128 c.quotient-value.result = search rules in
    let g : FitsSigned w128 c.num.result = search rules in
    let h : FitsSigned w128 c.den.result = search rules in
    let e = simp to_z-of_z at c.in-Ok.ensures.items in
    let made = simp to_z-of_z at c.quotient-value.ensures.value in
    record {
      items = e ∙ quotients_more c.args.point.now.den c.args.point.now.num c.loop-v.v
          c.loop-v.values.items c.quotient-value.result
          (omega (arith, c.loop-v-test.true, c.len-v-end.ensures))
          (made ∙ ap₂ int_div c.num.ensures.value c.den.ensures.value) c.loop-v.invariant.items;
      narrow = rw e (All-push IsNarrow c.loop-v.values.items c.quotient-value.result
          c.loop-v.invariant.narrow c.quotient-value.ensures.narrow);
    }
