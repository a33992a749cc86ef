use Rattle.std.proofs.Common.{arith, pos}
use Rattle.zr_game.specs.declared.player.CrossTerm.{CrossTerm}
use Rattle.zr_boxes.specs.Paths.{box_of}
use Rattle.zr_box_search.specs.Sides.{high_end, low_end}
use Rattle.zr_box_search.proofs.PathLists.{pairs_onward}
use Rattle.zr_box_search.proofs.slope.cross_ends.Goals as goal

pub loop-count-preserved : goal.loop-count-preserved
loop-count-preserved c =
    let box = box_of c.args.leaves.now in
    let v = c.args.v in
    let cross = c.args.cross.now in
    let i = c.loop-count.count in
    let d : CrossTerm = record { own = 0; player = 0; var = 0; coef = pos 0 } in
    record {
      low = pairs_onward low_end box v cross i d c.loop-count-test.true c.loop-count.sum.low
          c.with_term-sum.result.low
          _ c.loop-count.invariant.low
          c.with_term-sum.ensures.low;
      high = pairs_onward high_end box v cross i d c.loop-count-test.true c.loop-count.sum.high
          c.with_term-sum.result.high
          _ c.loop-count.invariant.high
          c.with_term-sum.ensures.high;
      least = c.with_term-sum.ensures.least;
      greatest = c.with_term-sum.ensures.greatest;
    }

pub returns-clause-least : goal.returns-clause-least
returns-clause-least c =
    let b = c.loop-count.invariant.least in
    let n = c.loop-count.auto.count-end in
    let f = c.requires.few in
    omega (arith, b, n, f)

pub returns-clause-greatest : goal.returns-clause-greatest
returns-clause-greatest c =
    let b = c.loop-count.invariant.greatest in
    let n = c.loop-count.auto.count-end in
    let f = c.requires.few in
    omega (arith, b, n, f)
