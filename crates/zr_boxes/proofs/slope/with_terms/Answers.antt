use Rattle.std.proofs.Common.{◌==◌, rules, pos, sym, to_z, FitsSigned}
use Rattle.std.specs.Int.{w128}
use Rattle.std.proofs.lemmas.Int.{to_z-of_z}
use Rattle.std.proofs.lemmas.Result.{err_from_is_err_and}
use Rattle.zr_game.specs.declared.player.CrossTerm.{CrossTerm}
use Rattle.zr_boxes.specs.Paths.{box_of}
use Rattle.zr_boxes.specs.Ranges.{end_at, range_of}
use Rattle.zr_boxes.proofs.SumsOnward.{filtered_more, filtered_wide}
use Rattle.zr_boxes.proofs.slope.with_terms.Goals as goal

pub returns-in_err-sum : goal.returns-in_err-sum
returns-in_err-sum c =
    let f : FitsSigned w128 c.args.start = search rules in
    let p = err_from_is_err_and c.from_residual.result c.from_residual.ensures.1 in
    rw (p.1, p.2)
    (sym (filtered_wide (λ (t : CrossTerm). t.own == c.args.v)
    (λ (t : CrossTerm). (
      t.coef,
      end_at c.args.end t.coef (range_of (box_of c.args.leaves.now) t.player t.var),
    )) c.args.start
    c.args.cross.now c.loop-term.term-index (record { own = 0; player = 0; var = 0; coef = pos 0 })
    c.loop-term-test.true (to_z w128 c.loop-term.sum-bits)
    (simp to_z-of_z at c.loop-term.invariant) _ (sym c.in_err-sum.ensures.step)))

pub loop-term-preserved : goal.loop-term-preserved
loop-term-preserved c =
    let f : FitsSigned w128 c.args.start = search rules in
    let g : FitsSigned w128 c.in_ok-sum.sum = search rules in
    simp to_z-of_z (filtered_more (λ (t : CrossTerm). t.own == c.args.v)
    (λ (t : CrossTerm). (
      t.coef,
      end_at c.args.end t.coef (range_of (box_of c.args.leaves.now) t.player t.var),
    )) c.args.start
    c.args.cross.now c.loop-term.term-index (record { own = 0; player = 0; var = 0; coef = pos 0 })
    c.loop-term-test.true (to_z w128 c.loop-term.sum-bits)
    (simp to_z-of_z at c.loop-term.invariant) c.in_ok-sum.sum
    (sym c.in_ok-sum.ensures.step) c.in_ok-sum.ensures.narrow)
