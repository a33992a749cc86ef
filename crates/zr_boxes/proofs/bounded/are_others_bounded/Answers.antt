use Rattle.std.proofs.Common.{ℕ, List, arith, pos, get_or}
use Rattle.zr_base.proofs.SumSteps.{get_or_default}
use Rattle.zr_game.specs.declared.player.CrossTerm.{CrossTerm}
use Rattle.zr_game.specs.declared.leaf.Leaf.{Leaf}
use Rattle.zr_game.proofs.Checks.{all_checked, more_checked, none_checked}
use Rattle.zr_boxes.specs.Paths.{box_of}
use Rattle.zr_boxes.specs.Ranges.{HasRange}
use Rattle.zr_boxes.proofs.bounded.are_others_bounded.Goals as goal

abbrev Bounded : List Leaf → ℕ → CrossTerm → Type 0
Bounded leaves k t = HasRange (box_of leaves) t.player t.var

pub loop-term-init : goal.loop-term-init
loop-term-init c = none_checked (Bounded c.args.leaves.now) c.args.cross.now

pub loop-term-preserved : goal.loop-term-preserved
loop-term-preserved c =
    let i = c.loop-term.term-index in
    let none : CrossTerm = (record { own = 0; player = 0; var = 0; coef = pos 0 }) in
    let t = get_or c.args.cross.now i none in
    let here = c.loop-term-test.true in
    more_checked (Bounded c.args.leaves.now) c.args.cross.now i t here
    (get_or_default c.args.cross.now i none t here) c.loop-term.all c.loop-term.invariant
    c.has_range-all.result c.has_range-all.ensures

pub returns : goal.returns
returns c =
    let all = all_checked (Bounded c.args.leaves.now) c.args.cross.now
    c.loop-term.term-index c.loop-term.all (omega arith) (omega arith) c.loop-term.invariant in (
      λ h k d below. all.0 h k d below,
      λ h. all.1 (λ k d below. h k d below),
    )
