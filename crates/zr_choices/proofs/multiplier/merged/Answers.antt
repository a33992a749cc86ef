use Rattle.zr_branch.proofs.Merging.{left_next, merged_at_end, merged_at_start, right_next}
use Rattle.zr_choices.proofs.multiplier.merged.Goals as goal

pub merge-init : goal.merge-init
merge-init c = rw c.new-list.ensures.items
    (merged_at_start c.args.left.now c.args.right.now c.requires.left c.requires.right)

pub merge-preserved-then-goes_left : goal.merge-preserved-then-goes_left
merge-preserved-then-goes_left c =
    rw c.in_ok-push.ensures.items (left_next c.args.left.now c.args.right.now c.requires.left
    c.requires.right c.requires.apart c.merge.i c.merge.k c.merge.list.items c.merge.invariant
    (c.goes_left.ensures.yes c.if-goes_left.true))

pub merge-preserved : goal.merge-preserved
merge-preserved c =
    rw c.in_ok-push-2.ensures.items (right_next c.args.left.now c.args.right.now c.requires.left
    c.requires.right c.requires.apart c.merge.i c.merge.k c.merge.list.items c.merge.invariant
    (c.goes_left.ensures.no c.if-goes_left.false))

pub returns-clause-form : goal.returns-clause-form
returns-clause-form c =
    (merged_at_end c.args.left.now c.args.right.now c.requires.left c.requires.right
    c.requires.apart c.merge.i c.merge.k c.merge.list.items c.merge.invariant
    c.merge-test.false).0

pub returns-clause-sums : goal.returns-clause-sums
returns-clause-sums c =
    (merged_at_end c.args.left.now c.args.right.now c.requires.left c.requires.right
    c.requires.apart c.merge.i c.merge.k c.merge.list.items c.merge.invariant
    c.merge-test.false).1
