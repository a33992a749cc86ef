use Rattle.std.proofs.Common.{◌≡◌, arith, slice_index_or}
use Rattle.zr_game.specs.declared.leaf.Side.TheVariants.{Undecided}
use Rattle.zr_game.proofs.Checks.{all_checked, more_checked}
use Rattle.zr_game.proofs.Items.{at_number}
use Rattle.zr_tree.proofs.known.are_decided.Goals as goal

pub loop-p-preserved : goal.loop-p-preserved
loop-p-preserved c =
    more_checked (λ p pair. slice_index_or c.args.sides.now p Undecided ≡ Undecided → ⊥)
    c.args.pairs.now c.loop-p.p c.index-pairs-p.result c.loop-p-test.true c.index-pairs-p.is
    c.loop-p.all c.loop-p.invariant c.is_decided-all.result c.is_decided-all.ensures

pub returns : goal.returns
returns c =
    let all = all_checked (λ p pair. slice_index_or c.args.sides.now p Undecided ≡ Undecided → ⊥)
    c.args.pairs.now c.loop-p.p c.loop-p.all (omega arith) (omega arith) c.loop-p.invariant in (
      λ h p below. all.0 h p (at_number c.args.pairs.now p below).0 below,
      λ h. all.1 (λ p d below. h p below),
    )
