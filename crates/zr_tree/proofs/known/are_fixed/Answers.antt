use Rattle.std.proofs.Common.{◌≡◌, arith, ℤ, None, Some, true, slice_index_or}
use Rattle.zr_game.specs.Players.{var_of}
use Rattle.zr_game.proofs.Checks.{all_checked, each_mapped, more_checked}
use Rattle.zr_tree.proofs.known.are_fixed.Goals as goal

pub loop-v-preserved : goal.loop-v-preserved
loop-v-preserved c =
    more_checked (λ v var. var.whole ≡ true → (value : ℤ) ×
    (slice_index_or c.args.low.now v None ≡ Some value) ×
    (slice_index_or c.args.high.now v None ≡ Some value)) c.args.vars.now c.loop-v.v
    c.index-vars-v.result c.loop-v-test.true c.index-vars-v.is c.loop-v.all c.loop-v.invariant
    c.is_fixed-all.result c.is_fixed-all.ensures

pub returns : goal.returns
returns c =
    each_mapped var_of (λ v var. var.whole ≡ true
    → (value : ℤ) × (slice_index_or c.args.low.now v None ≡ Some value) ×
    (slice_index_or c.args.high.now v None ≡ Some value)) c.args.vars.now c.loop-v.all
    (all_checked (λ v var. var.whole ≡ true
    → (value : ℤ) × (slice_index_or c.args.low.now v None ≡ Some value) ×
    (slice_index_or c.args.high.now v None ≡ Some value)) c.args.vars.now c.loop-v.v
    c.loop-v.all (omega arith) (omega arith) c.loop-v.invariant)
