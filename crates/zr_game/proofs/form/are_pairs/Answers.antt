use Rattle.std.proofs.Common.{arith}
use Rattle.zr_game.specs.Players.{pair_of}
use Rattle.zr_game.specs.Forms.{IsPairForm}
use Rattle.zr_game.proofs.Checks.{all_checked, all_mapped, more_checked, none_checked}
use Rattle.zr_game.proofs.form.are_pairs.Goals as goal

pub loop-pair-init : goal.loop-pair-init
loop-pair-init c = none_checked (λ v pair. IsPairForm c.args.columns (pair_of pair))
    c.args.pairs.now

pub loop-pair-preserved : goal.loop-pair-preserved
loop-pair-preserved c =
    more_checked (λ v pair. IsPairForm c.args.columns (pair_of pair)) c.args.pairs.now
    c.loop-pair.pair-index c.pair-item.result c.loop-pair-test.true c.pair-item.is
    c.loop-pair.all c.loop-pair.invariant c.is_pair-all.result c.is_pair-all.ensures

pub returns : goal.returns
returns c =
    all_mapped pair_of (IsPairForm c.args.columns) c.args.pairs.now c.loop-pair.all
    (all_checked (λ v pair. IsPairForm c.args.columns (pair_of pair)) c.args.pairs.now
    c.loop-pair.pair-index c.loop-pair.all (omega arith) (omega arith) c.loop-pair.invariant)
