use Rattle.std.proofs.Common.{arith, ◌∙◌, length}
use Rattle.std.proofs.lemmas.Result.{err_from_is_err_and}
use Rattle.zr_base.proofs.Telling.{all_tested, more, stops}
use Rattle.zr_game.specs.Players.{PairOf, pair_of}
use Rattle.zr_game.specs.FeasibleSteps.{pair_wide}
use Rattle.zr_game.specs.Forms.{IsPairForm}
use Rattle.zr_game.specs.Rays.{KeepsPair}
use Rattle.zr_game.specs.RaySteps.{along_wide}
use Rattle.zr_game.proofs.Items.{all_told, first_wide-map, item}
use Rattle.zr_game.proofs.RaySums.{narrow_item}
use Rattle.zr_game.proofs.ray.pairs_keep.Goals as goal

pub pair_keeps-requires-clause-form : goal.pair_keeps-requires-clause-form
pair_keeps-requires-clause-form c =
    item pair_of (IsPairForm (length c.args.dir.now)) c.args.pairs.now c.loop-pair.pair-index
    c.pair-item.result c.requires.forms c.loop-pair-test.true c.pair-item.is

pub pair_keeps-requires-clause-narrow : goal.pair_keeps-requires-clause-narrow
pair_keeps-requires-clause-narrow c =
    narrow_item pair_of (pair_wide c.args.base.now) c.args.pairs.now c.loop-pair.pair-index
    c.pair-item.result c.requires.narrow c.loop-pair-test.true c.pair-item.is

pub loop-pair-preserved : goal.loop-pair-preserved
loop-pair-preserved c =
    more (λ v pair. KeepsPair c.args.base.now c.args.dir.now (pair_of pair))
    (λ pair. along_wide c.args.dir.now (pair_of pair).coef) c.args.pairs.now
    c.loop-pair.pair-index c.pair-item.result c.loop-pair-test.true c.pair-item.is
    c.loop-pair.all c.loop-pair.invariant c.pair_keeps.result c.in_ok-all.field-0
    c.pair_keeps.ensures c.in_ok-all.was

pub returns-in_err-all : goal.returns-in_err-all
returns-in_err-all c =
    let p = err_from_is_err_and c.from_residual.result c.from_residual.ensures.1 in
    let s = stops (λ v pair. KeepsPair c.args.base.now c.args.dir.now (pair_of pair))
    (λ pair. along_wide c.args.dir.now (pair_of pair).coef) c.args.pairs.now
    c.loop-pair.pair-index c.pair-item.result c.loop-pair-test.true c.pair-item.is
    c.loop-pair.all c.loop-pair.invariant c.pair_keeps.result _ c.pair_keeps.ensures
    c.in_err-all.was in
    rw (p.1, p.2) (first_wide-map pair_of (λ (pair : PairOf). along_wide c.args.dir.now pair.coef)
    c.args.pairs.now ∙ s)

pub returns : goal.returns
returns c =
    all_told pair_of (KeepsPair c.args.base.now c.args.dir.now)
    (λ (pair : PairOf). along_wide c.args.dir.now pair.coef) c.args.pairs.now c.loop-pair.all
    (all_tested (λ v pair. KeepsPair c.args.base.now c.args.dir.now (pair_of pair))
    (λ pair. along_wide c.args.dir.now (pair_of pair).coef) c.args.pairs.now
    c.loop-pair.pair-index c.loop-pair.all (omega arith) c.loop-pair.invariant)
