use Rattle.std.proofs.Common.{arith, ◌∙◌, length}
use Rattle.std.proofs.lemmas.Result.{err_from_is_err_and}
use Rattle.zr_game.specs.Players.{pair_of}
use Rattle.zr_game.specs.Feasible.{PairHolds}
use Rattle.zr_game.specs.FeasibleSteps.{pair_wide}
use Rattle.zr_base.proofs.Telling.{all_tested, more, stops}
use Rattle.zr_game.specs.Forms.{IsPairForm}
use Rattle.zr_game.proofs.Items.{all_told, first_wide-map, item}
use Rattle.zr_game.proofs.substitution.pairs_hold.Goals as goal

pub pair_holds-requires : goal.pair_holds-requires
pair_holds-requires c =
    item pair_of (IsPairForm (length c.args.point.now.num)) c.args.pairs.now c.loop-pair.pair-index
    c.pair-item.result c.requires c.loop-pair-test.true c.pair-item.is

pub loop-pair-preserved : goal.loop-pair-preserved
loop-pair-preserved c =
    more (λ v pair. PairHolds c.args.point.now (pair_of pair))
    (λ pair. pair_wide c.args.point.now (pair_of pair)) c.args.pairs.now c.loop-pair.pair-index
    c.pair-item.result c.loop-pair-test.true c.pair-item.is c.loop-pair.all
    c.loop-pair.invariant c.pair_holds.result c.in_ok-all.field-0 c.pair_holds.ensures
    c.in_ok-all.was

pub returns-in_err-all : goal.returns-in_err-all
returns-in_err-all c =
    let p = err_from_is_err_and c.from_residual.result c.from_residual.ensures.1 in
    let s = stops (λ v pair. PairHolds c.args.point.now (pair_of pair))
    (λ pair. pair_wide c.args.point.now (pair_of pair)) c.args.pairs.now c.loop-pair.pair-index
    c.pair-item.result c.loop-pair-test.true c.pair-item.is c.loop-pair.all
    c.loop-pair.invariant c.pair_holds.result _ c.pair_holds.ensures c.in_err-all.was in
    rw (p.1, p.2) (first_wide-map pair_of (pair_wide c.args.point.now) c.args.pairs.now ∙ s)

pub returns : goal.returns
returns c =
    all_told pair_of (PairHolds c.args.point.now) (pair_wide c.args.point.now) c.args.pairs.now
    c.loop-pair.all (all_tested (λ v pair. PairHolds c.args.point.now (pair_of pair))
    (λ pair. pair_wide c.args.point.now (pair_of pair)) c.args.pairs.now c.loop-pair.pair-index
    c.loop-pair.all (omega arith) c.loop-pair.invariant)
