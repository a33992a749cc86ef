use Rattle.std.proofs.Common.{◌≡◌, arith, true, None, slice_index_or}
use Rattle.std.proofs.lemmas.List.{length-map}
use Rattle.zr_game.specs.Players.{var_of}
use Rattle.zr_game.proofs.Items.{found}
use Rattle.zr_bnb.proofs.Firsts.{all_found, more_found}
use Rattle.zr_cover.specs.Splits.{AreOneValue}
use Rattle.zr_cover.proofs.split.first_unfixed.Goals as goal

pub returns-then-is_unfixed : goal.returns-then-is_unfixed
returns-then-is_unfixed c =
    let y = c.is_unfixed.ensures.yes c.if-is_unfixed.true in
    let below = c.loop-v-test.true in (
      omega (arith, below, length-map c.args.vars.now var_of),
      (
        var_of c.index-vars-v.result,
        found var_of c.args.vars.now c.loop-v.v c.index-vars-v.result below c.index-vars-v.is,
        y.0,
      ),
      y.1,
    )

pub loop-v-preserved : goal.loop-v-preserved
loop-v-preserved c =
    let n = c.is_unfixed.ensures.no c.if-is_unfixed.false in
    more_found var_of (λ w x. x.whole ≡ true
    → AreOneValue (slice_index_or c.args.low.now w None) (slice_index_or c.args.high.now w None))
    c.args.vars.now c.loop-v.v c.index-vars-v.result c.loop-v-test.true c.index-vars-v.is
    c.loop-v.invariant n

pub returns : goal.returns
returns c =
    all_found var_of (λ w x. x.whole ≡ true
    → AreOneValue (slice_index_or c.args.low.now w None) (slice_index_or c.args.high.now w None))
    c.args.vars.now c.loop-v.v c.loop-v-test.false c.loop-v.invariant
