use Rattle.std.proofs.Common.{arith, map}
use Rattle.zr_game.specs.Players.{pair_of, var_of}
use Rattle.zr_game.specs.Forms.{IsFromZero}
use Rattle.zr_game.proofs.Checks.{all_checked, all_mapped, more_checked, none_checked}
use Rattle.zr_game.proofs.form.are_from_zero.Goals as goal

pub loop-pair-init : goal.loop-pair-init
loop-pair-init c =
    let vars = map var_of c.args.vars.now in
    none_checked (λ v pair. IsFromZero vars pair.var) c.args.pairs.now

pub loop-pair-preserved : goal.loop-pair-preserved
loop-pair-preserved c =
    let vars = map var_of c.args.vars.now in
    let item = c.pair-item in
    let told = c.is_from_zero-all.ensures in
    more_checked (λ v pair. IsFromZero vars pair.var) c.args.pairs.now c.loop-pair.pair-index
    item.result c.loop-pair-test.true item.is c.loop-pair.all c.loop-pair.invariant
    c.is_from_zero-all.result told

pub returns : goal.returns
returns c =
    let vars = map var_of c.args.vars.now in
    let pairs = c.args.pairs.now in
    let told =
    all_checked (λ v pair. IsFromZero vars pair.var) pairs c.loop-pair.pair-index c.loop-pair.all
    (omega arith) (omega arith) c.loop-pair.invariant
    in
    all_mapped pair_of (λ pair. IsFromZero vars pair.var) pairs c.loop-pair.all told
