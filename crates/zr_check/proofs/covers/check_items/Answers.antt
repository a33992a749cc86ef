use Rattle.std.proofs.Common.{arith, map}
use Rattle.std.proofs.lemmas.List.{length-map}
use Rattle.std.proofs.lemmas.Result.{err_from_is_err_and}
use Rattle.zr_game.specs.Named.{named_of}
use Rattle.zr_game.proofs.Items.{found, item}
use Rattle.zr_cert.specs.Forms.{IsNamedForm}
use Rattle.zr_check.proofs.CoverWalks.{all_items, items_refused, next_item}
use Rattle.zr_check.proofs.covers.check_items.Goals as goal

pub check_item-requires-clause-form : goal.check_item-requires-clause-form
check_item-requires-clause-form c =
    item named_of IsNamedForm c.args.items.now c.loop-k.k c.index-items-k.result c.requires.forms
    c.loop-k-test.true c.index-items-k.is

pub returns-in_err-check_item-clause-err : goal.returns-in_err-check_item-clause-err
returns-in_err-check_item-clause-err c player is =
    let p = err_from_is_err_and c.from_residual.result c.from_residual.ensures.1 in
    let here = found named_of c.args.items.now c.loop-k.k c.index-items-k.result
    c.loop-k-test.true c.index-items-k.is in
    rw (p.1, p.2) (items_refused player (map named_of c.args.items.now) c.loop-k.k
    (c.loop-k.invariant player is) (named_of c.index-items-k.result) here c.args.line _
    (c.in_err-check_item.ensures.err player is))

pub loop-k-preserved : goal.loop-k-preserved
loop-k-preserved c player is =
    let here = found named_of c.args.items.now c.loop-k.k c.index-items-k.result
    c.loop-k-test.true c.index-items-k.is in
    next_item player (map named_of c.args.items.now) c.loop-k.k (c.loop-k.invariant player is)
    (named_of c.index-items-k.result) here (c.in_ok-check_item.ensures.ok player is c.loop-k.k)

pub returns-clause-ok : goal.returns-clause-ok
returns-clause-ok c player is =
    let l = length-map c.args.items.now named_of in
    all_items player (map named_of c.args.items.now) c.loop-k.k (c.loop-k.invariant player is)
    (omega (arith, l, c.loop-k-test.false))
