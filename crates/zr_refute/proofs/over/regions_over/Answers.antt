use Rattle.std.proofs.Common.{◌≡◌, true}
use Rattle.std.specs.Result.{is_ok}
use Rattle.zr_game.specs.Games.{game_of}
use Rattle.zr_refute.proofs.Covering.{covers_all, covers_more}
use Rattle.zr_refute.proofs.over.regions_over.Goals as goal

pub loop-i-preserved : goal.loop-i-preserved
loop-i-preserved c =
    let game = game_of c.args.game.now in
    let new = c.in_ok-list.ensures in
    let e : is_ok c.push.result ≡ true = c.if-is_err.ensures.negation in
    rw (c.push.ensures.items, e) (covers_more game c.args.covers.now c.loop-i.i c.loop-i.lists.items c.loop-i.invariant c.requires c.index-covers-i.result c.loop-i-test.true c.index-covers-i.is c.in_ok-list.list new.few new.leaf new.content)

pub returns-clause-leaf : goal.returns-clause-leaf
returns-clause-leaf c i player is list e = c.loop-i.invariant.leaf i list e player is

pub returns-clause-content : goal.returns-clause-content
returns-clause-content c trees e =
    covers_all (game_of c.args.game.now) c.args.covers.now c.loop-i.i c.loop-i.lists.items c.loop-i.invariant c.requires c.loop-i-test.false trees e
