use Rattle.std.proofs.Common.{◌≡◌, ◌+◌, subst, sym, map}
use Rattle.zr_game.specs.Games.{game_of}
use Rattle.zr_game.specs.Named.{named_of}
use Rattle.zr_game.specs.Players.{player_of}
use Rattle.zr_naming.specs.Offers.{AreNamedBelow, with_found}
use Rattle.zr_naming.proofs.Naming.{ray_put, skipped}
use Rattle.zr_naming.proofs.Results.{on_ok}
use Rattle.zr_naming.proofs.items.put_ray.Goals as goal

pub returns-then-is_changed-clause-items : goal.returns-then-is_changed-clause-items
returns-then-is_changed-clause-items c =
    skipped (game_of c.args.game.now) c.args.i (player_of c.args.player.now) c.args.v
    (map named_of c.args.items.now.items) c.requires.items
    (rw c.deref.ensures.value at (c.is_changed.ensures c.if-is_changed.true))

pub returns-in-Ok-clause-items : goal.returns-in-Ok-clause-items
returns-in-Ok-clause-items c =
    let game = game_of c.args.game.now in
    let player = player_of c.args.player.now in
    let items = map named_of c.args.items.now.items in
    on_ok c.put.result (map named_of c.put.new.items.items ≡ with_found items c.in-Ok.item)
    (AreNamedBelow game c.args.i player (c.args.v + 1) (map named_of c.put.new.items.items))
    (λ e. subst (AreNamedBelow game c.args.i player (c.args.v + 1)) (sym e)
    (ray_put game c.args.i player c.args.v items c.in-Ok.item c.requires.items
    c.in-Ok.ensures.found)) c.put.ensures.items

pub returns-in-Ok-clause-cause : goal.returns-in-Ok-clause-cause
returns-in-Ok-clause-cause c = c.put.ensures.cause c.args.i (player_of c.args.player.now)
