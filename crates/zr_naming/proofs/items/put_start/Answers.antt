use Rattle.std.proofs.Common.{◌≡◌, ap, subst, sym, ◌∙◌, map, [], List}
use Rattle.zr_game.specs.Games.{game_of}
use Rattle.zr_game.specs.Named.{NamedOf, NamedPoint, named_of}
use Rattle.zr_game.specs.Players.{player_of}
use Rattle.zr_naming.specs.Offers.{AreNamedBelow, IsOffered, with_found}
use Rattle.zr_naming.proofs.Naming.{start_put}
use Rattle.zr_naming.proofs.Results.{on_ok}
use Rattle.zr_naming.proofs.items.put_start.Goals as goal

pub returns-clause-items : goal.returns-clause-items
returns-clause-items c =
    let game = game_of c.args.game.now in
    let player = player_of c.args.player.now in
    let first = start_put game c.args.i player c.offered-item.result
    (rw c.in-Ok.ensures.point at c.offered-item.ensures) in
    on_ok c.put.result
    (map named_of c.put.new.items.items
    ≡ with_found (map named_of c.args.items.now.items) c.offered-item.result)
    (AreNamedBelow game c.args.i player 0 (map named_of c.put.new.items.items))
    (λ e. subst (AreNamedBelow game c.args.i player 0)
    (ap (λ xs. with_found (map named_of xs) c.offered-item.result) (sym c.requires.empty) ∙ sym e)
    first) c.put.ensures.items

pub returns-clause-cause : goal.returns-clause-cause
returns-clause-cause c = c.put.ensures.cause c.args.i (player_of c.args.player.now)
