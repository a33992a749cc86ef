use Rattle.std.proofs.Common.{◌≡◌, subst, map}
use Rattle.std.specs.Prelude.{IfErr, IfOk}
use Rattle.zr_game.specs.Players.{PlayerOf, player_of}
use Rattle.zr_game.specs.Forms.{IsPlayer}
use Rattle.zr_game.specs.Games.{game_of}
use Rattle.zr_game.specs.Named.{named_of}
use Rattle.zr_game.proofs.Items.{found, one, read_below}
use Rattle.zr_naming.specs.Causes.{IsNamingCause}
use Rattle.zr_naming.specs.Items.{AreNamedItems}
use Rattle.zr_naming.proofs.items.named_items.Goals as goal
use Rattle.zr_naming.proofs.items.named_items.Goals.{After-index-player}

module _ (c : After-index-player) where
  pub is_player : IsPlayer (game_of c.args.game.now) c.args.i (player_of c.index-player.result.now)
  is_player =
      found player_of c.args.game.now.players.items c.args.i c.index-player.result.now
      (read_below player_of c.args.game.now.players.items c.args.i c.requires.number)
      c.index-player.ensures

  pub same : (player : PlayerOf) → IsPlayer (game_of c.args.game.now) c.args.i player
      → player_of c.index-player.result.now ≡ player
  same player is =
      one (game_of c.args.game.now) c.args.i (player_of c.index-player.result.now) player
      is_player is

pub items_of-requires-clause-some : goal.items_of-requires-clause-some
items_of-requires-clause-some c =
    let at = (goal.at.items_of-requires-clause-some c).After-index-player in (
      game_of c.args.game.now,
      c.args.game.now.sound.players c.args.i (player_of c.index-player.result.now) (is_player at),
    )

pub returns-clause-items : goal.returns-clause-items
returns-clause-items c player is =
    let at = (goal.at.returns-clause-items c).After-index-player in
    subst (λ (p : PlayerOf). IfOk c.items_of.result
    (λ list. AreNamedItems (game_of c.args.game.now) c.args.i p (map named_of list.items)))
    (same at player is) c.items_of.ensures.items

pub returns-clause-cause : goal.returns-clause-cause
returns-clause-cause c player is =
    let at = (goal.at.returns-clause-cause c).After-index-player in
    subst (λ (p : PlayerOf). IfErr c.items_of.result (IsNamingCause c.args.i p))
    (same at player is) c.items_of.ensures.cause
