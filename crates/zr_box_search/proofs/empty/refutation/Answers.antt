use Rattle.zr_game.specs.Games.{game_of}
use Rattle.zr_game.specs.Players.{player_of}
use Rattle.zr_box_search.proofs.empty.refutation.Goals as goal

pub asked_refutation-requires-clause-player : goal.asked_refutation-requires-clause-player
asked_refutation-requires-clause-player c = (
  game_of c.args.game.now,
  c.args.game.now.sound.players c.args.i (player_of c.args.player.now) c.requires.player,
)
