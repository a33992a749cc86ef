use Rattle.zr_game.specs.Games.{game_of}
use Rattle.zr_game.specs.Players.{player_of}
use Rattle.zr_boxes.specs.Paths.{box_of}
use Rattle.zr_box_search.proofs.Bounding.{near_player}
use Rattle.zr_box_search.proofs.early.early_point.Goals as goal

pub likely_point-requires : goal.likely_point-requires
likely_point-requires c = (
  c.args.i,
  near_player (game_of c.args.game.now) c.args.game.now.sound (box_of c.args.leaves.now)
      c.requires.ranged c.args.i (player_of c.args.player.now) c.requires.player,
)
