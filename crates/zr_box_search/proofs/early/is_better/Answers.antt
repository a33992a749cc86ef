use Rattle.zr_game.specs.Games.{game_of}
use Rattle.zr_game.specs.Players.{player_of}
use Rattle.zr_boxes.specs.Paths.{box_of}
use Rattle.zr_box_search.proofs.Bounding.{near_player}
use Rattle.zr_box_search.proofs.Wholes.{better_whole, near_whole}
use Rattle.zr_box_search.proofs.early.is_better.Goals as goal

pub gains-requires-clause-player : goal.gains-requires-clause-player
gains-requires-clause-player c =
    near_player (game_of c.args.game.now) c.args.game.now.sound (box_of c.args.leaves.now)
    c.requires.ranged c.args.i (player_of c.args.player.now) c.requires.player

pub gains-requires-clause-point : goal.gains-requires-clause-point
gains-requires-clause-point c =
    near_whole (game_of c.args.game.now) c.args.game.now.sound c.args.i
    (player_of c.args.player.now) c.requires.player
    (c.requires.whole c.args.i (player_of c.args.player.now) c.requires.player) c.args.point.now
    (c.is_point_of.ensures c.if-not-is_point_of.false) c.requires.den

pub returns : goal.returns
returns c e =
    better_whole (game_of c.args.game.now) c.args.game.now.sound c.args.i
    (player_of c.args.player.now) c.requires.player
    (c.requires.whole c.args.i (player_of c.args.player.now) c.requires.player) c.args.point.now
    (c.is_point_of.ensures c.if-not-is_point_of.false) c.requires.den (box_of c.args.leaves.now)
    c.requires.ranged (c.gains.ensures e)
