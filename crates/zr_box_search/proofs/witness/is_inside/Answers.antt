use Rattle.std.proofs.Common.{sym, ◌∙◌}
use Rattle.zr_game.specs.Games.{game_of}
use Rattle.zr_game.specs.Leaves.{leaf_of}
use Rattle.zr_game.specs.Players.{player_of}
use Rattle.zr_box_search.proofs.Wholes.{witness}
use Rattle.zr_box_search.proofs.witness.is_inside.Goals as goal

pub is_within-requires-clause-lows : goal.is_within-requires-clause-lows
is_within-requires-clause-lows c =
    c.requires.lengths.lows ∙ sym (c.is_point_of.ensures c.if-not-is_point_of.false).len

pub is_within-requires-clause-highs : goal.is_within-requires-clause-highs
is_within-requires-clause-highs c =
    c.requires.lengths.highs ∙ sym (c.is_point_of.ensures c.if-not-is_point_of.false).len

pub returns : goal.returns
returns c e =
    witness (game_of c.args.game.now) c.args.game.now.sound c.args.i
    (player_of c.args.player.now) c.requires.player c.requires.whole c.args.point.now
    (c.is_point_of.ensures c.if-not-is_point_of.false) c.requires.den (leaf_of c.args.leaf.now)
    (c.is_within.ensures.low e) (c.is_within.ensures.high e)
