use Rattle.std.proofs.Common.{map}
use Rattle.zr_game.specs.Forms.{IsPlayer}
use Rattle.zr_game.specs.Games.{game_of}
use Rattle.zr_game.specs.Named.{named_of}
use Rattle.zr_game.specs.Players.{PlayerOf}
use Rattle.zr_check.proofs.CoverWalks.{ItemsTo}
use Rattle.zr_check.proofs.covers.check_items.Given as goal

abbrev pub invariant-loop-k : goal.invariant-loop-k
invariant-loop-k l =
    (player : PlayerOf) → IsPlayer (game_of l.game) l.i player
    → ItemsTo player (map named_of l.items) l.k
