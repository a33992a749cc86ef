use Rattle.zr_game.specs.Forms.{IsPlayer}
use Rattle.zr_game.specs.Games.{game_of}
use Rattle.zr_game.specs.Players.{PlayerOf}
use Rattle.zr_cert.specs.Certs.{mixture_of}
use Rattle.zr_check.proofs.MixtureWalks.{WalkedTo}
use Rattle.zr_check.proofs.strategies.check_strategy.Given as goal

abbrev pub invariant-loop-k : goal.invariant-loop-k
invariant-loop-k l =
    (player : PlayerOf) → IsPlayer (game_of l.game) l.i player → WalkedTo l.kind player (mixture_of l.strategy) l.k l.sum l.means
