use Rattle.std.proofs.Common.{map}
use Rattle.zr_game.specs.Games.{game_of}
use Rattle.zr_cert.specs.Certs.{mixture_of}
use Rattle.zr_check.proofs.StrategyWalks.{StrategiesTo}
use Rattle.zr_check.proofs.strategies.check_strategies.Given as goal

abbrev pub invariant-loop-i : goal.invariant-loop-i
invariant-loop-i l = StrategiesTo (game_of l.game) l.kind (map mixture_of l.strategies) l.i l.line l.means
