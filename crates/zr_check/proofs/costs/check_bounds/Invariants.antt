use Rattle.std.proofs.Common.{map}
use Rattle.zr_game.specs.Games.{game_of}
use Rattle.zr_cert.specs.Certs.{bound_of}
use Rattle.zr_check.proofs.BoundWalks.{BoundsTo}
use Rattle.zr_check.proofs.costs.check_bounds.Given as goal

abbrev pub invariant-loop-i : goal.invariant-loop-i
invariant-loop-i l = BoundsTo (game_of l.game) (map bound_of l.list) l.means l.fn.line l.i l.line l.fn.bench l.bench
