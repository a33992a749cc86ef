use Rattle.std.proofs.Common.{arith}
use Rattle.zr_game.specs.Games.{game_of}
use Rattle.zr_refute.proofs.Places.{off_length}
use Rattle.zr_refute.proofs.place.off_count.Goals as goal

pub returns-clause-count : goal.returns-clause-count
returns-clause-count c = λ k.
    omega (arith, off_length (game_of c.args.game.now) c.args.i k, c.var_count.ensures.count)
