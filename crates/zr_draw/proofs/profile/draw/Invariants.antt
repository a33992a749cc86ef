use Rattle.std.proofs.Common.{map}
use Rattle.zr_game.specs.Games.{game_of}
use Rattle.zr_cert.specs.Certs.{mixture_of}
use Rattle.zr_system.specs.Regions.{leaves_of}
use Rattle.zr_draw.specs.Numbers.{numbers_of}
use Rattle.zr_draw.proofs.Tidied.{AreTidied}
use Rattle.zr_draw.proofs.profile.draw.Given as goal

abbrev pub invariant-loop-i : goal.invariant-loop-i
invariant-loop-i l =
    AreTidied (game_of l.game) (leaves_of l.leaves)
    (numbers_of (game_of l.game) (leaves_of l.leaves) l.x) l.i (map mixture_of l.strategies.items)
