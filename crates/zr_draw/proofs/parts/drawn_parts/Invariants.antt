use Rattle.std.proofs.Common.{◌≡◌, map}
use Rattle.zr_game.specs.Games.{game_of}
use Rattle.zr_mix.specs.Mixtures.{part_of}
use Rattle.zr_system.specs.Drawn.{drawn_to}
use Rattle.zr_system.specs.Regions.{leaves_of}
use Rattle.zr_draw.specs.Numbers.{numbers_of}
use Rattle.zr_draw.proofs.parts.drawn_parts.Given as goal

abbrev pub invariant-loop-k : goal.invariant-loop-k
invariant-loop-k l =
    map part_of l.parts.items ≡ drawn_to (game_of l.game)
    (numbers_of (game_of l.game) (leaves_of l.leaves) l.x) l.i l.k
