use Rattle.std.proofs.Common.{◌≡◌, slice_get, drop}
use Rattle.zr_game.specs.Games.{game_of}
use Rattle.zr_system.specs.Regions.{leaves_of}
use Rattle.zr_system.specs.Lines.{path_lines}
use Rattle.zr_refute.proofs.place.path_line.Given as goal

abbrev pub invariant-loop-choice : goal.invariant-loop-choice
invariant-loop-choice l =
    slice_get (path_lines (game_of l.game) (leaves_of l.leaves) l.path) l.n
    ≡ slice_get (path_lines (game_of l.game) (leaves_of l.leaves) (drop l.choice-index l.path))
    l.left
