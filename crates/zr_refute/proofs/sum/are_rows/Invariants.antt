use Rattle.std.proofs.Common.{◌<◌, ◌↔◌, ℕ, pos, IsTrue, get_or, length}
use Rattle.zr_game.specs.Games.{game_of}
use Rattle.zr_system.specs.Lines.{all_lines}
use Rattle.zr_system.specs.Regions.{leaves_of}
use Rattle.zr_refute.proofs.sum.are_rows.Given as goal

abbrev pub invariant-loop-row : goal.invariant-loop-row
invariant-loop-row l = IsTrue l.all ↔ ((m : ℕ) → m < l.row-index
    → (get_or l.mult m (0, pos 0)).0 < length (all_lines (game_of l.game) (leaves_of l.leaves)
    l.path))
