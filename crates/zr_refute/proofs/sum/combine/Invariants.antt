use Rattle.std.proofs.Common.{◌<◌, ℕ, pos, take, get_or}
use Rattle.zr_base.specs.declared.step.Wide.{Wide}
use Rattle.zr_lin.specs.Combinations.{Combines}
use Rattle.zr_lin.specs.Ineqs.{row_at}
use Rattle.zr_game.specs.Games.{game_of}
use Rattle.zr_system.specs.Asked.{HasWideNumber, no_line}
use Rattle.zr_system.specs.Lines.{all_lines}
use Rattle.zr_system.specs.Regions.{leaves_of}
use Rattle.zr_system.specs.System.{system_rows}
use Rattle.zr_system.specs.Unknowns.{columns}
use Rattle.zr_refute.proofs.sum.combine.Given as goal

abbrev pub invariant-loop-row : goal.invariant-loop-row
invariant-loop-row l = record {
  sums : Combines (row_at (system_rows (game_of l.game) (leaves_of l.leaves) l.path))
      (take l.row-index l.mult) l.sums l.total;
  none : (m : ℕ) (w : Wide) → m < l.row-index
      → HasWideNumber (game_of l.game) (leaves_of l.leaves)
      (columns (game_of l.game) (leaves_of l.leaves))
      (get_or (all_lines (game_of l.game) (leaves_of l.leaves) l.path)
      (get_or l.mult m (0, pos 0)).0 no_line) w → ⊥;
}
