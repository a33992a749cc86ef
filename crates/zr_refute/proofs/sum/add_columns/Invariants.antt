use Rattle.std.proofs.Common.{◌≡◌, ◌<◌, ◌≤◌, ℕ, pos, Ok, get_or}
use Rattle.zr_base.specs.declared.step.Wide.{Wide}
use Rattle.zr_base.specs.Sums.{sum_step}
use Rattle.zr_game.specs.Games.{game_of}
use Rattle.zr_system.specs.declared.unknown.Unknown.TheVariants.{One}
use Rattle.zr_system.specs.Asked.{IsWideAt}
use Rattle.zr_system.specs.Regions.{leaves_of}
use Rattle.zr_refute.specs.Sums.{line_number}
use Rattle.zr_refute.proofs.sum.add_columns.Given as goal

abbrev pub invariant-loop-j : goal.invariant-loop-j
invariant-loop-j l = record {
  done : (k : ℕ) → k < l.j → sum_step (get_or l.initial.sums k (pos 0))
      (l.by, line_number (game_of l.game) (leaves_of l.leaves) l.line (get_or l.order k One))
      ≡ Ok (get_or l.sums k (pos 0));
  rest : (k : ℕ) → l.j ≤ k → get_or l.sums k (pos 0) ≡ get_or l.initial.sums k (pos 0);
  none : (k : ℕ) (w : Wide) → k < l.j
      → IsWideAt (game_of l.game) (leaves_of l.leaves) l.line (get_or l.order k One) w → ⊥;
}
