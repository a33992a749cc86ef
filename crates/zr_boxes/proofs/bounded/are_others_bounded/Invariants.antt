use Rattle.zr_game.proofs.Checks.{Checked}
use Rattle.zr_boxes.specs.Paths.{box_of}
use Rattle.zr_boxes.specs.Ranges.{HasRange}
use Rattle.zr_boxes.proofs.bounded.are_others_bounded.Given as goal

abbrev pub invariant-loop-term : goal.invariant-loop-term
invariant-loop-term l =
    Checked l.term-index (λ k t. HasRange (box_of l.leaves) t.player t.var) l.cross l.all
