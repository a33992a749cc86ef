use Rattle.zr_game.proofs.Checks.{Checked}
use Rattle.zr_boxes.specs.Paths.{box_of}
use Rattle.zr_boxes.specs.Ranges.{HasRange}
use Rattle.zr_boxes.proofs.bounded.are_own_bounded.Given as goal

abbrev pub invariant-loop-var : goal.invariant-loop-var
invariant-loop-var l =
    Checked l.var-index (λ k t. HasRange (box_of l.leaves) l.i t.0) l.cost l.all
