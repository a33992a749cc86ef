use Rattle.zr_game.proofs.Checks.{Checked}
use Rattle.zr_game.specs.Named.{named_of}
use Rattle.zr_check.specs.Covers.{IsItemOfLength}
use Rattle.zr_check.proofs.cover_room.are_of_length.Given as goal

abbrev pub invariant-loop-item : goal.invariant-loop-item
invariant-loop-item l =
    Checked l.item-index (λ k item. IsItemOfLength l.vars (named_of item)) l.items l.all
