use Rattle.std.proofs.Common.{◌≡◌, ◌==◌, drop}
use Rattle.std.specs.List.{list_any}
use Rattle.zr_boxes.proofs.slope.is_in_cross.Given as goal

abbrev pub invariant-loop-term : goal.invariant-loop-term
invariant-loop-term l =
    list_any (λ t. t.own == l.v) l.cross ≡ list_any (λ t. t.own == l.v) (drop l.term-index l.cross)
