use Rattle.std.proofs.Common.{◌≡◌, ◌==◌, drop}
use Rattle.std.specs.List.{list_any}
use Rattle.zr_boxes.proofs.slope.is_in_terms.Given as goal

abbrev pub invariant-loop-var : goal.invariant-loop-var
invariant-loop-var l =
    list_any (λ t. t.0 == l.v) l.cost ≡ list_any (λ t. t.0 == l.v) (drop l.var-index l.cost)
