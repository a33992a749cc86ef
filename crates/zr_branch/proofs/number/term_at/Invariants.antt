use Rattle.std.proofs.Common.{◌≡◌, drop}
use Rattle.zr_base.specs.Terms.{coef_at}
use Rattle.zr_branch.proofs.number.term_at.Given as goal

abbrev pub invariant-loop-other : goal.invariant-loop-other
invariant-loop-other l =
    coef_at (drop l.other-index l.terms) l.column ≡ coef_at l.terms l.column
