use Rattle.std.proofs.Common.{◌≡◌, drop}
use Rattle.zr_base.specs.Terms.{coef_at}
use Rattle.zr_box_search.proofs.slope.number_at.Given as goal

abbrev pub invariant-loop-var : goal.invariant-loop-var
invariant-loop-var l = coef_at l.terms l.v ≡ coef_at (drop l.var-index l.terms) l.v
