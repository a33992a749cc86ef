use Rattle.std.proofs.Common.{◌≡◌, drop}
use Rattle.zr_base.specs.Terms.{coef_at}
use Rattle.zr_mix.proofs.slopes.number_at.Given as goal

abbrev pub invariant-loop-column : goal.invariant-loop-column
invariant-loop-column l = coef_at l.terms l.v ≡ coef_at (drop l.column-index l.terms) l.v
