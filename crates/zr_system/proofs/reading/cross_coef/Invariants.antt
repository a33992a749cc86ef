use Rattle.std.proofs.Common.{◌≡◌, drop}
use Rattle.zr_system.specs.Regions as content
use Rattle.zr_system.proofs.reading.cross_coef.Given as goal

abbrev pub invariant-loop-term : goal.invariant-loop-term
invariant-loop-term l = content.cross_coef l.terms l.v l.k l.u ≡ content.cross_coef
    (drop l.term-index l.terms) l.v l.k l.u
