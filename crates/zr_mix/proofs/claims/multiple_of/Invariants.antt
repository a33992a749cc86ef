use Rattle.zr_mix.proofs.Multiples.{Carried}
use Rattle.zr_mix.proofs.claims.multiple_of.Given as goal

abbrev pub invariant-loop-f : goal.invariant-loop-f
invariant-loop-f l = Carried l.slope l.f-index l.shared
