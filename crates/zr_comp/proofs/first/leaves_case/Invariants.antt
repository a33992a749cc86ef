use Rattle.std.proofs.Common.{ℕ, ◌<◌}
use Rattle.zr_comp.specs.Cases.{HasSide}
use Rattle.zr_comp.proofs.first.leaves_case.Given as goal

abbrev pub invariant-loop-k : goal.invariant-loop-k
invariant-loop-k l = (m : ℕ) → m < l.k → HasSide l.path l.i m
