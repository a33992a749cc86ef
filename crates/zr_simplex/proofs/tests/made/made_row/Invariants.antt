use Rattle.std.proofs.Common.{◌*◌}
use Rattle.zr_base.specs.Terms.{Ascends}
use Rattle.zr_simplex.proofs.tests.made.made_row.Given as goal

abbrev pub invariant-loop-part : goal.invariant-loop-part
invariant-loop-part l = Ascends 0 (l.part * l.shape.stride) l.coef.items
