use Rattle.zr_mix.proofs.Products.{ValueOf}
use Rattle.zr_mix.proofs.values.value.Given as goal

abbrev pub invariant-loop-v : goal.invariant-loop-v
invariant-loop-v l = ValueOf l.slope l.mean l.v l.sum
