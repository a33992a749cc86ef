use Rattle.std.proofs.Common.{arith}
use Rattle.std.proofs.lemmas.Nat.Gcd.{IsGcd-from_zero, IsGcd-from_mod, same_from_IsGcd}
use Rattle.zr_base.specs.Lowest.{gcd_of}
use Rattle.zr_base.proofs.Gcds.{gcd_of_is}
use Rattle.zr_base.proofs.euclid.gcd.Goals as goal

pub loop-y-preserved : goal.loop-y-preserved
loop-y-preserved c g h = c.loop-y.invariant g (IsGcd-from_mod _ _ g (rw (← c.remainder-rest.ensures) h))

pub returns-clause-gcd : goal.returns-clause-gcd
returns-clause-gcd c = c.loop-y.invariant _ (IsGcd-from_zero _ _ (omega arith))

pub returns-clause-value : goal.returns-clause-value
returns-clause-value c =
    same_from_IsGcd c.args.a c.args.b c.loop-y.x (gcd_of c.args.a c.args.b) (c.loop-y.invariant _ (IsGcd-from_zero _ _ (omega arith))) (gcd_of_is c.args.a c.args.b)
