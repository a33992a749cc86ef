use Rattle.std.proofs.Common.{rules, subst, unsigned_abs, FitsSigned}
use Rattle.std.proofs.Math.Nat.{one-dvd}
use Rattle.std.proofs.lemmas.Int.{to_z-of_z}
use Rattle.std.specs.Int.{w128, ◌∣◌}
use Rattle.zr_simplex.proofs.row.with_number.Goals as goal

pub returns-then-common-eq1 : goal.returns-then-common-eq1
returns-then-common-eq1 c =
    (one-dvd c.args.common, one-dvd (unsigned_abs c.args.number), λ d h q. subst (λ n. d ∣ n) c.if-common-eq1.true h)

pub returns : goal.returns
returns c =
    let f : FitsSigned w128 c.args.number = search rules in
    simp to_z-of_z at (rw c.unsigned_abs.ensures.value at c.gcd.ensures.gcd)
