use Rattle.std.proofs.Common.{rules, ◌≡◌, FitsSigned}
use Rattle.std.specs.Int.{w128}
use Rattle.std.proofs.lemmas.Int.{to_z-of_z}
use Rattle.zr_base.specs.Fractions.{Fraction}
use Rattle.zr_base.specs.Lowest.{reduce}
use Rattle.zr_base.proofs.Reduced.{reduce_lowest, reduce_is}
use Rattle.zr_base.proofs.euclid.lowest_terms.Goals as goal
use Rattle.zr_base.proofs.euclid.lowest_terms.Goals.{After-divided-2}

pub divided-requires-clause-divides : goal.divided-requires-clause-divides
divided-requires-clause-divides c =
    let s : FitsSigned w128 c.common-shared.result = search rules in
    simp to_z-of_z c.common-shared.ensures.gcd.0

pub divided-requires-2-clause-divides : goal.divided-requires-2-clause-divides
divided-requires-2-clause-divides c =
    let s : FitsSigned w128 c.common-shared.result = search rules in
    simp to_z-of_z c.common-shared.ensures.gcd.1

made : (c : After-divided-2) → let f : Fraction = record { num = c.divided.result; den = c.divided-2.result } in f ≡ reduce c.args.num c.args.den
made c =
    let s : FitsSigned w128 c.common-shared.result = search rules in
    let n : FitsSigned w128 c.args.num = search rules in
    let d : FitsSigned w128 c.args.den = search rules in
    reduce_is c.args.num c.args.den c.common-shared.result c.divided.result c.divided-2.result (simp to_z-of_z at c.common-shared.ensures.value) (simp to_z-of_z at c.divided.ensures.value) (simp to_z-of_z at c.divided-2.ensures.value)

pub returns-clause-value : goal.returns-clause-value
returns-clause-value c =
    let n : FitsSigned w128 c.divided.result = search rules in
    let d : FitsSigned w128 c.divided-2.result = search rules in
    simp to_z-of_z (made c)

pub returns-clause-lowest : goal.returns-clause-lowest
returns-clause-lowest c =
    let n : FitsSigned w128 c.divided.result = search rules in
    let d : FitsSigned w128 c.divided-2.result = search rules in
    simp to_z-of_z (rw (made c) (reduce_lowest c.args.num c.args.den c.requires))
