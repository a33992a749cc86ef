use Rattle.std.proofs.Common.{rules, arith, ◌≡◌, refl, FitsSigned}
use Rattle.std.specs.Int.{w64, w128}
use Rattle.std.proofs.lemmas.Int.{ints, to_z-of_z}
use Rattle.zr_base.specs.Fractions.{whole}
use Rattle.zr_base.specs.Lowest.{IsLowest}
use Rattle.zr_base.proofs.Wholes.{lowest_whole}
use Rattle.zr_base.proofs.frac.FracFromI64.from.Goals as goal
use Rattle.zr_base.proofs.frac.FracFromI64.from.Goals.{After-from}

made : (c : After-from) → c.from.result ≡ c.args.z
made c =
    let z : FitsSigned w64 c.args.z = search rules in
    let f : FitsSigned w128 c.from.result = search rules in
    simp to_z-of_z at c.from.ensures

kept : (c : After-from) → IsLowest (whole c.from.result)
kept c =
    let z : FitsSigned w64 c.args.z = search rules in
    lowest_whole c.from.result (rw (made c) (omega (arith, ints, z)))

pub invariant_of-result : goal.invariant_of-result
invariant_of-result c =
    let f : FitsSigned w128 c.from.result = search rules in
    simp to_z-of_z (kept (goal.at.invariant_of-result c).After-from)

pub returns : goal.returns
returns c =
    let at = (goal.at.returns c).After-from in
    let f : FitsSigned w128 c.from.result = search rules in
    simp to_z-of_z (rw (made at) refl, kept at)
