use Rattle.std.proofs.Common.{rules, FitsSigned}
use Rattle.std.proofs.lemmas.Int.{to_z-of_z}
use Rattle.std.specs.Int.{w128}
use Rattle.zr_simplex.proofs.row.coprime_parts.Goals as goal

pub divided-requires-clause-divides : goal.divided-requires-clause-divides
divided-requires-clause-divides c =
    let p : FitsSigned w128 c.args.p = search rules in
    let g : FitsSigned w128 c.common-over.result = search rules in
    simp to_z-of_z (simp to_z-of_z at c.common-over.ensures.gcd.0)

pub divided-requires-2-clause-divides : goal.divided-requires-2-clause-divides
divided-requires-2-clause-divides c =
    let a : FitsSigned w128 c.args.a = search rules in
    let g : FitsSigned w128 c.common-over.result = search rules in
    simp to_z-of_z (simp to_z-of_z at c.common-over.ensures.gcd.1)

pub returns : goal.returns
returns c =
    let p : FitsSigned w128 c.args.p = search rules in
    let a : FitsSigned w128 c.args.a = search rules in
    let g : FitsSigned w128 c.common-over.result = search rules in
    let x : FitsSigned w128 c.divided.result = search rules in
    let y : FitsSigned w128 c.divided-2.result = search rules in
    simp to_z-of_z (record {
      over = c.common-over.result;
      positive = c.common-over.ensures.positive;
      gcd = simp to_z-of_z at c.common-over.ensures.gcd;
      first = simp to_z-of_z at c.divided.ensures.exact;
      second = simp to_z-of_z at c.divided-2.ensures.exact;
    })
