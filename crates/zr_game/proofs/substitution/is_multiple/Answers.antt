use Rattle.std.proofs.Common.{rules, arith, ◌≡◌, unsigned_abs, FitsSigned}
use Rattle.std.specs.Int.{w128}
use Rattle.std.proofs.lemmas.Int.{to_z-of_z}
use Rattle.std.proofs.lemmas.Bool.Decides.{nat_tests}
use Rattle.zr_game.proofs.Multiples.{multiple_of, of_multiple}
use Rattle.zr_game.proofs.substitution.is_multiple.Goals as goal

pub returns : goal.returns
returns c =
    let f : FitsSigned w128 c.args.num = search rules in
    let g : FitsSigned w128 c.args.den = search rules in
    let a : c.unsigned_abs.result ≡ unsigned_abs c.args.num = simp to_z-of_z at
    c.unsigned_abs.ensures.value in
    let b : c.unsigned_abs-2.result ≡ unsigned_abs c.args.den = simp to_z-of_z at
    c.unsigned_abs-2.ensures.value in
    rw (a, b) (
      λ h. multiple_of c.args.num c.args.den (grind (arith, nat_tests, h)),
      λ h. let e = of_multiple c.args.num c.args.den h in grind (arith, nat_tests, e),
    )
