use Rattle.std.proofs.Common.{rules, arith, ◌∙◌, sym, refl, FitsSigned}
use Rattle.std.specs.Int.{w64, w128}
use Rattle.std.proofs.lemmas.Int.{ints, to_z-of_z}
use Rattle.zr_base.proofs.CrossLaws.{cross_ok}
use Rattle.zr_game.proofs.substitution.is_above.Goals as goal

pub returns-in_ok-product-in-Some : goal.returns-in_ok-product-in-Some
returns-in_ok-product-in-Some c =
    let u : FitsSigned w64 c.in-Some.low = search rules in
    let n : FitsSigned w128 c.args.num = search rules in
    let d : FitsSigned w128 c.args.den = search rules in
    let f : FitsSigned w128 c.in_ok-product-in-Some.field-0 = search rules in
    let e = sym (simp to_z-of_z at c.product.ensures) ∙ c.in_ok-product-in-Some.was in
    let v = (cross_ok _ _ _ (sym e)).0 in
    rw c.in-Some.is (
      rw e refl,
      simp to_z-of_z (
        λ h. omega (arith, ints, v, h),
        λ h. sym (omega (arith, ints, v, h)),
      ),
    )
