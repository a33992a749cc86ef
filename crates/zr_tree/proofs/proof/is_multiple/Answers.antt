use Rattle.std.proofs.Common.{◌≡◌, rules, arith, ◌∙◌, sym, refl, ◌*ℤ◌, FitsSigned}
use Rattle.std.specs.Int.{w128}
use Rattle.std.proofs.lemmas.Int.{ints, to_z-of_z}
use Rattle.zr_base.proofs.CrossLaws.{cross_ok}
use Rattle.zr_tree.proofs.proof.is_multiple.Goals as goal

pub returns : goal.returns
returns c =
    let a : FitsSigned w128 c.args.scale = search rules in
    let b : FitsSigned w128 c.args.number = search rules in
    let s : FitsSigned w128 c.args.sum = search rules in
    let f : FitsSigned w128 c.in_ok-product.product = search rules in
    let e = sym (simp to_z-of_z at c.cross.ensures) ∙ c.in_ok-product.was in
    let v = (cross_ok _ _ _ (sym e)).0 in
    let p : c.in_ok-product.product ≡ c.args.scale *ℤ c.args.number = omega (arith, ints, v) in
    (rw e refl, rw p at (simp to_z-of_z at c.is_same.ensures))
