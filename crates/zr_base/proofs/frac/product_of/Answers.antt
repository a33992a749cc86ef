use Rattle.std.proofs.Common.{rules, arith, ◌≡◌, ◌∙◌, sym, pos, FitsSigned}
use Rattle.std.specs.Int.{w128}
use Rattle.std.proofs.lemmas.Int.{ints, to_z-of_z}
use Rattle.std.proofs.lemmas.Result.{err_from_is_err_and}
use Rattle.zr_base.specs.Steps.{cross_of}
use Rattle.zr_base.specs.Fractions.{Fraction}
use Rattle.zr_base.specs.Lowest.{reduce}
use Rattle.zr_base.proofs.CrossLaws.{cross_ok}
use Rattle.zr_base.proofs.Reduced.{product_num_wide, product_den_wide, product_made, ratio_made}
use Rattle.zr_base.proofs.frac.product_of.Goals as goal
use Rattle.zr_base.proofs.frac.product_of.Goals.{After-lowest_terms-a_left, After-lowest_terms-c_left, After-cross, After-cross-2}

outer : (c : After-lowest_terms-a_left) → let f : Fraction = record { num = c.lowest_terms-a_left.result.0; den = c.lowest_terms-a_left.result.1 } in f ≡ reduce c.args.a c.args.d
outer c =
    let f0 : FitsSigned w128 c.args.a = search rules in
    let f1 : FitsSigned w128 c.args.d = search rules in
    simp to_z-of_z at c.lowest_terms-a_left.ensures.value

inner : (c : After-lowest_terms-c_left) → let f : Fraction = record { num = c.lowest_terms-c_left.result.0; den = c.lowest_terms-c_left.result.1 } in f ≡ reduce c.args.c c.args.b
inner c =
    let f0 : FitsSigned w128 c.args.c = search rules in
    let f1 : FitsSigned w128 c.args.b = search rules in
    simp to_z-of_z at c.lowest_terms-c_left.ensures.value

num_step : (c : After-cross) → cross_of (c.lowest_terms-a_left.result.0, c.lowest_terms-c_left.result.0) (pos 0, pos 0) ≡ c.cross.result
num_step c =
    let f0 : FitsSigned w128 c.lowest_terms-a_left.result.0 = search rules in
    let f1 : FitsSigned w128 c.lowest_terms-c_left.result.0 = search rules in
    sym (simp to_z-of_z at c.cross.ensures)

den_step : (c : After-cross-2) → cross_of (c.lowest_terms-c_left.result.1, c.lowest_terms-a_left.result.1) (pos 0, pos 0) ≡ c.cross-2.result
den_step c =
    let f0 : FitsSigned w128 c.lowest_terms-c_left.result.1 = search rules in
    let f1 : FitsSigned w128 c.lowest_terms-a_left.result.1 = search rules in
    sym (simp to_z-of_z at c.cross-2.ensures)

pub returns-in_err-num : goal.returns-in_err-num
returns-in_err-num c =
    let at = goal.at.returns-in_err-num c in
    let p = err_from_is_err_and c.from_residual.result c.from_residual.ensures.1 in
    rw (p.1, p.2) (product_num_wide _ _ _ _ _ _ _ _ (outer at.After-lowest_terms-a_left) (inner at.After-lowest_terms-c_left) _ (num_step at.After-cross ∙ c.in_err-num.was))

pub returns-in_err-den : goal.returns-in_err-den
returns-in_err-den c =
    let at = goal.at.returns-in_err-den c in
    let p = err_from_is_err_and c.from_residual-in_err-den.result c.from_residual-in_err-den.ensures.1 in
    rw (p.1, p.2) (product_den_wide _ _ _ _ _ _ _ _ (outer at.After-lowest_terms-a_left) (inner at.After-lowest_terms-c_left) _ _ (num_step at.After-cross ∙ c.in_ok-num.was) (den_step at.After-cross-2 ∙ c.in_err-den.was))

pub reduced-requires : goal.reduced-requires
reduced-requires c =
    let at = goal.at.reduced-requires c in
    let n = num_step at.After-cross ∙ c.in_ok-num.was in
    let d = den_step at.After-cross-2 ∙ c.in_ok-den.was in
    let f : FitsSigned w128 c.in_ok-num.num = omega (arith, ints, (cross_ok _ _ _ (sym n)).1) in
    let g : FitsSigned w128 c.in_ok-den.den = omega (arith, ints, (cross_ok _ _ _ (sym d)).1) in
    simp to_z-of_z (ratio_made (_, _) _ _ _ _ c.lowest_terms-c_left.ensures.lowest.ratio.positive c.lowest_terms-a_left.ensures.lowest.ratio.positive n d)

pub returns : goal.returns
returns c =
    let at = goal.at.returns c in
    let n = num_step at.After-cross ∙ c.in_ok-num.was in
    let d = den_step at.After-cross-2 ∙ c.in_ok-den.was in
    let f : FitsSigned w128 c.in_ok-num.num = omega (arith, ints, (cross_ok _ _ _ (sym n)).1) in
    let g : FitsSigned w128 c.in_ok-den.den = omega (arith, ints, (cross_ok _ _ _ (sym d)).1) in
    rw c.reduced.ensures (simp to_z-of_z (product_made _ _ _ _ _ _ _ _ (outer at.After-lowest_terms-a_left) (inner at.After-lowest_terms-c_left) _ _ n d))
