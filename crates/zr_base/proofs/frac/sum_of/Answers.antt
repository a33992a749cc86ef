use Rattle.std.proofs.Common.{rules, arith, ◌≡◌, ◌∙◌, sym, pos, ◌-ℤ◌, ℤ, FitsSigned}
use Rattle.std.specs.Int.{w128}
use Rattle.std.proofs.lemmas.Int.{ints, to_z-of_z}
use Rattle.std.proofs.lemmas.Result.{err_from_is_err_and}
use Rattle.zr_base.specs.Steps.{cross_of}
use Rattle.zr_base.specs.Fractions.{Fraction}
use Rattle.zr_base.specs.Lowest.{IsLowest, reduce}
use Rattle.zr_base.proofs.CrossLaws.{cross_ok}
use Rattle.zr_base.proofs.Reduced.{sum_num_wide, sum_den_wide, sum_made, ratio_made}
use Rattle.zr_base.proofs.frac.sum_of.Goals as goal
use Rattle.zr_base.proofs.frac.sum_of.Goals.{After-lowest_terms-left, After-cross, After-cross-2}

record Parts (b d l r : ℤ) : Type 0 where
  value : let f : Fraction = record { num = l; den = r } in f ≡ reduce b d
  lowest : IsLowest (record { num = l; den = r })

parts : (c : After-lowest_terms-left) → Parts c.args.b c.args.d c.lowest_terms-left.result.0 c.lowest_terms-left.result.1
parts c =
    let b : FitsSigned w128 c.args.b = search rules in
    let d : FitsSigned w128 c.args.d = search rules in
    let l : FitsSigned w128 c.lowest_terms-left.result.0 = search rules in
    let r : FitsSigned w128 c.lowest_terms-left.result.1 = search rules in
    record {
      value = simp to_z-of_z at c.lowest_terms-left.ensures.value;
      lowest = c.lowest_terms-left.ensures.lowest;
    }

num_step : (c : After-cross) → cross_of (c.args.a, c.lowest_terms-left.result.1) (pos 0 -ℤ c.args.c, c.lowest_terms-left.result.0) ≡ c.cross.result
num_step c =
    let a : FitsSigned w128 c.args.a = search rules in
    let d : FitsSigned w128 c.args.c = search rules in
    let l : FitsSigned w128 c.lowest_terms-left.result.0 = search rules in
    let r : FitsSigned w128 c.lowest_terms-left.result.1 = search rules in
    let m : FitsSigned w128 (pos 0 -ℤ c.args.c) = omega (arith, ints, c.requires.right.narrow_num) in
    sym (simp to_z-of_z at c.cross.ensures)

den_step : (c : After-cross-2) → cross_of (c.args.b, c.lowest_terms-left.result.1) (pos 0, pos 0) ≡ c.cross-2.result
den_step c =
    let b : FitsSigned w128 c.args.b = search rules in
    let r : FitsSigned w128 c.lowest_terms-left.result.1 = search rules in
    sym (simp to_z-of_z at c.cross-2.ensures)

pub returns-in_err-num : goal.returns-in_err-num
returns-in_err-num c =
    let at = goal.at.returns-in_err-num c in
    let p = err_from_is_err_and c.from_residual.result c.from_residual.ensures.1 in
    rw (p.1, p.2) (sum_num_wide _ _ _ _ _ _ (parts at.After-lowest_terms-left).value _ (num_step at.After-cross ∙ c.in_err-num.was))

pub returns-in_err-den : goal.returns-in_err-den
returns-in_err-den c =
    let at = goal.at.returns-in_err-den c in
    let p = err_from_is_err_and c.from_residual-in_err-den.result c.from_residual-in_err-den.ensures.1 in
    rw (p.1, p.2) (sum_den_wide _ _ _ _ _ _ (parts at.After-lowest_terms-left).value _ _ (num_step at.After-cross ∙ c.in_ok-num.was) (den_step at.After-cross-2 ∙ c.in_err-den.was))

pub reduced-requires : goal.reduced-requires
reduced-requires c =
    let at = goal.at.reduced-requires c in
    let n = num_step at.After-cross ∙ c.in_ok-num.was in
    let d = den_step at.After-cross-2 ∙ c.in_ok-den.was in
    let f : FitsSigned w128 c.in_ok-num.num = omega (arith, ints, (cross_ok _ _ _ (sym n)).1) in
    let g : FitsSigned w128 c.in_ok-den.den = omega (arith, ints, (cross_ok _ _ _ (sym d)).1) in
    simp to_z-of_z (ratio_made (_, _) _ _ _ _ c.requires.left.positive (parts at.After-lowest_terms-left).lowest.ratio.positive n d)

pub returns : goal.returns
returns c =
    let at = goal.at.returns c in
    let n = num_step at.After-cross ∙ c.in_ok-num.was in
    let d = den_step at.After-cross-2 ∙ c.in_ok-den.was in
    let f : FitsSigned w128 c.in_ok-num.num = omega (arith, ints, (cross_ok _ _ _ (sym n)).1) in
    let g : FitsSigned w128 c.in_ok-den.den = omega (arith, ints, (cross_ok _ _ _ (sym d)).1) in
    rw c.reduced.ensures (simp to_z-of_z (sum_made _ _ _ _ _ _ (parts at.After-lowest_terms-left).value _ _ n d))
