use Rattle.std.proofs.Common.{rules, sym, FitsSigned}
use Rattle.std.specs.Int.{w128}
use Rattle.std.proofs.lemmas.Int.{to_z-of_z}
use Rattle.std.proofs.lemmas.Result.{err_from_is_err_and}
use Rattle.zr_mix.proofs.Claiming.{claimed, gives_wide, left_wide, made, slope_wide, value_wide}
use Rattle.zr_base.proofs.Made.{were_ok, were_wide}
use Rattle.zr_mix.proofs.Multiples.{least_multiple}
use Rattle.zr_mix.proofs.claims.claim.Goals as goal

pub returns-in_err-of_slope-clause-steps : goal.returns-in_err-of_slope-clause-steps
returns-in_err-of_slope-clause-steps c =
    let p = err_from_is_err_and c.from_residual.result c.from_residual.ensures.1 in
    rw (p.1, p.2)
    (gives_wide _ _ _
    (slope_wide c.args.slope.now c.args.value _ (sym c.in_err-of_slope.ensures.steps)))

pub returns-in_err-shared-clause-steps : goal.returns-in_err-shared-clause-steps
returns-in_err-shared-clause-steps c =
    let m : FitsSigned w128 c.in_ok-of_slope.of_slope = search rules in
    let p = err_from_is_err_and c.from_residual-in_err-shared.result
    c.from_residual-in_err-shared.ensures.1 in
    let e = simp to_z-of_z at c.in_err-shared.ensures.steps in
    rw (p.1, p.2)
    (gives_wide _ _ _
    (value_wide c.args.slope.now c.args.value c.in_ok-of_slope.of_slope
    (sym c.in_ok-of_slope.ensures.steps) _ (sym e)))

pub write_left-requires-clause-multiples : goal.write_left-requires-clause-multiples
write_left-requires-clause-multiples c =
    let m : FitsSigned w128 c.in_ok-of_slope.of_slope = search rules in
    let r : FitsSigned w128 c.in_ok-shared.shared = search rules in
    let lcm = simp to_z-of_z at c.in_ok-shared.ensures.exact in
    simp to_z-of_z (least_multiple c.args.slope.now c.args.value c.in_ok-of_slope.of_slope
    c.in_ok-shared.shared c.in_ok-of_slope.ensures.exact lcm).slopes

pub returns-in_err-write_left-clause-steps : goal.returns-in_err-write_left-clause-steps
returns-in_err-write_left-clause-steps c =
    let m : FitsSigned w128 c.in_ok-of_slope.of_slope = search rules in
    let r : FitsSigned w128 c.in_ok-shared.shared = search rules in
    let p = err_from_is_err_and c.from_residual-in_err-write_left.result
    c.from_residual-in_err-write_left.ensures.1 in
    let both = simp to_z-of_z at c.in_ok-shared.ensures.steps in
    let left = were_wide _ _ _ (simp to_z-of_z at c.in_err-write_left.ensures.steps) in
    rw (p.1, p.2)
    (gives_wide _ _ _
    (left_wide c.args.slope.now c.args.value c.in_ok-of_slope.of_slope
    (sym c.in_ok-of_slope.ensures.steps) c.in_ok-shared.shared (sym both) _ left))

pub returns-clause-steps : goal.returns-clause-steps
returns-clause-steps c =
    let m : FitsSigned w128 c.in_ok-of_slope.of_slope = search rules in
    let r : FitsSigned w128 c.in_ok-shared.shared = search rules in
    let both = simp to_z-of_z at c.in_ok-shared.ensures.steps in
    let left = were_ok _ _ (simp to_z-of_z at c.in_ok-write_left.ensures.steps) in
    made c.args.slope.now c.args.value c.in_ok-of_slope.of_slope
    (sym c.in_ok-of_slope.ensures.steps) c.in_ok-shared.shared (sym both) c.write_left.new.out
    left c.negated.result (simp to_z-of_z at c.negated.ensures.steps)

pub returns-clause-exact : goal.returns-clause-exact
returns-clause-exact c =
    let m : FitsSigned w128 c.in_ok-of_slope.of_slope = search rules in
    let r : FitsSigned w128 c.in_ok-shared.shared = search rules in
    let lcm = simp to_z-of_z at c.in_ok-shared.ensures.exact in
    let common = least_multiple c.args.slope.now c.args.value c.in_ok-of_slope.of_slope
    c.in_ok-shared.shared c.in_ok-of_slope.ensures.exact lcm in
    claimed c.args.slope.now c.args.value c.in_ok-shared.shared common c.write_left.new.out
    (search rules) (simp to_z-of_z at c.in_ok-write_left.ensures.exact) c.negated.result
    (simp to_z-of_z at c.negated.ensures.exact)
