use Rattle.std.proofs.Common.{rules, arith, FitsSigned, ◌∙◌}
use Rattle.std.specs.Int.{w128}
use Rattle.std.proofs.lemmas.Int.{to_z-of_z}
use Rattle.std.proofs.lemmas.Result.{err_from_is_err_and}
use Rattle.zr_base.specs.Points.{num_of}
use Rattle.zr_base.proofs.Telling.{all_tested, each_found, more, stops}
use Rattle.zr_game.specs.Players.{var_of}
use Rattle.zr_game.specs.Feasible.{IsWithin}
use Rattle.zr_game.specs.FeasibleSteps.{var_wide}
use Rattle.zr_game.proofs.Items.{each_told, first_wide-map}
use Rattle.zr_game.proofs.substitution.bounds_hold.Goals as goal

pub loop-v-preserved : goal.loop-v-preserved
loop-v-preserved c =
    let g : FitsSigned w128 c.num.result = search rules in
    let k : FitsSigned w128 c.den.result = search rules in
    let t = rw (c.num.ensures.value, c.den.ensures.value) at (simp to_z-of_z at c.is_within.ensures)
    in
    more (λ v var. IsWithin (var_of var) (num_of c.args.point.now v) c.args.point.now.den)
    (λ var. var_wide c.args.point.now.den (var_of var)) c.args.vars.now c.loop-v.v
    c.index-vars-v.result c.loop-v-test.true c.index-vars-v.is c.loop-v.all c.loop-v.invariant
    c.is_within.result c.in_ok-all.field-0 t c.in_ok-all.was

pub returns-in_err-all : goal.returns-in_err-all
returns-in_err-all c =
    let g : FitsSigned w128 c.num.result = search rules in
    let k : FitsSigned w128 c.den.result = search rules in
    let t = rw (c.num.ensures.value, c.den.ensures.value) at (simp to_z-of_z at c.is_within.ensures)
    in
    let p = err_from_is_err_and c.from_residual.result c.from_residual.ensures.1 in
    let s = stops (λ v var. IsWithin (var_of var) (num_of c.args.point.now v) c.args.point.now.den)
    (λ var. var_wide c.args.point.now.den (var_of var)) c.args.vars.now c.loop-v.v
    c.index-vars-v.result c.loop-v-test.true c.index-vars-v.is c.loop-v.all c.loop-v.invariant
    c.is_within.result _ t c.in_err-all.was in
    rw (p.1, p.2) (first_wide-map var_of (var_wide c.args.point.now.den) c.args.vars.now ∙ s)

pub returns : goal.returns
returns c =
    let t = all_tested (λ v var. IsWithin (var_of var) (num_of c.args.point.now v)
    c.args.point.now.den) (λ var. var_wide c.args.point.now.den (var_of var)) c.args.vars.now
    c.loop-v.v c.loop-v.all (omega arith) c.loop-v.invariant in
    let e = each_found (λ v var. IsWithin (var_of var) (num_of c.args.point.now v)
    c.args.point.now.den) c.args.vars.now in
    let m = each_told var_of (λ v var. IsWithin var (num_of c.args.point.now v)
    c.args.point.now.den) c.args.vars.now in (
      first_wide-map var_of (var_wide c.args.point.now.den) c.args.vars.now ∙ t.0,
      (λ h. m.0 (e.0 (t.1.0 h)), λ h. t.1.1 (e.1 (m.1 h))),
    )
