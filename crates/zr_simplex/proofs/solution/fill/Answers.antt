use Rattle.std.proofs.Common.{rules, ◌≡◌, ◌≢◌, ◌<◌, ℕ, ℤ, pos, ◌*ℤ◌, arith, sym, ap, ◌∙◌, length, FitsSigned, Ok, Err}
use Rattle.std.proofs.lemmas.Int.{ints, to_z-of_z}
use Rattle.std.specs.Int.{w128}
use Rattle.zr_base.specs.Steps.{cross_of}
use Rattle.zr_simplex.specs.Programs.{numbers}
use Rattle.zr_simplex.specs.Answers.{signed}
use Rattle.zr_simplex.specs.Tableaus.{basis_of, form_of}
use Rattle.zr_simplex.proofs.Divide.{narrow_more}
use Rattle.zr_simplex.proofs.Multiples.{divides_multiple, apart_columns, on_more, off_more, x_narrow}
use Rattle.zr_simplex.proofs.solution.fill.Goals as goal
use Rattle.zr_simplex.proofs.solution.fill.Goals.{After-number, After-with_sign, After-quotient-part}

own_is : (c : After-number) → c.number.result ≡ form_of c.args.tableau.now c.loop-i.i (basis_of c.args.tableau.now c.loop-i.i)
own_is c = c.number.ensures.value ∙ ap (form_of c.args.tableau.now c.loop-i.i) c.own.ensures

exact : (c : After-quotient-part) → c.quotient-part.result *ℤ form_of c.args.tableau.now c.loop-i.i (basis_of c.args.tableau.now c.loop-i.i) ≡ c.args.den
exact c =
    let n : FitsSigned w128 c.number.result = search rules in
    let d : FitsSigned w128 c.args.den = search rules in
    let is : c.number.result ≡ form_of c.args.tableau.now c.loop-i.i (basis_of c.args.tableau.now c.loop-i.i) = c.number.ensures.value ∙ ap (form_of c.args.tableau.now c.loop-i.i) c.own.ensures in
    rw is at (simp to_z-of_z at c.quotient-part.ensures.exact)

signs : (c : After-with_sign) → c.with_sign.result ≡ signed c.args.negated (form_of c.args.tableau.now c.loop-i.i c.args.from)
signs c =
    let q : FitsSigned w128 c.number-in-loop-i.result = search rules in
    rw c.number-in-loop-i.ensures.value at (simp to_z-of_z at c.with_sign.ensures.value)

pub quotient-part-requires-clause-divides : goal.quotient-part-requires-clause-divides
quotient-part-requires-clause-divides c =
    let at = goal.at.quotient-part-requires-clause-divides c in
    let n : FitsSigned w128 c.number.result = search rules in
    let d : FitsSigned w128 c.args.den = search rules in
    let m = c.requires.multiple.multiple c.loop-i.i c.loop-i-test.true in
    let own = form_of c.args.tableau.now c.loop-i.i (basis_of c.args.tableau.now c.loop-i.i) in
    simp to_z-of_z (rw (own_is at.After-number) (divides_multiple m.0 own c.args.den m.1))

pub returns-in-Err-clause-err : goal.returns-in-Err-clause-err
returns-in-Err-clause-err c =
    let at = goal.at.returns-in-Err-clause-err c in
    let d : FitsSigned w128 c.args.den = search rules in
    let p : FitsSigned w128 c.quotient-part.result = search rules in
    let s : FitsSigned w128 c.with_sign.result = search rules in
    let basis = basis_of c.args.tableau.now in
    let value = signed c.args.negated (form_of c.args.tableau.now c.loop-i.i c.args.from) in
    let step : cross_of (value, c.quotient-part.result) (pos 0, pos 0) ≡ Err c.in-Err.wide = sym (rw (signs at.After-with_sign) at (simp to_z-of_z at c.cross.ensures)) ∙ c.in-Err.is in
    let inv = c.loop-i.invariant in
    let on = simp to_z-of_z at inv.on in
    (c.loop-i-test.true, (c.args.den, c.quotient-part.result, c.requires.narrow, c.requires.multiple, λ k h. (numbers c.loop-i.places (basis k), on k h, inv.narrow (basis k) (pos 0) (omega (arith, c.loop-i.auto.places, c.requires.places k (omega (arith, h, c.loop-i-test.true))))), exact at.After-quotient-part, step))

pub loop-i-preserved : goal.loop-i-preserved
loop-i-preserved c =
    let at = goal.at.loop-i-preserved c in
    let t = c.args.tableau.now in
    let own : ℕ → ℤ = λ k. form_of t k (basis_of t k) in
    let value : ℕ → ℤ = λ k. signed c.args.negated (form_of t k c.args.from) in
    let basis = basis_of t in
    let i = c.loop-i.i in
    let inv = c.loop-i.invariant in
    let d : FitsSigned w128 c.args.den = search rules in
    let p : FitsSigned w128 c.quotient-part.result = search rules in
    let s : FitsSigned w128 c.with_sign.result = search rules in
    let over = exact at.After-quotient-part in
    let step : Ok c.in-Ok.numerator ≡ cross_of (value i, c.quotient-part.result) (pos 0, pos 0) = sym c.in-Ok.is ∙ rw (signs at.After-with_sign) at (simp to_z-of_z at c.cross.ensures) in
    let below : basis i < length c.loop-i.places = omega (arith, c.loop-i.auto.places, c.requires.places i c.loop-i-test.true) in
    let narrow = x_narrow c.loop-i.places c.args.places.now basis own value i c.args.den c.quotient-part.result c.in-Ok.numerator below over step in
    let x : FitsSigned w128 c.in-Ok.numerator = omega (arith, ints, narrow) in
    let apart : (k : ℕ) → k < i → basis k ≢ basis i = λ k h. apart_columns (length t.basis) t.width basis (form_of t) c.requires.solved k i (omega (arith, c.requires.rows, c.loop-i-test.true, h)) (omega (arith, c.requires.rows, c.loop-i-test.true)) (λ e. let b : k < i = h in omega (arith, e, b)) in
    rw c.own-in-Ok.ensures (record {
      on = simp to_z-of_z (on_more c.loop-i.places c.args.places.now basis own value i c.args.den c.quotient-part.result c.in-Ok.numerator below over step apart (simp to_z-of_z at inv.on));
      off = simp to_z-of_z (off_more c.loop-i.places c.args.places.now basis own value i c.args.den c.quotient-part.result c.in-Ok.numerator below over step inv.off);
      narrow = simp to_z-of_z (narrow_more c.loop-i.places (basis i) c.in-Ok.numerator below inv.narrow narrow);
    })
