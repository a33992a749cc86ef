use Rattle.std.proofs.Common.{rules, ◌≡◌, ℕ, ℤ, pos, arith, sym, ap, ◌∙◌, FitsSigned, to_z, Ok, Err}
use Rattle.std.proofs.lemmas.Int.{ints, to_z-of_z}
use Rattle.std.specs.Int.{w128}
use Rattle.std.proofs.Math.Nat.{one-dvd}
use Rattle.zr_base.specs.Steps.{cross_of}
use Rattle.zr_simplex.specs.StuckSteps.{AreCoprimeParts, IsLeastCommonMultiple}
use Rattle.zr_simplex.specs.Tableaus.{basis_of, form_of}
use Rattle.zr_simplex.proofs.Multiples.{more_narrow, more_is}
use Rattle.zr_simplex.proofs.solution.common_multiple.Goals as goal
use Rattle.zr_simplex.proofs.solution.common_multiple.Goals.{After-coprime_parts-by}

own : (c : After-coprime_parts-by) → ℤ
own c = form_of c.args.tableau.now c.loop-i.i (basis_of c.args.tableau.now c.loop-i.i)

low : (c : After-coprime_parts-by) → AreCoprimeParts (own c) (to_z w128 c.loop-i.den-bits) c.coprime_parts-by.result.0 c.coprime_parts-by.result.1
unfolding own
low c =
    let n : FitsSigned w128 c.number.result = search rules in
    let is : c.number.result ≡ own c = c.number.ensures.value ∙ ap (form_of c.args.tableau.now c.loop-i.i) c.own.ensures in
    rw is at (simp to_z-of_z at c.coprime_parts-by.ensures)

start : (basis : ℕ → ℕ) (form : ℕ → ℕ → ℤ) → IsLeastCommonMultiple basis form 0 (pos 1)
start basis form = record {
  positive = omega (arith, ints);
  multiple = λ i h. absurd (omega arith);
  least = λ z h. one-dvd z;
}

pub loop-i-init : goal.loop-i-init
loop-i-init c = record {
  narrow = omega (arith, ints);
  multiple = start (basis_of c.args.tableau.now) (form_of c.args.tableau.now);
}

pub returns-in-Err-clause-err : goal.returns-in-Err-clause-err
unfolding own
returns-in-Err-clause-err c =
    let at = goal.at.returns-in-Err-clause-err c in
    let den = to_z w128 c.loop-i.den-bits in
    let b : FitsSigned w128 c.coprime_parts-by.result.0 = search rules in
    let step : cross_of (den, c.coprime_parts-by.result.0) (pos 0, pos 0) ≡ Err c.in-Err.wide = sym (simp to_z-of_z at c.cross.ensures) ∙ c.in-Err.is in
    (c.loop-i-test.true, (den, c.coprime_parts-by.result.0, c.coprime_parts-by.result.1, c.loop-i.invariant.narrow, c.loop-i.invariant.multiple, low at.After-coprime_parts-by, step))

pub loop-i-preserved : goal.loop-i-preserved
unfolding own
loop-i-preserved c =
    let at = goal.at.loop-i-preserved c in
    let owns : ℕ → ℤ = λ j. form_of c.args.tableau.now j (basis_of c.args.tableau.now j) in
    let i = c.loop-i.i in
    let den = to_z w128 c.loop-i.den-bits in
    let b : FitsSigned w128 c.coprime_parts-by.result.0 = search rules in
    let parts = low at.After-coprime_parts-by in
    let step : Ok c.in-Ok.more ≡ cross_of (den, c.coprime_parts-by.result.0) (pos 0, pos 0) = sym c.in-Ok.is ∙ simp to_z-of_z at c.cross.ensures in
    let above = c.requires.solved.own i (omega (arith, c.requires.rows, c.loop-i-test.true)) in
    let narrow = more_narrow i owns den c.coprime_parts-by.result.0 c.coprime_parts-by.result.1 c.in-Ok.more above c.loop-i.invariant.multiple.positive parts step in
    let m : FitsSigned w128 c.in-Ok.more = omega (arith, ints, narrow) in
    let z = more_is i (basis_of c.args.tableau.now) (form_of c.args.tableau.now) den c.coprime_parts-by.result.0 c.coprime_parts-by.result.1 c.in-Ok.more above c.loop-i.invariant.multiple parts step in
    record {
      narrow = simp to_z-of_z narrow;
      multiple = simp to_z-of_z z;
    }
