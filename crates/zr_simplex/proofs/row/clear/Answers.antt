use Rattle.std.proofs.Common.{rules, ◌≡◌, ◌<◌, ℕ, arith, sym, pos, ◌<ℤ◌, get_or, length, length-set, FitsSigned, of_z, to_z, Ok, ap, ◌∙◌}
use Rattle.std.proofs.lemmas.Int.{to_z_pos, to_z-of_z}
use Rattle.std.proofs.lemmas.Result.{err_from_is_err_and}
use Rattle.std.specs.Int.{w128}
use Rattle.zr_base.specs.Steps.{IsNarrow, cross_of}
use Rattle.zr_simplex.specs.Programs.{numbers}
use Rattle.zr_simplex.specs.StuckSteps.{AreCoprimeParts}
use Rattle.zr_simplex.specs.RowSteps.{entered}
use Rattle.zr_simplex.proofs.Clear.{cleared_none, mid_apart, cleared}
use Rattle.zr_simplex.proofs.Divide.{narrow_more}
use Rattle.zr_simplex.proofs.Swaps.{entered_else}
use Rattle.zr_simplex.proofs.row.clear.Goals as goal
use Rattle.zr_simplex.proofs.row.clear.Goals.{Start, After-subtract, In_ok-common}

pub returns-then-number-eq0-clause-ok : goal.returns-then-number-eq0-clause-ok
returns-then-number-eq0-clause-ok c =
    let row = c.args.row.now in
    let place = c.args.entry.place in
    let x : FitsSigned w128 (get_or row place (pos 0)) = search rules in
    let zero : numbers row place ≡ pos 0 = sym (to_z-of_z w128 (get_or row place (pos 0)) x) ∙ ap (to_z w128) c.if-number-eq0.true ∙ to_z_pos w128 0 (omega arith) in
    cleared_none (length row) c.args.entry.number (numbers c.args.pivot.now) row place c.args.entry.own zero c.requires.above c.requires.primitive

pub subtract-requires-clause-narrow : goal.subtract-requires-clause-narrow
subtract-requires-clause-narrow c =
    let zero : IsNarrow (pos 0) = omega arith in
    narrow_more c.args.row.now c.args.entry.place (pos 0) (omega (arith, c.requires.place, c.requires.own)) c.requires.narrow zero

low : (c : After-subtract) → AreCoprimeParts c.args.entry.number (numbers c.args.row.now c.args.entry.place) c.coprime_parts-by.result.0 c.coprime_parts-by.result.1
low c =
    let x : FitsSigned w128 (get_or c.args.row.now c.args.entry.place (pos 0)) = search rules in
    let y : FitsSigned w128 c.args.entry.number = search rules in
    simp to_z-of_z at c.coprime_parts-by.ensures

above : (c : After-subtract) → (pos 0) <ℤ numbers (entered c.args.entry.place c.args.row.now) c.args.entry.own
above c =
    let place = c.args.entry.place in
    rw (entered_else place c.args.row.now c.args.entry.own (λ e. omega (arith, e, c.requires.place))) c.requires.above

long : (c : After-subtract) → length (entered c.args.entry.place c.args.row.now) ≡ length c.args.row.now
long c = length-set c.args.row.now c.args.entry.place (pos 0)

steps : (c : In_ok-common) → (j : ℕ) → j < length (entered c.args.entry.place c.args.row.now) → cross_of (c.coprime_parts-by.result.0, numbers (entered c.args.entry.place c.args.row.now) j) (c.coprime_parts-by.result.1, numbers c.args.pivot.now j) ≡ Ok (numbers c.subtract.new.row j)
steps c =
    let x : FitsSigned w128 c.coprime_parts-by.result.0 = search rules in
    let y : FitsSigned w128 c.coprime_parts-by.result.1 = search rules in
    simp to_z-of_z at c.in_ok-common.ensures.ok

pub returns-in_err-common-clause-err : goal.returns-in_err-common-clause-err
returns-in_err-common-clause-err c =
    let at = goal.at.returns-in_err-common-clause-err c in
    let p = err_from_is_err_and c.from_residual.result c.from_residual.ensures.1 in
    let x : FitsSigned w128 c.coprime_parts-by.result.0 = search rules in
    let y : FitsSigned w128 c.coprime_parts-by.result.1 = search rules in
    let e = simp to_z-of_z at c.in_err-common.ensures.err in
    rw (p.1, p.2) (rw (long at.After-subtract) at e.0, (c.coprime_parts-by.result.0, c.coprime_parts-by.result.1, λ zero. c.if-number-eq0.false (ap (of_z w128) zero), low at.After-subtract, e.1))

pub reduce-requires-clause-apart : goal.reduce-requires-clause-apart
reduce-requires-clause-apart c =
    let at = goal.at.reduce-requires-clause-apart c in
    let now = entered c.args.entry.place c.args.row.now in
    let own : c.args.entry.own < length now = rw (long at.After-subtract) c.requires.own in
    mid_apart c.args.pivot.now now c.subtract.new.row c.args.entry.own c.args.entry.number (numbers c.args.row.now c.args.entry.place) c.coprime_parts-by.result.0 c.coprime_parts-by.result.1 own c.subtract.ensures.len c.requires.apart c.requires.other (above at.After-subtract) (low at.After-subtract) (steps at.In_ok-common)

pub returns-clause-ok : goal.returns-clause-ok
returns-clause-ok c =
    let at = goal.at.returns-clause-ok c in
    let now = entered c.args.entry.place c.args.row.now in
    let long = long at.After-subtract in
    let own : c.args.entry.own < length now = rw long c.requires.own in
    let made = cleared c.args.pivot.now now c.subtract.new.row c.args.entry.own c.args.entry.number (numbers c.args.row.now c.args.entry.place) c.coprime_parts-by.result.0 c.coprime_parts-by.result.1 own c.subtract.ensures.len c.requires.apart c.requires.other (above at.After-subtract) (low at.After-subtract) (steps at.In_ok-common) c.reduce.new.row c.reduce.ensures.quotient c.reduce.ensures.own c.reduce.ensures.primitive in
    rw long at made
