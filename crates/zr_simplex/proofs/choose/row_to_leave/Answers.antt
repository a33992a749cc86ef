use Rattle.std.proofs.Common.{rules, ◌≡◌, arith, ℕ, pos, ◌<ℤ◌, ◌≤ℤ◌, FitsSigned, length, slice_index}
use Rattle.std.specs.Int.{w128}
use Rattle.zr_basis.proofs.Picked.{row_found, row_skipped, row_taken}
use Rattle.zr_simplex.specs.Programs.{program_of}
use Rattle.zr_simplex.specs.Tableaus.{form_of}
use Rattle.zr_simplex.proofs.choose.row_to_leave.Goals as goal
use Rattle.zr_simplex.proofs.choose.row_to_leave.Goals.{then-number-gt0, else-number-gt0}

pub loop-i-preserved : goal.loop-i-preserved
loop-i-preserved c =
    let p = program_of c.args.lp.now in
    let start : ℕ → ℕ = λ i. slice_index c.args.start.now i in
    let form = form_of c.args.tableau.now in
    let n : FitsSigned w128 c.number.result = search rules in
    elim c.if-number-gt0.branch [
      | then-number-gt0 w ↦
          let up : (pos 0) <ℤ form c.loop-i.i c.args.column = rw (← c.number.ensures.value) (search rules) in
          rw w.best-is (row_taken p start form c.args.column c.loop-i.i c.loop-i.best w.better_row.result up c.loop-i.invariant w.better_row.ensures)
      | else-number-gt0 w ↦
          let low : form c.loop-i.i c.args.column ≤ℤ (pos 0) = rw (← c.number.ensures.value) (search rules) in
          rw w.best-is (row_skipped p start form c.args.column c.loop-i.i c.loop-i.best low c.loop-i.invariant)
    ]

pub returns : goal.returns
returns c =
    let p = program_of c.args.lp.now in
    let start : ℕ → ℕ = λ i. slice_index c.args.start.now i in
    let e : c.len-i-end.result ≡ length c.args.lp.now.rows.items = search rules in
    let reached : c.loop-i.i ≡ p.rows = omega (arith, c.loop-i-test.false, c.loop-i.auto.i-end, e) in
    row_found p start (form_of c.args.tableau.now) c.args.column c.loop-i.best c.requires.column c.requires.falls (rw reached at c.loop-i.invariant)
