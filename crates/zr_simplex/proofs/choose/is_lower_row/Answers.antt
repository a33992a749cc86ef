use Rattle.std.proofs.Common.{rules, ◌≡◌, ◌≢◌, ℕ, arith, sym, ◌∙◌, ◌*ℤ◌, ⊎_elim, length, slice_index}
use Rattle.std.proofs.lemmas.Bool.{cases_eq}
use Rattle.zr_basis.proofs.Picked.{row_below_at, row_level, row_not_below_at}
use Rattle.zr_simplex.specs.Programs.{program_of}
use Rattle.zr_simplex.specs.Tableaus.{form_of}
use Rattle.zr_simplex.proofs.Quotients.{equal_if, greater_if, less_if}
use Rattle.zr_simplex.proofs.choose.is_lower_row.Goals as goal

pub returns-in-Less-clause-yes : goal.returns-in-Less-clause-yes
returns-in-Less-clause-yes c same =
    let p = program_of c.args.lp.now in
    let start : ℕ → ℕ = λ i. slice_index c.args.start.now i in
    let form = form_of c.args.tableau.now in
    let e : c.len-k-end.result ≡ length c.args.lp.now.rows.items = search rules in
    let less = rw c.place_at.ensures.place at (less_if (form c.args.row c.place_at.result *ℤ form c.args.last c.args.column) (form c.args.last c.place_at.result *ℤ form c.args.row c.args.column) (sym c.compare_at.ensures ∙ c.in-Less.is)) in
    row_below_at p start form c.args.column c.args.row c.args.last c.loop-k.k (omega (arith, c.loop-k-test.true, e)) c.loop-k.invariant less

pub returns-in-Greater-clause-no : goal.returns-in-Greater-clause-no
returns-in-Greater-clause-no c same =
    let p = program_of c.args.lp.now in
    let start : ℕ → ℕ = λ i. slice_index c.args.start.now i in
    let form = form_of c.args.tableau.now in
    let more = rw c.place_at.ensures.place at (greater_if (form c.args.row c.place_at.result *ℤ form c.args.last c.args.column) (form c.args.last c.place_at.result *ℤ form c.args.row c.args.column) (sym c.compare_at.ensures ∙ c.in-Greater.is)) in
    row_not_below_at p start form c.args.column c.args.row c.args.last c.loop-k.k c.loop-k.invariant more

pub loop-k-preserved : goal.loop-k-preserved
loop-k-preserved c j h =
    let form = form_of c.args.tableau.now in
    let at = c.place_at.result in
    let level = rw c.place_at.ensures.place at (equal_if (form c.args.row at *ℤ form c.args.last c.args.column) (form c.args.last at *ℤ form c.args.row c.args.column) (sym c.compare_at.ensures ∙ c.in-Equal.is)) in
    ⊎_elim (λ (e : j ≡ c.loop-k.k). rw e level) (λ (a : j ≢ c.loop-k.k). c.loop-k.invariant j (omega (arith, h, a))) (cases_eq j c.loop-k.k)

pub returns-clause-no : goal.returns-clause-no
returns-clause-no c same =
    let p = program_of c.args.lp.now in
    let start : ℕ → ℕ = λ i. slice_index c.args.start.now i in
    let form = form_of c.args.tableau.now in
    let e : c.len-k-end.result ≡ length c.args.lp.now.rows.items = search rules in
    row_level p start form c.args.column c.args.row c.args.last (λ j h. c.loop-k.invariant j (omega (arith, h, c.loop-k-test.false, e)))
