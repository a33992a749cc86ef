use Rattle.std.proofs.Common.{◌≡◌, ◌≢◌, ◌≤◌, ◌+◌, ◌*◌, ◌-◌, ℕ, arith, refl, ◌∙◌, ⊎_elim, length, drop}
use Rattle.std.proofs.lemmas.Bool.{cases_eq}
use Rattle.std.proofs.lemmas.List.Elements.{All-take, All-drop}
use Rattle.zr_base.specs.Steps.{IsNarrow}
use Rattle.zr_simplex.specs.Programs.{numbers}
use Rattle.zr_simplex.specs.RowSteps.{IsCleared, entered}
use Rattle.zr_simplex.specs.Tableaus.{row_in}
use Rattle.zr_simplex.proofs.Grids.{narrow_put, put_length, row_end, row_in-here, row_in-length, row_in-other}
use Rattle.zr_simplex.proofs.pivot.clear_rows.Goals as goal

span : (i w : ℕ) → i * w + w - i * w ≡ w
span i w = omega arith

pub clear-requires-clause-narrow : goal.clear-requires-clause-narrow
clear-requires-clause-narrow c =
    let w = length c.args.pivot.now in
    let i = c.loop-row.row in
    let rows = c.loop-row.rows in
    rw (span i w) (All-take IsNarrow w (drop (i * w) rows) (All-drop IsNarrow (i * w) rows c.loop-row.invariant.narrow))

pub clear-requires-clause-above : goal.clear-requires-clause-above
clear-requires-clause-above c =
    let w = length c.args.pivot.now in
    let i = c.loop-row.row in
    rw (span i w, c.loop-row.invariant.left i (omega arith)) (c.requires.above i c.loop-row-test.true)

pub clear-requires-clause-primitive : goal.clear-requires-clause-primitive
clear-requires-clause-primitive c =
    let w = length c.args.pivot.now in
    let i = c.loop-row.row in
    let old = c.args.rows.now in
    let wide = row_in-length c.args.count w old i c.loop-row-test.true c.requires.len in
    rw (span i w, c.loop-row.invariant.left i (omega arith), wide) (c.requires.primitive i c.loop-row-test.true)

pub returns-in-Err-clause-narrow : goal.returns-in-Err-clause-narrow
returns-in-Err-clause-narrow c =
    let w = length c.args.pivot.now in
    let i = c.loop-row.row in
    let inv = c.loop-row.invariant in
    let rows = c.loop-row.rows in
    let below = c.loop-row-test.true in
    let wide = row_in-length c.args.count w rows i below (inv.len ∙ c.requires.len) in
    let len : length c.clear.new.row ≡ w = rw (span i w) at c.clear.ensures.len ∙ wide in
    let inside : i * w + w ≤ length rows = omega (arith, inv.len, c.requires.len, row_end i c.args.count w below) in
    rw (span i w) (narrow_put w rows c.clear.new.row i len inside inv.narrow c.clear.ensures.narrow)

pub returns-in-Err-clause-err : goal.returns-in-Err-clause-err
returns-in-Err-clause-err c =
    let w = length c.args.pivot.now in
    let i = c.loop-row.row in
    let same = c.loop-row.invariant.left i (omega arith) in
    let below = c.loop-row-test.true in
    let e = rw (span i w, same, row_in-length c.args.count w c.args.rows.now i below c.requires.len) at c.in-Err.ensures.err in
    (below, e.0, e.1)

pub returns-clause-ok : goal.returns-clause-ok
returns-clause-ok c i h = c.loop-row.invariant.done i (omega (arith, h, c.loop-row-test.false))

pub loop-row-preserved : goal.loop-row-preserved
loop-row-preserved c =
    let w = length c.args.pivot.now in
    let i = c.loop-row.row in
    let inv = c.loop-row.invariant in
    let rows = c.loop-row.rows in
    let old = c.args.rows.now in
    let new = c.clear.new.row in
    let below = c.loop-row-test.true in
    let size = inv.len ∙ c.requires.len in
    let wide = row_in-length c.args.count w rows i below size in
    let len : length new ≡ w = rw (span i w) at c.clear.ensures.len ∙ wide in
    let inside : i * w + w ≤ length rows = omega (arith, size, row_end i c.args.count w below) in
    let same = inv.left i (omega arith) in
    let long = row_in-length c.args.count w old i below c.requires.len in
    let place = c.args.entry.place in
    let now : IsCleared w c.args.entry.number (numbers (row_in w old i) place) (numbers c.args.pivot.now) (numbers (entered place (row_in w old i))) (numbers new) c.args.entry.own = rw (span i w, same, long) at c.in_default.ensures.ok in
    rw (span i w) (record {
      width = refl;
      len = put_length w rows new i len inside ∙ inv.len;
      narrow = narrow_put w rows new i len inside inv.narrow c.clear.ensures.narrow;
      done = λ k h. ⊎_elim (λ (e : k ≡ i). rw (e, row_in-here w rows new i len inside) now) (λ (a : k ≢ i). rw (row_in-other w rows new i len inside k a) (inv.done k (omega (arith, h, a)))) (cases_eq k i);
      left = λ k h. row_in-other w rows new i len inside k (λ e. omega (arith, e, h)) ∙ inv.left k (omega (arith, h));
    })
