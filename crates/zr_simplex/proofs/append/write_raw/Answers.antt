use Rattle.std.proofs.Common.{◌≡◌, ◌≤◌, ◌+◌, ℕ, pos, arith, set, sym, ap, ◌∙◌, FitsSigned}
use Rattle.std.proofs.lemmas.Int.{ints, to_z-of_z}
use Rattle.std.specs.Int.{w128}
use Rattle.std.proofs.lemmas.List.Elements.{All-set}
use Rattle.zr_base.specs.Steps.{IsNarrow}
use Rattle.zr_base.specs.Terms.{coef_at}
use Rattle.zr_lin.proofs.SparseRows.{read_form, read_row}
use Rattle.zr_simplex.specs.Programs.{numbers, program_of}
use Rattle.zr_simplex.proofs.Lists.{coef_past}
use Rattle.zr_simplex.proofs.Places.{started}
use Rattle.zr_simplex.proofs.append.write_raw.Goals as goal

pub write_row-requires-clause-coef : goal.write_row-requires-clause-coef
write_row-requires-clause-coef c =
    let lp = c.args.lp.now in
    rw c.deref.ensures.value (read_form lp.columns lp.rows.items c.requires.lp.rows c.args.rows c.index.result.now (omega (arith, c.requires.rows)) c.index.ensures).0

narrow_one : IsNarrow (pos 1)
narrow_one = omega arith

pub returns-clause-narrow : goal.returns-clause-narrow
returns-clause-narrow c =
    let lp = c.args.lp.now in
    let n = lp.columns in
    let made = c.write_row.new.places in
    let value = c.index-2.result.now.le in
    let width = n + c.args.rows in
    let form = read_form n lp.rows.items c.requires.lp.rows c.args.rows c.index-2.result.now (omega (arith, c.requires.rows)) c.index-2.ensures in
    let le : IsNarrow value = form.1 in
    let f : FitsSigned w128 value = omega (arith, ints, le) in
    simp to_z-of_z (All-set IsNarrow (set made (width + 1) value) (width + 2) (pos 1) narrow_one (All-set IsNarrow made (width + 1) value le c.write_row.ensures.narrow))

pub returns-clause-start : goal.returns-clause-start
returns-clause-start c =
    let lp = c.args.lp.now in
    let n = lp.columns in
    let m = c.args.rows in
    let row = c.index.result.now in
    let below : m + 1 ≤ m + 1 = omega arith in
    let found = read_row lp.rows.items m row (omega (arith, c.requires.rows)) c.index.ensures in
    let found2 = read_row lp.rows.items m c.index-2.result.now (omega (arith, c.requires.rows)) c.index-2.ensures in
    let form = read_form n lp.rows.items c.requires.lp.rows m row (omega (arith, c.requires.rows)) c.index.ensures in
    let form2 = read_form n lp.rows.items c.requires.lp.rows m c.index-2.result.now (omega (arith, c.requires.rows)) c.index-2.ensures in
    let narrow : IsNarrow c.index-2.result.now.le = form2.1 in
    let f : FitsSigned w128 c.index-2.result.now.le = omega (arith, ints, narrow) in
    let coef : (j : ℕ) → numbers c.write_row.new.places j ≡ coef_at row.coef.items j = λ j. c.write_row.ensures.numbers j ∙ ap (λ xs. coef_at xs j) c.deref.ensures.value in
    let le : c.index-2.result.now.le ≡ (program_of lp).le m = sym (ap (λ r. r.le) found2) in
    let is : (j : ℕ) → coef_at row.coef.items j ≡ (program_of lp).coef m j = λ j. sym (ap (λ r. r.coef j) found) in
    simp to_z-of_z (rw le (started c.write_row.new.places n (n + m) ((program_of lp).coef m) ((program_of lp).le m) (c.write_row.ensures.len ∙ c.requires.len) (omega arith) (λ j h. coef j ∙ is j) (λ j h. coef j ∙ coef_past IsNarrow 0 n row.coef.items j form.0 h)))
