use Rattle.std.proofs.Common.{rules, ◌≡◌, ◌≢◌, suc, ◌+◌, ◌-◌, arith, ap, ◌∙◌, length, ℕ, ⊎_elim}
use Rattle.std.proofs.lemmas.Bool.{cases_eq}
use Rattle.zr_simplex.specs.Programs.{numbers, program_of}
use Rattle.zr_simplex.specs.Tableaus.{basis_of, form_of, free_of}
use Rattle.zr_simplex.specs.Dues.{IsTableau}
use Rattle.zr_simplex.specs.Appends.{IsExpressed, IsWithRow, first_rows}
use Rattle.zr_simplex.proofs.Appended.{appended, appended_basis, appended_dual}
use Rattle.zr_simplex.proofs.append.append.Goals as goal
use Rattle.zr_simplex.proofs.append.append.Goals.{In_ok-made, In-Ok}

module _ (c : In_ok-made) where
  abbrev rows : ℕ
  rows = length c.args.lp.now.rows.items - 1

  kept : IsTableau (first_rows (program_of c.args.lp.now) (length c.args.lp.now.rows.items - 1)) c.args.tableau
  kept = c.requires.kept (length c.args.lp.now.rows.items - 1) (omega (arith, c.requires.some))

  count : c.len-rows.result - 1 ≡ length c.args.lp.now.rows.items - 1
  count = let e : c.len-rows.result ≡ length c.args.lp.now.rows.items = search rules in omega (arith, e)

  expressed : IsExpressed (program_of c.args.lp.now) (length c.args.lp.now.rows.items - 1) (length c.args.lp.now.rows.items - 1) (basis_of c.args.tableau) (form_of c.args.tableau) (numbers c.in_ok-made.made.items)
  expressed = rw count at c.in_ok-made.ensures.expressed

  last_at : (i : ℕ) → i + 1 ≡ length c.args.tableau.basis → basis_of c.args.tableau i + 2 ≡ c.args.tableau.width
  last_at i e =
      let k = kept in
      let s : i ≡ length c.args.lp.now.rows.items - 1 = omega (arith, e, k.count) in
      let v = ap (basis_of c.args.tableau) s in
      omega (arith, v, k.form.value, k.width)

  right_at : (i : ℕ) → i + 1 ≡ length c.args.tableau.free → free_of c.args.tableau i + 1 ≡ c.args.tableau.width
  right_at i e =
      let k = kept in
      let s : i ≡ c.args.lp.now.columns = omega (arith, e, k.free_count) in
      let v = ap (free_of c.args.tableau) s in
      omega (arith, v, k.right, k.width)

pub with_row-requires-clause-value : goal.with_row-requires-clause-value
with_row-requires-clause-value c = last_at (goal.at.with_row-requires-clause-value c).In_ok-made

pub with_row-requires-clause-right : goal.with_row-requires-clause-right
with_row-requires-clause-right c = right_at (goal.at.with_row-requires-clause-right c).In_ok-made

pub with_row-requires-clause-some : goal.with_row-requires-clause-some
with_row-requires-clause-some c =
    let k = kept (goal.at.with_row-requires-clause-some c).In_ok-made in
    omega (arith, k.count)

pub with_row-requires-clause-some_free : goal.with_row-requires-clause-some_free
with_row-requires-clause-some_free c =
    let k = kept (goal.at.with_row-requires-clause-some_free c).In_ok-made in
    omega (arith, k.free_count)

pub with_row-requires-clause-size : goal.with_row-requires-clause-size
with_row-requires-clause-size c =
    let k = kept (goal.at.with_row-requires-clause-size c).In_ok-made in
    omega (arith, k.width, c.requires.lp.size, c.requires.some)

pub with_row-requires-clause-size_basis : goal.with_row-requires-clause-size_basis
with_row-requires-clause-size_basis c =
    let k = kept (goal.at.with_row-requires-clause-size_basis c).In_ok-made in
    omega (arith, k.count, c.requires.lp.size, c.requires.some)

pub with_row-requires-clause-size_free : goal.with_row-requires-clause-size_free
with_row-requires-clause-size_free c =
    let k = kept (goal.at.with_row-requires-clause-size_free c).In_ok-made in
    omega (arith, k.free_count, c.requires.lp.size, c.requires.some)

pub with_row-requires-clause-len : goal.with_row-requires-clause-len
with_row-requires-clause-len c =
    let at = (goal.at.with_row-requires-clause-len c).In_ok-made in
    let k = kept at in
    let made = rw (count at) at c.in_ok-made.ensures.len in
    let value = ap length c.deref.ensures.value in
    omega (arith, k.width, made, value)

pub with_row-requires-clause-above : goal.with_row-requires-clause-above
with_row-requires-clause-above c =
    let at = (goal.at.with_row-requires-clause-above c).In_ok-made in
    let k = kept at in
    rw (c.deref.ensures.value, k.width) (expressed at).own

pub with_row-requires-clause-cleared : goal.with_row-requires-clause-cleared
with_row-requires-clause-cleared c i h =
    let at = (goal.at.with_row-requires-clause-cleared c).In_ok-made in
    let k = kept at in
    let m = length c.args.lp.now.rows.items - 1 in
    let u = numbers c.in_ok-made.made.items in
    rw c.deref.ensures.value (⊎_elim (λ (s : i ≡ m). ap (λ r. u (basis_of c.args.tableau r)) s ∙ ap u k.form.value ∙ (expressed at).value) (λ (a : i ≢ m). (expressed at).cleared i (omega (arith, h, a, k.count))) (cases_eq i m))

module _ (c : In-Ok) where
  abbrev rows_before : ℕ
  rows_before = length c.args.lp.now.rows.items - 1

  before : IsTableau (first_rows (program_of c.args.lp.now) (length c.args.lp.now.rows.items - 1)) c.args.tableau
  before = c.requires.kept (length c.args.lp.now.rows.items - 1) (omega (arith, c.requires.some))

  more : length c.args.lp.now.rows.items ≡ suc (length c.args.lp.now.rows.items - 1)
  more = omega (arith, c.requires.some)

  clear : IsExpressed (program_of c.args.lp.now) (length c.args.lp.now.rows.items - 1) (length c.args.lp.now.rows.items - 1) (basis_of c.args.tableau) (form_of c.args.tableau) (numbers c.in_ok-made.made.items)
  clear =
      let e : c.len-rows.result ≡ length c.args.lp.now.rows.items = search rules in
      let less : c.len-rows.result - 1 ≡ length c.args.lp.now.rows.items - 1 = omega (arith, e) in
      rw less at c.in_ok-made.ensures.expressed

  row : IsWithRow (length c.args.lp.now.rows.items - 1) c.args.lp.now.columns (c.args.lp.now.columns + (length c.args.lp.now.rows.items - 1)) c.args.tableau c.in-Ok.made (numbers c.in_ok-made.made.items)
  row =
      rw c.deref.ensures.value at (c.in-Ok.ensures (length c.args.lp.now.rows.items - 1) c.args.lp.now.columns (c.args.lp.now.columns + (length c.args.lp.now.rows.items - 1)) before.count before.free_count before.width)

pub returns-in-Ok-clause-kept : goal.returns-in-Ok-clause-kept
returns-in-Ok-clause-kept c =
    let at = (goal.at.returns-in-Ok-clause-kept c).In-Ok in
    appended (program_of c.args.lp.now) (length c.args.lp.now.rows.items - 1) (more at) c.args.tableau c.in-Ok.made (numbers c.in_ok-made.made.items) (before at) (clear at) (row at)

pub returns-in-Ok-clause-dual : goal.returns-in-Ok-clause-dual
returns-in-Ok-clause-dual c =
    let at = (goal.at.returns-in-Ok-clause-dual c).In-Ok in
    let dual = c.requires.dual (length c.args.lp.now.rows.items - 1) (omega (arith, c.requires.some)) in
    appended_dual (program_of c.args.lp.now) (length c.args.lp.now.rows.items - 1) (more at) c.args.tableau c.in-Ok.made (numbers c.in_ok-made.made.items) (before at) (clear at) (row at) dual

pub returns-in-Ok-clause-basis : goal.returns-in-Ok-clause-basis
returns-in-Ok-clause-basis c =
    let at = (goal.at.returns-in-Ok-clause-basis c).In-Ok in
    appended_basis (program_of c.args.lp.now) (length c.args.lp.now.rows.items - 1) (more at) c.args.tableau c.in-Ok.made (numbers c.in_ok-made.made.items) (before at) (clear at) (row at)
