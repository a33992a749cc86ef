use Rattle.std.proofs.Common.{rules, ◌≡◌, ◌+◌, ◌*◌, ◌<◌, arith, sym, ◌∙◌, ap, length, pos, drop, FitsSigned}
use Rattle.std.proofs.lemmas.Nat.{mul-add-lt}
use Rattle.std.proofs.lemmas.Int.{to_z-of_z}
use Rattle.std.proofs.lemmas.List.{get_or-take, get_or-drop, get_or_default}
use Rattle.std.specs.Int.{w128}
use Rattle.zr_simplex.specs.declared.columns.Column.TheVariants.{Basic}
use Rattle.zr_simplex.specs.Programs.{numbers}
use Rattle.zr_simplex.specs.Tableaus.{column_at, form_of, number_at, row_in}
use Rattle.zr_simplex.proofs.tableau.Tableau.number.Goals as goal

pub returns-in-Some-clause-value : goal.returns-in-Some-clause-value
unfolding form_of
returns-in-Some-clause-value c =
    let t = c.self.inside in
    let row = c.args.row in
    let column = c.args.column in
    let place = c.in-Some.place in
    let ns = t.numbers.items in
    let f : FitsSigned w128 c.index-in-Some.result.now = search rules in
    let own : c.len-own.result ≡ length t.free.items = search rules in
    let low : row < length t.basis.items = rw (← c.self.view_is) at c.requires.row in
    let below : column < length t.columns.items = rw (← c.self.view_is) at c.requires.column in
    let stands : c.index.result.now ≡ column_at t.columns.items column = c.index.ensures ∙ get_or_default t.columns.items column c.index.result.now (Basic 0) below in
    let some = rw own at c.in-Some.ensures in
    let w = length t.free.items + 1 in
    let within : place < w = omega (arith, some.0) in
    let inside : row * w + place < length ns = omega (arith, c.self.invariant.0, mul-add-lt row w place (length t.basis.items) low within) in
    let xs = row_in w ns row in
    let value : c.index-in-Some.result.now ≡ numbers ns (row * w + place) = rw own at c.index-in-Some.ensures ∙ get_or_default ns (row * w + place) c.index-in-Some.result.now (pos 0) inside in
    let form : number_at (length t.free.items) row xs (column_at t.columns.items column) ≡ numbers ns (row * w + place) = ap (number_at (length t.free.items) row xs) (sym stands) ∙ some.1 xs ∙ get_or-take w (drop (row * w) ns) place (pos 0) within ∙ get_or-drop (row * w) ns place (pos 0) in
    simp to_z-of_z (rw (← c.self.view_is) (value ∙ sym form))

pub returns-in-None-clause-value : goal.returns-in-None-clause-value
unfolding form_of
returns-in-None-clause-value c =
    let t = c.self.inside in
    let row = c.args.row in
    let column = c.args.column in
    let own : c.len-own.result ≡ length t.free.items = search rules in
    let below : column < length t.columns.items = rw (← c.self.view_is) at c.requires.column in
    let stands : c.index.result.now ≡ column_at t.columns.items column = c.index.ensures ∙ get_or_default t.columns.items column c.index.result.now (Basic 0) below in
    let none = rw own at c.in-None.ensures in
    let xs = row_in (length t.free.items + 1) t.numbers.items row in
    rw (← c.self.view_is) (sym (ap (number_at (length t.free.items) row xs) (sym stands) ∙ none xs))
