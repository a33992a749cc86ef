use Rattle.std.proofs.Common.{rules, ◌≡◌, ◌<◌, ℕ, ℤ, ◌∙◌, pos, ◌-ℤ◌, ◌*ℤ◌, get_or, FitsSigned, Ok, Err}
use Rattle.std.specs.Prelude.{Result, OnOk}
use Rattle.std.proofs.lemmas.Int.{to_z-of_z}
use Rattle.std.specs.Int.{w128}
use Rattle.zr_simplex.specs.Programs.{numbers}
use Rattle.zr_simplex.specs.StuckSteps.{AreCoprimeParts}
use Rattle.zr_simplex.specs.Tableaus.{basis_of, form_of}
use Rattle.zr_simplex.proofs.Appending.{by_above, taken_none, taken_zero}
use Rattle.zr_simplex.proofs.append.clear_column.Goals as goal
use Rattle.zr_simplex.proofs.append.clear_column.Goals.{After-take_off}

pub returns-then-number-eq0-clause-taken : goal.returns-then-number-eq0-clause-taken
returns-then-number-eq0-clause-taken c =
    let t = c.args.tableau.now in
    taken_none t.width (form_of t c.args.row) (numbers c.args.made.now)

both : {T E A B C : Type 0} (r : Result T E) → (A → B → C) → OnOk r A → OnOk r B → OnOk r C
both (Ok x) f a b = f a b
both (Err e) f a b = tt

one : {T E A C : Type 0} (r : Result T E) → (A → C) → OnOk r A → OnOk r C
one (Ok x) f a = f a
one (Err e) f a = tt

module _ (c : After-take_off) where
  abbrev by : ℤ
  by = c.coprime_parts-by.result.0

  abbrev less : ℤ
  less = c.coprime_parts-by.result.1

  low : AreCoprimeParts (form_of c.args.tableau.now c.args.row (basis_of c.args.tableau.now c.args.row)) (numbers c.args.made.now (basis_of c.args.tableau.now c.args.row)) by less
  low =
      let t = c.args.tableau.now in
      let x : FitsSigned w128 (get_or c.args.made.now c.own-column.result (pos 0)) = search rules in
      let y : FitsSigned w128 c.number.result = search rules in
      let parts = simp to_z-of_z at c.coprime_parts-by.ensures in
      rw (c.number.ensures.value, c.own-column.ensures) at parts

  numbers_are : OnOk c.take_off.result ((j : ℕ) → j < c.args.tableau.now.width → numbers c.take_off.new.made j ≡ by *ℤ numbers c.args.made.now j -ℤ less *ℤ form_of c.args.tableau.now c.args.row j)
  numbers_are =
      let x : FitsSigned w128 c.coprime_parts-by.result.0 = search rules in
      let y : FitsSigned w128 c.coprime_parts-by.result.1 = search rules in
      simp to_z-of_z at c.take_off.ensures.numbers

  own_is : OnOk c.take_off.result (numbers c.take_off.new.made c.args.tableau.now.width ≡ by *ℤ numbers c.args.made.now c.args.tableau.now.width)
  own_is =
      let x : FitsSigned w128 c.coprime_parts-by.result.0 = search rules in
      simp to_z-of_z at c.take_off.ensures.own

pub returns-clause-taken : goal.returns-clause-taken
returns-clause-taken c =
    let at = (goal.at.returns-clause-taken c).After-take_off in
    let t = c.args.tableau.now in
    let p = form_of t c.args.row (basis_of t c.args.row) in
    let a = numbers c.args.made.now (basis_of t c.args.row) in
    both c.take_off.result (λ each own. record {
      by = by at;
      less = less at;
      above = by_above p a (by at) (less at) (low at) c.requires.above;
      numbers = each;
      own = own;
    }) (numbers_are at) (own_is at)

pub returns-clause-cleared : goal.returns-clause-cleared
returns-clause-cleared c =
    let at = (goal.at.returns-clause-cleared c).After-take_off in
    let t = c.args.tableau.now in
    let p = form_of t c.args.row (basis_of t c.args.row) in
    let a = numbers c.args.made.now (basis_of t c.args.row) in
    one c.take_off.result (λ each. each (basis_of t c.args.row) c.requires.column ∙ taken_zero p a (by at) (less at) (low at)) (numbers_are at)
