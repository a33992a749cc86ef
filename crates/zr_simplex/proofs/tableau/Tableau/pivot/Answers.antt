use Rattle.std.proofs.Common.{rules, ◌≡◌, ◌≢◌, ℕ, ◌+◌, ◌<◌, sym, ap, subst, ◌∙◌, length, set, slice_index, length-set, get_or-set_other}
use Rattle.std.proofs.lemmas.List.{get_or_default, with_items_is}
use Rattle.std.specs.Vec.{with_items}
use Rattle.zr_simplex.specs.declared.columns.Column.TheVariants.{Basic, Free}
use Rattle.zr_simplex.specs.Tableaus.{Holds, column_at, form_of, row_in}
use Rattle.zr_simplex.proofs.Condensed.{pivot_out, wide_out, column_inside}
use Rattle.zr_simplex.proofs.Grids.{row_in-length}
use Rattle.zr_simplex.proofs.Held.{above_in, primitive_each, own_pivot, is_own}
use Rattle.zr_simplex.proofs.Stands.{exchanged, exchanged-length, partition_of}
use Rattle.zr_simplex.proofs.tableau.Tableau.pivot.Goals as goal
use Rattle.zr_simplex.proofs.tableau.Tableau.pivot.Goals.{After-index, After-len-2}

module _ (c : After-index) where
  column_low : c.args.column < length c.self.inside.columns.items
  column_low = rw (← c.self.view_is) at c.requires.column

  stands_low : c.index.result.now ≡ column_at c.self.inside.columns.items c.args.column
  stands_low =
      c.index.ensures ∙ get_or_default c.self.inside.columns.items c.args.column c.index.result.now (Basic 0) column_low

pub returns-in_default-clause-ok : goal.returns-in_default-clause-ok
unfolding form_of
returns-in_default-clause-ok c =
    let at = (goal.at.returns-in_default-clause-ok c).After-index in
    let t = c.self.inside in
    let row = c.args.row in
    let column = c.args.column in
    let other : (k : ℕ) → column_at t.columns.items column ≢ Free k = λ k e. c.in_default.not-Free k (stands_low at ∙ e) in
    let own = is_own t.basis.items t.free.items t.columns.items c.self.invariant.2 row column (row_in (length t.free.items + 1) t.numbers.items row) (column_low at) other (rw (← c.self.view_is) at c.requires.apart) in
    let solved = rw (← c.self.view_is) at c.requires.solved in
    rw (← c.self.view_is) (own_pivot (length t.basis.items) (length t.columns.items) _ _ row column solved (rw (← c.self.view_is) at c.requires.row) own)

pub returns-in_default-clause-partition : goal.returns-in_default-clause-partition
returns-in_default-clause-partition c = rw (← c.self.view_is) (partition_of c.self.invariant.2)

pub exchange-requires-clause-above : goal.exchange-requires-clause-above
unfolding form_of
exchange-requires-clause-above c i h =
    let t = c.self.inside in
    let solved = rw (← c.self.view_is) at c.requires.solved in
    let low : i < length t.basis.items = search rules in
    let own : c.len-2.result ≡ length t.free.items = search rules in
    rw (own, c.deref_mut.ensures.value) (above_in c.self.invariant.2 t.numbers.items solved i low)

pub exchange-requires-clause-primitive : goal.exchange-requires-clause-primitive
unfolding form_of
exchange-requires-clause-primitive c i h =
    let t = c.self.inside in
    let solved = rw (← c.self.view_is) at c.requires.solved in
    let low : i < length t.basis.items = search rules in
    let own : c.len-2.result ≡ length t.free.items = search rules in
    rw (own, c.deref_mut.ensures.value) (primitive_each c.self.invariant.2 t.numbers.items solved i low)

pub returns-in-Err-clause-partition : goal.returns-in-Err-clause-partition
returns-in-Err-clause-partition c = partition_of c.self.invariant.2

pub invariant_of-self-in-Err : goal.invariant_of-self-in-Err
invariant_of-self-in-Err c =
    let t = c.self.inside in
    let new : (with_items t.numbers c.exchange.new.all).items ≡ c.exchange.new.all = with_items_is t.numbers c.exchange.new.all (search rules) in
    rw new (c.exchange.ensures.len ∙ ap length c.deref_mut.ensures.value ∙ c.self.invariant.0, c.exchange.ensures.narrow, c.self.invariant.2)

-- the column stands at the place
module _ (c : After-len-2) where
  row_below : c.args.row < length c.self.inside.basis.items
  row_below = rw (← c.self.view_is) at c.requires.row

  column_below : c.args.column < length c.self.inside.columns.items
  column_below = rw (← c.self.view_is) at c.requires.column

  stands : c.index.result.now ≡ column_at c.self.inside.columns.items c.args.column
  stands =
      c.index.ensures ∙ get_or_default c.self.inside.columns.items c.args.column c.index.result.now (Basic 0) column_below

  held : Holds c.self.inside.basis.items c.self.inside.free.items c.args.column (Free c.in-Free.place)
  held =
      let t = c.self.inside in
      subst (Holds t.basis.items t.free.items c.args.column) (sym stands ∙ c.in-Free.is) (c.self.invariant.2.each c.args.column column_below)

  long : (i : ℕ) → i < length c.self.inside.basis.items → length (row_in (length c.self.inside.free.items + 1) c.self.inside.numbers.items i) ≡ length c.self.inside.free.items + 1
  long i h =
      let t = c.self.inside in
      row_in-length (length t.basis.items) (length t.free.items + 1) t.numbers.items i h c.self.invariant.0

pub exchange-requires-clause-apart : goal.exchange-requires-clause-apart
unfolding form_of
exchange-requires-clause-apart c =
    let at = (goal.at.exchange-requires-clause-apart c).After-len-2 in
    let t = c.self.inside in
    let own : c.len-2.result ≡ length t.free.items = search rules in
    let nonzero = rw (sym (stands at) ∙ c.in-Free.is) at (rw (← c.self.view_is) at c.requires.apart) in
    rw (own, c.deref_mut.ensures.value) nonzero

pub exchange_columns-requires-clause-place : goal.exchange_columns-requires-clause-place
exchange_columns-requires-clause-place c =
    let at = (goal.at.exchange_columns-requires-clause-place c).After-len-2 in
    rw c.deref_mut-in-Ok-2.ensures.value (held at).0

pub returns-in-Ok-clause-basis : goal.returns-in-Ok-clause-basis
returns-in-Ok-clause-basis c =
    let at = (goal.at.returns-in-Ok-clause-basis c).After-len-2 in
    let t = c.self.inside in
    let made = c.exchange_columns in
    let basis : (with_items t.basis made.new.basis).items ≡ made.new.basis = with_items_is t.basis made.new.basis (search rules) in
    let is = rw (c.deref_mut-in-Ok.ensures.value, c.deref_mut-in-Ok-2.ensures.value, (held at).1) at made.ensures.basis in
    rw (basis, ← c.self.view_is) is

pub returns-in-Ok-clause-free : goal.returns-in-Ok-clause-free
returns-in-Ok-clause-free c =
    let at = (goal.at.returns-in-Ok-clause-free c).After-len-2 in
    let t = c.self.inside in
    let made = c.exchange_columns in
    let place = c.in-Free.place in
    let free : (with_items t.free made.new.free).items ≡ made.new.free = with_items_is t.free made.new.free (search rules) in
    let leaving = slice_index t.basis.items c.args.row in
    let is : made.new.free ≡ set t.free.items place leaving = rw (c.deref_mut-in-Ok.ensures.value, c.deref_mut-in-Ok-2.ensures.value) at made.ensures.free in
    let other : (k : ℕ) → k < length t.free.items → slice_index t.free.items k ≢ c.args.column → slice_index made.new.free k ≡ slice_index t.free.items k = λ k h apart. ap (λ f. slice_index f k) is ∙ get_or-set_other t.free.items place k leaving 0 (λ e. apart (ap (λ n. slice_index t.free.items n) e ∙ (held at).1)) in
    rw (free, ← c.self.view_is) (ap length is ∙ length-set t.free.items place leaving, other)

pub returns-in-Ok-clause-ok : goal.returns-in-Ok-clause-ok
unfolding form_of
returns-in-Ok-clause-ok c =
    let at = (goal.at.returns-in-Ok-clause-ok c).After-len-2 in
    let t = c.self.inside in
    let made = c.exchange_columns in
    let count : c.len.result ≡ length t.basis.items = search rules in
    let own : c.len-2.result ≡ length t.free.items = search rules in
    let columns : (with_items t.columns made.new.columns).items ≡ made.new.columns = with_items_is t.columns made.new.columns (search rules) in
    let free : (with_items t.free made.new.free).items ≡ made.new.free = with_items_is t.free made.new.free (search rules) in
    let all : (with_items t.numbers c.exchange.new.all).items ≡ c.exchange.new.all = with_items_is t.numbers c.exchange.new.all (search rules) in
    let exchange = rw (own, count, c.deref_mut.ensures.value) at c.in-Ok.ensures.ok in
    let row = c.args.row in
    let place = c.in-Free.place in
    let inside = (held at).0 in
    let is = (held at).1 in
    let basis_is : made.new.basis ≡ set t.basis.items row (slice_index t.free.items place) = rw (c.deref_mut-in-Ok.ensures.value, c.deref_mut-in-Ok-2.ensures.value) at made.ensures.basis in
    let free_is : made.new.free ≡ set t.free.items place (slice_index t.basis.items row) = rw (c.deref_mut-in-Ok.ensures.value, c.deref_mut-in-Ok-2.ensures.value) at made.ensures.free in
    let after = rw (basis_is, free_is) at made.ensures.columns in
    let same : length made.new.columns ≡ length t.columns.items = made.ensures.len ∙ ap length c.deref_mut-in-Ok-3.ensures.value in
    let free_long : length made.new.free ≡ length t.free.items = ap length free_is ∙ length-set t.free.items place (slice_index t.basis.items row) in
    let rows = row_in (length t.free.items + 1) t.numbers.items in
    let now = row_in (length t.free.items + 1) c.exchange.new.all in
    let pivot = pivot_out t.basis.items t.free.items t.columns.items made.new.columns c.self.invariant.2 row place (row_below at) inside after same rows now (long at) exchange in
    rw (← c.self.view_is, columns, free, all, free_long, ← is) pivot

pub returns-in-Ok-clause-partition : goal.returns-in-Ok-clause-partition
returns-in-Ok-clause-partition c =
    let t = c.self.inside in
    let made = c.exchange_columns in
    let basis : (with_items t.basis made.new.basis).items ≡ made.new.basis = with_items_is t.basis made.new.basis (search rules) in
    let columns : (with_items t.columns made.new.columns).items ≡ made.new.columns = with_items_is t.columns made.new.columns (search rules) in
    let free : (with_items t.free made.new.free).items ≡ made.new.free = with_items_is t.free made.new.free (search rules) in
    rw (basis, columns, free) (partition_of made.ensures.columns)

pub returns-in-Err-clause-err : goal.returns-in-Err-clause-err
unfolding form_of
returns-in-Err-clause-err c =
    let at = (goal.at.returns-in-Err-clause-err c).After-len-2 in
    let t = c.self.inside in
    let count : c.len.result ≡ length t.basis.items = search rules in
    let own : c.len-2.result ≡ length t.free.items = search rules in
    let err = rw (own, count, c.deref_mut.ensures.value) at c.in-Err.ensures.err in
    let row = c.args.row in
    let place = c.in-Free.place in
    let e = c.in-Err.e in
    let inside = (held at).0 in
    let is = (held at).1 in
    let after = exchanged t.basis.items t.free.items t.columns.items c.self.invariant.2 row place (row_below at) inside in
    let same = exchanged-length t.basis.items t.free.items t.columns.items c.self.invariant.2 row place (row_below at) inside in
    let made = rw (c.deref.ensures.value, c.deref-in-Err.ensures.value) at c.made_column.ensures in
    let col = c.made_column.result in
    let rows = row_in (length t.free.items + 1) t.numbers.items in
    let below = column_inside t.basis.items t.free.items t.columns.items _ c.self.invariant.2 row place (row_below at) inside after same rows rows (long at) e.row err.0 err.1 e.at.place col err.2 made.own made.entered in
    let wide = wide_out t.basis.items t.free.items t.columns.items _ c.self.invariant.2 row place (row_below at) inside after same rows rows (long at) e.row err.0 err.1 e.at.place col err.2 made.own made.entered e.at.wide in
    let nonzero = rw (sym (stands at) ∙ c.in-Free.is) at (rw (← c.self.view_is) at c.requires.apart) in
    rw (← c.self.view_is) (err.0, err.1, below, rw is at (wide nonzero err.3))
