use Rattle.std.proofs.Common.{rules, ◌≡◌, ℕ, ◌+◌, ◌-◌, ◌<◌, arith, sym, ap, ◌∙◌, [], ◌∷◌, ◌++◌, length, set, slice_index, length-append, length-set, get_or-set_same, pos}
use Rattle.std.proofs.lemmas.List.{get_or_push, with_items_is}
use Rattle.std.specs.Vec.{with_items}
use Rattle.zr_simplex.specs.Programs.{numbers}
use Rattle.zr_simplex.specs.Tableaus.{form_of}
use Rattle.zr_simplex.proofs.Added.{IsAdded, row_kept, row_made, row_own, row_primitive, value_kept}
use Rattle.zr_simplex.proofs.Stands.{partition_of}
use Rattle.zr_simplex.proofs.tableau.Tableau.with_row.Goals as goal

pub returns : goal.returns
unfolding form_of
returns c m n v count free_count width =
    let t = c.self.inside in
    let many : length t.basis.items ≡ m + 1 = rw (← c.self.view_is) at count in
    let off : length t.free.items ≡ n + 1 = rw (← c.self.view_is) at free_count in
    let long : length t.columns.items ≡ v + 2 = rw (← c.self.view_is) at width in
    let len : c.len.result ≡ length t.basis.items = search rules in
    let row : c.len.result - 1 ≡ m = omega (arith, len, many) in
    let equation = rw (c.deref.ensures.value, row, off) at c.in_ok-add_equation.ensures in
    let slack = c.in_ok-add_slack.ensures in
    let made = c.add_slack.new in
    let home : length c.args.made.now - 1 ≡ v + 2 = omega (arith, c.requires.len, width) in
    let end : length t.columns.items - 1 ≡ v + 1 = omega (arith, long) in
    let place : length t.free.items - 1 ≡ n = omega (arith, off) in
    let basis_is : made.basis.items ≡ t.basis.items ++ (v + 1) ∷ [] = rw end at slack.basis in
    let free_is : made.free ≡ set t.free.items n (v + 2) = rw (c.deref_mut.ensures.value, place, long) at slack.free in
    let new : (with_items t.free made.free).items ≡ made.free = with_items_is t.free made.free (search rules) in
    let value_at = rw (← c.self.view_is) at (c.requires.value m (sym count)) in
    let right_at = rw (← c.self.view_is) at (c.requires.right n (sym free_count)) in
    let cleared_at = rw (← c.self.view_is) at c.requires.cleared in
    let free_long : length made.free ≡ n + 1 = ap length free_is ∙ length-set t.free.items n (v + 2) ∙ off in
    let added : IsAdded t.basis.items t.free.items t.columns.items t.numbers.items made.basis.items made.free made.columns.items c.add_equation.new.all.items m n v = record {
      are = c.self.invariant.2;
      after = slack.columns;
      count = many;
      free_count = off;
      next_count = ap length basis_is ∙ length-append t.basis.items ((v + 1) ∷ []) ∙ omega (arith, many);
      off_count = free_long;
      long = long;
      then_long = slack.long ∙ omega (arith, long);
      value = omega (arith, value_at, long);
      right = omega (arith, right_at, long);
      next_value = ap (λ b. slice_index b (m + 1)) basis_is ∙ get_or_push t.basis.items (v + 1) 0 (m + 1) many;
      off_right = ap (λ f. slice_index f n) free_is ∙ get_or-set_same t.free.items n (v + 2) 0 (omega (arith, off));
      same = λ j h. slack.same j (omega (arith, h, long));
      rows = equation.rows;
      last = equation.value;
    } in
    let cleared : (k : ℕ) → k < m + 1 → numbers c.args.made.now (slice_index t.basis.items k) ≡ pos 0 = λ k h. cleared_at k (omega (arith, h, many)) in
    rw (← c.self.view_is) (record {
      basis = basis_is;
      free = new ∙ free_is;
      width = slack.long ∙ omega (arith, long);
      partition = rw new (partition_of slack.columns);
      rows = λ i h j q. rw (new, free_long, off) (row_kept added i h j q);
      last = λ j q. rw (new, free_long, off) (value_kept added j q);
      made = rw (new, free_long) (row_made added (numbers c.args.made.now) cleared (rw home at equation.made));
      own = rw (new, free_long) (row_own added equation.own);
      primitive = rw (new, free_long) (row_primitive added equation.primitive);
    })
