use Rattle.std.proofs.Common.{rules, ◌≡◌, ◌≢◌, ◌<◌, ◌≤◌, ◌+◌, ◌*◌, ◌-◌, ℕ, arith, ap, ◌∙◌, ⊎_elim, length, drop}
use Rattle.std.proofs.lemmas.Bool.{cases_eq}
use Rattle.std.proofs.lemmas.List.{length-drop, length-take-le, with_items_is}
use Rattle.std.specs.Vec.{with_items}
use borrow.Rule.Slice.PartMut.{put_mid}
use Rattle.zr_simplex.proofs.Grids.{narrow_put, put_length, row_end, row_in-here, row_in-length, row_in-other}
use Rattle.zr_simplex.proofs.start.first_numbers.Goals as goal
use Rattle.zr_simplex.proofs.start.first_numbers.Goals.{After-write_value}

span : (i w : ℕ) → i * w + w - i * w ≡ w
span i w = omega arith

pub loop-row-preserved : goal.loop-row-preserved
loop-row-preserved c =
    let w = c.args.width in
    let i = c.loop-row.row in
    let m = length c.args.lp.now.rows.items in
    let xs = c.deref_mut.result.now in
    let ys = c.write_equation.new.places in
    let inv = c.loop-row.invariant in
    let value : xs ≡ c.loop-row.all.items = c.deref_mut.ensures.value in
    let e : c.len-rows.result ≡ m = search rules in
    let size : length xs ≡ (m + 1) * w = ap length value ∙ inv.len in
    let low : i < m + 1 = omega (arith, e, c.loop-row-test.true) in
    let len : length ys ≡ w = rw (span i w) at c.write_equation.ensures.len ∙ row_in-length (m + 1) w xs i low size in
    let inside : i * w + w ≤ length xs = omega (arith, size, row_end i (m + 1) w low) in
    let new : (with_items c.loop-row.all (put_mid (i * w) w xs ys)).items ≡ put_mid (i * w) w xs ys = with_items_is c.loop-row.all (put_mid (i * w) w xs ys) (put_length w xs ys i len inside ∙ c.deref_mut.ensures.len) in
    rw (span i w, new) (record {
      len = put_length w xs ys i len inside ∙ size;
      narrow = narrow_put w xs ys i len inside (rw value inv.narrow) c.write_equation.ensures.narrow;
      done = λ k h. ⊎_elim (λ (s : k ≡ i). rw (s, row_in-here w xs ys i len inside) c.write_equation.ensures.first) (λ (a : k ≢ i). rw (row_in-other w xs ys i len inside k a, value) (inv.done k (omega (arith, h, a)))) (cases_eq k i);
      zeros = λ k h q. rw (row_in-other w xs ys i len inside k (λ s. omega (arith, s, h)), value) (inv.zeros k (omega (arith, h)) q);
    })

module _ (c : After-write_value) where
  count : c.len-rows.result ≡ length c.args.lp.now.rows.items
  count = search rules

  size : length c.deref_mut-2.result.now ≡ (length c.args.lp.now.rows.items + 1) * c.args.width
  size = ap length c.deref_mut-2.ensures.value ∙ c.loop-row.invariant.len

  tail : length c.deref_mut-2.result.now - length c.args.lp.now.rows.items * c.args.width ≡ c.args.width
  tail = omega (arith, size)

  wide : length c.write_value.new.places ≡ c.args.width
  wide =
      let m = length c.args.lp.now.rows.items in
      let xs = c.deref_mut-2.result.now in
      rw count at c.write_value.ensures.len ∙ length-take-le (length xs - m * c.args.width) (drop (m * c.args.width) xs) (omega (arith, length-drop (m * c.args.width) xs)) ∙ tail

  inside : length c.args.lp.now.rows.items * c.args.width + c.args.width ≤ length c.deref_mut-2.result.now
  inside = omega (arith, size)

  new : (with_items c.loop-row.all (put_mid (length c.args.lp.now.rows.items * c.args.width) c.args.width c.deref_mut-2.result.now c.write_value.new.places)).items ≡ put_mid (length c.args.lp.now.rows.items * c.args.width) c.args.width c.deref_mut-2.result.now c.write_value.new.places
  new =
      with_items_is c.loop-row.all (put_mid (length c.args.lp.now.rows.items * c.args.width) c.args.width c.deref_mut-2.result.now c.write_value.new.places) (put_length c.args.width c.deref_mut-2.result.now c.write_value.new.places (length c.args.lp.now.rows.items) wide inside ∙ c.deref_mut-2.ensures.len)

pub returns-clause-narrow : goal.returns-clause-narrow
returns-clause-narrow c =
    let at = (goal.at.returns-clause-narrow c).After-write_value in
    rw (count at, tail at, new at) (narrow_put c.args.width c.deref_mut-2.result.now c.write_value.new.places (length c.args.lp.now.rows.items) (wide at) (inside at) (rw c.deref_mut-2.ensures.value c.loop-row.invariant.narrow) c.write_value.ensures.narrow)

pub returns-clause-rows : goal.returns-clause-rows
returns-clause-rows c r h =
    let at = (goal.at.returns-clause-rows c).After-write_value in
    let e = count at in
    rw (count at, tail at, new at, row_in-other c.args.width c.deref_mut-2.result.now c.write_value.new.places (length c.args.lp.now.rows.items) (wide at) (inside at) r (λ s. omega (arith, s, h)), c.deref_mut-2.ensures.value) (c.loop-row.invariant.done r (omega (arith, h, e, c.loop-row-test.false)))

pub returns-clause-value : goal.returns-clause-value
returns-clause-value c =
    let at = (goal.at.returns-clause-value c).After-write_value in
    rw (count at, tail at, new at, row_in-here c.args.width c.deref_mut-2.result.now c.write_value.new.places (length c.args.lp.now.rows.items) (wide at) (inside at)) c.write_value.ensures.first
