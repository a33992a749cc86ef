use Rattle.std.proofs.Common.{◌≡◌, ℕ, ◌+◌, ◌*◌, ◌-◌, ◌≤◌, arith, ◌∙◌, length}
use Rattle.zr_simplex.specs.Tableaus.{row_in}
use Rattle.zr_simplex.proofs.Grids.{row_end, row_in-here, row_in-length, row_in-other}
use Rattle.zr_simplex.proofs.append.replace_row.Goals as goal
use Rattle.zr_simplex.proofs.append.replace_row.Goals.{After-reduce}

span : (i w : ℕ) → i * w + w - i * w ≡ w
span i w = omega arith

module _ (c : After-reduce) where
  wide : length (row_in (length c.args.free.now + 1) c.args.all.now c.args.row) ≡ length c.args.free.now + 1
  wide =
      row_in-length (c.args.row + 2) (length c.args.free.now + 1) c.args.all.now c.args.row (omega arith) c.requires.len

  places_long : length c.condense-common.new.places ≡ length c.args.free.now + 1
  places_long = rw (span c.args.row (length c.args.free.now + 1)) at c.condense-common.ensures.len ∙ wide

  long : length c.reduce.new.row ≡ length c.args.free.now + 1
  long = c.reduce.ensures.len ∙ places_long

  inside : c.args.row * (length c.args.free.now + 1) + (length c.args.free.now + 1) ≤ length c.args.all.now
  inside = omega (arith, c.requires.len, row_end c.args.row (c.args.row + 2) (length c.args.free.now + 1) (omega arith))

pub returns-clause-others : goal.returns-clause-others
returns-clause-others c i apart =
    let at = (goal.at.returns-clause-others c).After-reduce in
    let w = length c.args.free.now + 1 in
    rw (span c.args.row w) (row_in-other w c.args.all.now c.reduce.new.row c.args.row (long at) (inside at) i apart)

pub returns-clause-made : goal.returns-clause-made
returns-clause-made c =
    let at = (goal.at.returns-clause-made c).After-reduce in
    let w = length c.args.free.now + 1 in
    let q = c.reduce.ensures.quotient in
    let made = c.condense-common.ensures in
    rw (span c.args.row w, row_in-here w c.args.all.now c.reduce.new.row c.args.row (long at) (inside at)) (record {
      over = q.over;
      over_apart = q.over_apart;
      off = λ k h. q.numbers k (omega (arith, h, places_long at)) ∙ made.off k h;
      own = q.numbers (length c.args.free.now) (omega (arith, places_long at)) ∙ made.own (length c.args.made.now - 1) (omega (arith, c.requires.some));
    })

pub returns-clause-primitive : goal.returns-clause-primitive
returns-clause-primitive c =
    let at = (goal.at.returns-clause-primitive c).After-reduce in
    let w = length c.args.free.now + 1 in
    rw (span c.args.row w, row_in-here w c.args.all.now c.reduce.new.row c.args.row (long at) (inside at)) (rw (places_long at) at c.reduce.ensures.primitive)
