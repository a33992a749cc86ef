use Rattle.std.proofs.Common.{rules, ◌≡◌, ◌<◌, ◌+◌, ◌*◌, ◌-◌, ℕ, ℤ, arith, ap, ◌∙◌, length, List, ◌++◌, FitsSigned}
use Rattle.std.proofs.lemmas.Int.{to_z-of_z}
use Rattle.std.proofs.lemmas.List.Elements.{All-append, All-drop}
use Rattle.std.proofs.lemmas.Result.{err_from_is_err_and}
use Rattle.std.specs.Int.{w128}
use Rattle.std.specs.List.{All}
use Rattle.zr_base.specs.Steps.{IsNarrow}
use Rattle.zr_simplex.proofs.Swaps.{left-length, swapped_primitive}
use Rattle.zr_simplex.proofs.Turn.{IsSplit, at_above, at_below, at_pivot, exchange_made}
use Rattle.zr_simplex.proofs.pivot.exchange.Goals as goal
use Rattle.zr_simplex.proofs.pivot.exchange.Goals.{After-leave-number}

narrow_parts : (above pivot below : List ℤ) → All IsNarrow above → All IsNarrow pivot → All IsNarrow below → All IsNarrow (above ++ (pivot ++ below))
narrow_parts above pivot below one two three =
    All-append IsNarrow above (pivot ++ below) one (All-append IsNarrow pivot below two three)

module _ (c : After-leave-number) where
  split : IsSplit (c.args.own + 1) c.args.row c.args.all.now c.split_at_mut-above.result.0.now c.split_at_mut-pivot.result.0.now c.split_at_mut-pivot.result.1.now
  split = record {
    long = c.split_at_mut-above.ensures.front_len;
    one = c.split_at_mut-pivot.ensures.front_len;
    parts = c.split_at_mut-above.ensures.value ∙ ap (λ x. c.split_at_mut-above.result.0.now ++ x) c.split_at_mut-pivot.ensures.value;
  }

  has_own : c.args.own < length c.split_at_mut-pivot.result.0.now
  has_own = omega (arith, c.split_at_mut-pivot.ensures.front_len)

  long : length c.leave-number.new.pivot ≡ c.args.own + 1
  long =
      ap length c.leave-number.ensures.left ∙ left-length c.args.place c.args.own c.split_at_mut-pivot.result.0.now c.requires.place has_own ∙ c.split_at_mut-pivot.ensures.front_len

  below_narrow : All IsNarrow c.split_at_mut-pivot.result.1.now
  below_narrow =
      let rest = All-drop IsNarrow (c.args.row * (c.args.own + 1)) c.args.all.now c.requires.narrow in
      rw c.split_at_mut-pivot.ensures.back (All-drop IsNarrow (c.args.own + 1) c.split_at_mut-above.result.1.now (rw c.split_at_mut-above.ensures.back rest))

pub clear_rows-requires-clause-above : goal.clear_rows-requires-clause-above
clear_rows-requires-clause-above c i h =
    let at = (goal.at.clear_rows-requires-clause-above c).After-leave-number in
    rw (long at, ← at_above (split at) i h) (c.requires.above i (omega (arith, h, c.requires.row)))

pub clear_rows-requires-clause-primitive : goal.clear_rows-requires-clause-primitive
clear_rows-requires-clause-primitive c i h =
    let at = (goal.at.clear_rows-requires-clause-primitive c).After-leave-number in
    rw (long at, ← at_above (split at) i h) (c.requires.primitive i (omega (arith, h, c.requires.row)))

pub returns-in_err-clear_rows-clause-narrow : goal.returns-in_err-clear_rows-clause-narrow
returns-in_err-clear_rows-clause-narrow c =
    let at = (goal.at.returns-in_err-clear_rows-clause-narrow c).After-leave-number in
    narrow_parts c.clear_rows.new.rows c.leave-number.new.pivot c.split_at_mut-pivot.result.1.now c.clear_rows.ensures.narrow c.leave-number.ensures.narrow (below_narrow at)

pub returns-in_err-clear_rows-clause-err : goal.returns-in_err-clear_rows-clause-err
returns-in_err-clear_rows-clause-err c =
    let at = (goal.at.returns-in_err-clear_rows-clause-err c).After-leave-number in
    let s = split at in
    let n : FitsSigned w128 c.leave-number.result = search rules in
    let p = err_from_is_err_and c.from_residual.result c.from_residual.ensures.1 in
    let e = rw (long at, c.leave-number.ensures.left, c.leave-number.ensures.value) at (simp to_z-of_z at c.in_err-clear_rows.ensures.err) in
    let row = c.in_err-clear_rows.field-0.0.row in
    rw (p.1, p.2, at_pivot s, at_above s row e.0) (omega (arith, e.0, c.requires.row), λ z. omega (arith, z, e.0), e.1, e.2)

rest : (k row w x b : ℕ) → b ≡ k + (row + 1) → x + w + row * w ≡ b * w → x ≡ k * w
rest k row w x b e f = let g = rw e at f in omega (arith, g)

pub clear_rows-requires-2-clause-len : goal.clear_rows-requires-2-clause-len
clear_rows-requires-2-clause-len c =
    let at = (goal.at.clear_rows-requires-2-clause-len c).After-leave-number in
    let b = c.args.count in
    let w = c.args.own + 1 in
    rw (long at) (rest (b - c.args.row - 1) c.args.row w (length c.split_at_mut-pivot.result.1.now) b (omega (arith, c.requires.row)) (omega (arith, c.split_at_mut-pivot.ensures.back_len, c.split_at_mut-above.ensures.back_len, c.requires.len)))

pub clear_rows-requires-2-clause-above : goal.clear_rows-requires-2-clause-above
clear_rows-requires-2-clause-above c i h =
    let at = (goal.at.clear_rows-requires-2-clause-above c).After-leave-number in
    rw (long at, ← at_below (split at) i) (c.requires.above (c.args.row + (1 + i)) (omega (arith, h)))

pub clear_rows-requires-2-clause-primitive : goal.clear_rows-requires-2-clause-primitive
clear_rows-requires-2-clause-primitive c i h =
    let at = (goal.at.clear_rows-requires-2-clause-primitive c).After-leave-number in
    rw (long at, ← at_below (split at) i) (c.requires.primitive (c.args.row + (1 + i)) (omega (arith, h)))

pub returns-in-Err-clause-narrow : goal.returns-in-Err-clause-narrow
returns-in-Err-clause-narrow c =
    narrow_parts c.clear_rows.new.rows c.leave-number.new.pivot c.clear_rows-2.new.rows c.clear_rows.ensures.narrow c.leave-number.ensures.narrow c.clear_rows-2.ensures.narrow

pub returns-in-Err-clause-err : goal.returns-in-Err-clause-err
returns-in-Err-clause-err c =
    let at = (goal.at.returns-in-Err-clause-err c).After-leave-number in
    let s = split at in
    let n : FitsSigned w128 c.leave-number.result = search rules in
    let e = rw (long at, c.leave-number.ensures.left, c.leave-number.ensures.value) at (simp to_z-of_z at c.in-Err.ensures.err) in
    let m : c.in-Err.e.row + c.args.row + 1 ≡ c.args.row + (1 + c.in-Err.e.row) = omega arith in
    rw (m, at_pivot s, at_below s c.in-Err.e.row) (omega (arith, e.0), λ z. omega (arith, z), e.1, e.2)

pub enter-requires-clause-primitive : goal.enter-requires-clause-primitive
enter-requires-clause-primitive c =
    let at = (goal.at.enter-requires-clause-primitive c).After-leave-number in
    let n : FitsSigned w128 c.leave-number.result = search rules in
    let xs = c.split_at_mut-pivot.result.0.now in
    let whole = rw (at_pivot (split at)) at (c.requires.primitive c.args.row c.requires.row) in
    let swapped = swapped_primitive c.args.place c.args.own xs c.requires.place (has_own at) whole in
    simp to_z-of_z (rw (long at, c.leave-number.ensures.left, c.leave-number.ensures.value) swapped)

pub returns-clause-narrow : goal.returns-clause-narrow
returns-clause-narrow c =
    narrow_parts c.clear_rows.new.rows c.enter.new.pivot c.clear_rows-2.new.rows c.clear_rows.ensures.narrow c.enter.ensures.narrow c.clear_rows-2.ensures.narrow

pub returns-clause-ok : goal.returns-clause-ok
returns-clause-ok c =
    let at = (goal.at.returns-clause-ok c).After-leave-number in
    let n : FitsSigned w128 c.leave-number.result = search rules in
    let is = c.leave-number.ensures in
    let first = rw (long at, is.left, is.value) at (simp to_z-of_z at c.in_ok-clear_rows.ensures.ok) in
    let second = rw (long at, is.left, is.value) at (simp to_z-of_z at c.in_default.ensures.ok) in
    let quotient = rw (long at, is.left, is.value) at (simp to_z-of_z at c.enter.ensures.quotient) in
    let primitive = rw (long at) at c.enter.ensures.primitive in
    exchange_made c.args.count c.args.own c.args.row c.args.place (split at) c.clear_rows.new.rows c.enter.new.pivot c.clear_rows-2.new.rows (c.clear_rows.ensures.len ∙ c.split_at_mut-above.ensures.front_len) (c.enter.ensures.len ∙ long at) quotient c.enter.ensures.own primitive first second
