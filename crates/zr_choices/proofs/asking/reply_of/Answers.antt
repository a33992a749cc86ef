use Rattle.std.proofs.Common.{rules, ◌≡◌, arith, pos, int_lt, true, false, length, FitsSigned}
use Rattle.std.specs.Int.{w128}
use Rattle.std.proofs.lemmas.Int.{ints, to_z-of_z}
use Rattle.zr_choices.proofs.AskedRows.{never_unbounded}
use Rattle.zr_choices.proofs.Replying.{best_columns, best_reply, empty_columns, empty_reply, extra_listed, mult_listed, point_reply, signs_are, signs_few}
use Rattle.zr_choices.specs.Programs.{is_free}
use Rattle.zr_system.specs.System.{system_rows}
use Rattle.zr_system.specs.Unknowns.{columns}
use Rattle.zr_choices.proofs.asking.reply_of.Goals as goal

pub point_by-requires-clause-up : goal.point_by-requires-clause-up
point_by-requires-clause-up c =
    let best = rw c.in-Best.is at c.requires.answer in
    let l = best.feasible.len in
    λ k h. best.feasible.nonnegative k (omega (arith, h, l))

pub returns-then-num-gt0 : goal.returns-then-num-gt0
returns-then-num-gt0 c game leaves path is =
    let q = c.args.q.now in
    let best = rw c.in-Best.is at c.requires.answer in
    let b = c.requires.basic in
    let basic = rw c.in-Best.is at b.3 in
    let f : FitsSigned w128 c.num.result = search rules in
    let e : int_lt (pos 0) c.num.result ≡ true = simp to_z-of_z at c.if-num-gt0.true in
    let v = c.num.ensures.value in
    point_reply game leaves path q is b.0 b.1 b.2 c.in-Best.point c.in_ok-point-in-Best.point
    best.feasible basic.1 (omega (arith, ints, e, v))
    (rw c.deref.ensures.value at c.in_ok-point-in-Best.ensures.values)
    c.in_ok-point-in-Best.ensures.den

pub by_row-requires-clause-mult : goal.by_row-requires-clause-mult
by_row-requires-clause-mult c =
    let a = c.requires.question in
    let b = c.requires.basic in
    let best = rw c.in-Best.is at c.requires.answer in
    let basic = rw c.in-Best.is at b.3 in
    rw c.deref-in-Best-2.ensures.value (mult_listed a.0 a.1 a.2 c.args.q.now a.3
    c.in-Best.mult.items
    c.in-Best.extra.items best.listed (best_columns a.0 a.1 a.2 c.args.q.now a.3 b.0 b.1 b.2
    c.in-Best.point c.in-Best.scale c.in-Best.value c.in-Best.mult.items c.in-Best.extra.items best
    basic.0 basic.1 basic.4))

pub by_row-requires-clause-extra : goal.by_row-requires-clause-extra
by_row-requires-clause-extra c =
    let a = c.requires.question in
    let b = c.requires.basic in
    let best = rw c.in-Best.is at c.requires.answer in
    let basic = rw c.in-Best.is at b.3 in
    rw (c.deref-in-Best.ensures.value, c.deref-in-Best-3.ensures.value)
    (extra_listed a.0 a.1 a.2 c.args.q.now a.3 c.in-Best.mult.items c.in-Best.extra.items
    best.listed
    (best_columns a.0 a.1 a.2 c.args.q.now a.3 b.0 b.1 b.2 c.in-Best.point c.in-Best.scale
    c.in-Best.value c.in-Best.mult.items c.in-Best.extra.items best basic.0 basic.1 basic.4))

pub by_row-requires-clause-few : goal.by_row-requires-clause-few
by_row-requires-clause-few c =
    let a = c.requires.question in
    let b = c.requires.basic in
    let best = rw c.in-Best.is at c.requires.answer in
    let basic = rw c.in-Best.is at b.3 in
    rw c.deref-in-Best.ensures.value (signs_few a.0 a.1 a.2 c.args.q.now a.3 c.in-Best.mult.items
    c.in-Best.extra.items best.listed (best_columns a.0 a.1 a.2 c.args.q.now a.3 b.0 b.1 b.2
    c.in-Best.point c.in-Best.scale c.in-Best.value c.in-Best.mult.items c.in-Best.extra.items best
    basic.0 basic.1 basic.4))

pub by_row-requires-clause-rows : goal.by_row-requires-clause-rows
by_row-requires-clause-rows c =
    let a = c.requires.question in
    let b = c.requires.basic in
    let best = rw c.in-Best.is at c.requires.answer in
    let basic = rw c.in-Best.is at b.3 in
    rw (
      c.deref-in-Best.ensures.value,
      c.deref-in-Best-2.ensures.value,
      c.deref-in-Best-3.ensures.value,
    )
    (signs_are a.0 a.1 a.2 c.args.q.now a.3 c.in-Best.mult.items c.in-Best.extra.items best.listed
    (best_columns a.0 a.1 a.2 c.args.q.now a.3 b.0 b.1 b.2 c.in-Best.point c.in-Best.scale
    c.in-Best.value c.in-Best.mult.items c.in-Best.extra.items best basic.0 basic.1 basic.4))

pub by_row-requires-in-Empty-clause-mult : goal.by_row-requires-in-Empty-clause-mult
by_row-requires-in-Empty-clause-mult c =
    let a = c.requires.question in
    let b = c.requires.basic in
    let empty = rw c.in-Empty.is at c.requires.answer in
    let basic = rw c.in-Empty.is at b.3 in
    rw c.deref-in-Empty-2.ensures.value (mult_listed a.0 a.1 a.2 c.args.q.now a.3
    c.in-Empty.mult.items
    c.in-Empty.extra.items empty.listed (empty_columns a.0 a.1 a.2 c.args.q.now a.3 b.0 b.1 b.2
    c.in-Empty.mult.items c.in-Empty.extra.items empty basic.0 basic.1 basic.2))

pub by_row-requires-in-Empty-clause-extra : goal.by_row-requires-in-Empty-clause-extra
by_row-requires-in-Empty-clause-extra c =
    let a = c.requires.question in
    let b = c.requires.basic in
    let empty = rw c.in-Empty.is at c.requires.answer in
    let basic = rw c.in-Empty.is at b.3 in
    rw (c.deref-in-Empty.ensures.value, c.deref-in-Empty-3.ensures.value)
    (extra_listed a.0 a.1 a.2 c.args.q.now a.3 c.in-Empty.mult.items c.in-Empty.extra.items
    empty.listed
    (empty_columns a.0 a.1 a.2 c.args.q.now a.3 b.0 b.1 b.2 c.in-Empty.mult.items
    c.in-Empty.extra.items empty basic.0 basic.1 basic.2))

pub by_row-requires-in-Empty-clause-few : goal.by_row-requires-in-Empty-clause-few
by_row-requires-in-Empty-clause-few c =
    let a = c.requires.question in
    let b = c.requires.basic in
    let empty = rw c.in-Empty.is at c.requires.answer in
    let basic = rw c.in-Empty.is at b.3 in
    rw c.deref-in-Empty.ensures.value (signs_few a.0 a.1 a.2 c.args.q.now a.3 c.in-Empty.mult.items
    c.in-Empty.extra.items empty.listed (empty_columns a.0 a.1 a.2 c.args.q.now a.3 b.0 b.1 b.2
    c.in-Empty.mult.items c.in-Empty.extra.items empty basic.0 basic.1 basic.2))

pub by_row-requires-in-Empty-clause-rows : goal.by_row-requires-in-Empty-clause-rows
by_row-requires-in-Empty-clause-rows c =
    let a = c.requires.question in
    let b = c.requires.basic in
    let empty = rw c.in-Empty.is at c.requires.answer in
    let basic = rw c.in-Empty.is at b.3 in
    rw (
      c.deref-in-Empty.ensures.value,
      c.deref-in-Empty-2.ensures.value,
      c.deref-in-Empty-3.ensures.value,
    )
    (signs_are a.0 a.1 a.2 c.args.q.now a.3 c.in-Empty.mult.items c.in-Empty.extra.items
    empty.listed
    (empty_columns a.0 a.1 a.2 c.args.q.now a.3 b.0 b.1 b.2 c.in-Empty.mult.items
    c.in-Empty.extra.items empty basic.0 basic.1 basic.2))

pub unreachable-requires : goal.unreachable-requires
unreachable-requires c =
    let a = c.requires.question in
    let endless = rw c.in-Unbounded.is at c.requires.answer in
    never_unbounded (is_free a.0 a.1) (length (columns a.0 a.1)) (system_rows a.0 a.1 a.2)
    c.args.q.now.lp a.3.asks c.in-Unbounded.point c.in-Unbounded.ray.items endless

pub returns-in_ok-mult-in-Best : goal.returns-in_ok-mult-in-Best
returns-in_ok-mult-in-Best c game leaves path is =
    let b = c.requires.basic in
    let best = rw c.in-Best.is at c.requires.answer in
    let basic = rw c.in-Best.is at b.3 in
    let f : FitsSigned w128 c.num.result = search rules in
    let e : int_lt (pos 0) c.num.result ≡ false = simp to_z-of_z at c.if-num-gt0.false in
    let v = c.num.ensures.value in
    let sums = rw (
      c.deref-in-Best.ensures.value,
      c.deref-in-Best-2.ensures.value,
      c.deref-in-Best-3.ensures.value,
    ) at c.in_ok-mult-in-Best.ensures.sums in
    best_reply game leaves path c.args.q.now is b.0 b.1 b.2 c.in-Best.point c.in-Best.scale
    c.in-Best.value c.in-Best.mult.items c.in-Best.extra.items best basic.0 basic.1 basic.4
    (omega (arith, ints, e, v)) c.in_ok-mult-in-Best.mult.items c.in_ok-mult-in-Best.ensures.form
    sums

pub returns-in_ok-mult-in-Empty : goal.returns-in_ok-mult-in-Empty
returns-in_ok-mult-in-Empty c game leaves path is =
    let b = c.requires.basic in
    let empty = rw c.in-Empty.is at c.requires.answer in
    let basic = rw c.in-Empty.is at b.3 in
    let sums = rw (
      c.deref-in-Empty.ensures.value,
      c.deref-in-Empty-2.ensures.value,
      c.deref-in-Empty-3.ensures.value,
    ) at c.in_ok-mult-in-Empty.ensures.sums in
    empty_reply game leaves path c.args.q.now is b.0 b.1 b.2 c.in-Empty.mult.items
    c.in-Empty.extra.items empty basic.0 basic.1 basic.2 c.in_ok-mult-in-Empty.mult.items
    c.in_ok-mult-in-Empty.ensures.form sums
