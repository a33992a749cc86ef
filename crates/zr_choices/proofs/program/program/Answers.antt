use Rattle.std.proofs.Common.{◌≡◌, ◌+◌, ℕ, arith, ap, sym, subst, ◌∙◌, List, All, length, map, get_or, false}
use Rattle.zr_lin.specs.Ineqs.{IneqOf, IsIneq, ineq_of}
use Rattle.zr_base.proofs.SumSteps.{get_or_default}
use Rattle.zr_system.specs.Asked.{firsts}
use Rattle.zr_choices.specs.Parted.{place}
use Rattle.zr_choices.specs.Programs.{free_in}
use Rattle.zr_choices.proofs.Places.{place_small}
use Rattle.zr_choices.proofs.Placing.{firsts_at, firsts_length}
use Rattle.zr_choices.proofs.Forms.{rows_form, rows_weak}
use Rattle.zr_choices.proofs.program.program.Goals as goal

-- the last column
last_is : (xs : List ℕ) (n z : ℕ) (free : ℕ → _) → xs ≡ firsts (n + 1) (place free) → z
    ≡ get_or xs n z → z ≡ place free n
last_is xs n z free e is =
    let l = ap (λ (ys : List ℕ). length ys) e ∙ firsts_length (n + 1) (place free) in
    is ∙ get_or_default xs n z 0 (omega (arith, l)) ∙ ap (λ (ys : List ℕ). get_or ys n 0) e
    ∙ firsts_at (n + 1) n (place free) (omega arith)

pub index-last-requires : goal.index-last-requires
index-last-requires c =
    let l = ap (λ (xs : List ℕ). length xs) c.in_ok-places.ensures
    ∙ firsts_length (length c.args.order.now + 1) (place (free_in c.args.order.now)) in
    omega (arith, l, c.in_ok-places.places.ok.0)

pub asked_rows-requires-clause-last : goal.asked_rows-requires-clause-last
asked_rows-requires-clause-last c =
    last_is c.in_ok-places.places.items (length c.args.order.now) c.index-last.result.now
    (free_in c.args.order.now) c.in_ok-places.ensures c.index-last.ensures

pub aim-requires : goal.aim-requires
aim-requires c =
    let e : c.index-last.result.now ≡ place (free_in c.args.order.now)
    (length c.args.order.now) = last_is c.in_ok-places.places.items (length c.args.order.now)
    c.index-last.result.now (free_in c.args.order.now) c.in_ok-places.ensures
    c.index-last.ensures in
    let s = place_small (free_in c.args.order.now) (length c.args.order.now) in
    omega (arith, e, s, c.requires.few)

pub overflow_add-result : goal.overflow_add-result
overflow_add-result c =
    let e : c.index-last.result.now ≡ place (free_in c.args.order.now)
    (length c.args.order.now) = last_is c.in_ok-places.places.items (length c.args.order.now)
    c.index-last.result.now (free_in c.args.order.now) c.in_ok-places.ensures
    c.index-last.ensures in
    let s = place_small (free_in c.args.order.now) (length c.args.order.now) in
    omega (arith, e, s, c.requires.few)

pub returns-clause-asks : goal.returns-clause-asks
returns-clause-asks c =
    let e : c.index-last.result.now ≡ place (free_in c.args.order.now)
    (length c.args.order.now) = last_is c.in_ok-places.places.items (length c.args.order.now)
    c.index-last.result.now (free_in c.args.order.now) c.in_ok-places.ensures
    c.index-last.ensures in
    record {
      width = ap (λ (m : ℕ). m + 1) e;
      parts = c.in_ok-rows.ensures;
      aim = λ j h. c.in_ok-aim.ensures.others j (omega (arith, e, h));
      last = rw e at c.in_ok-aim.ensures.last;
    }

pub returns-clause-lp : goal.returns-clause-lp
returns-clause-lp c =
    let free = free_in c.args.order.now in
    let n = length c.args.order.now in
    let e : c.index-last.result.now ≡ place free n = last_is c.in_ok-places.places.items
    (length c.args.order.now) c.index-last.result.now (free_in c.args.order.now)
    c.in_ok-places.ensures c.index-last.ensures in
    let s = place_small free n in
    let form = subst (λ (rs : List IneqOf). All (IsIneq (place free n + 1)) rs)
    (sym c.in_ok-rows.ensures) (rows_form free n (map ineq_of c.args.rows.now) c.requires.rows) in
    record {
      rows = subst (λ (m : ℕ). All (IsIneq (m + 1)) (map ineq_of c.in_ok-rows.rows.items))
          (sym e) form;
      weak = subst (λ (rs : List IneqOf). All (λ (row : IneqOf). row.strict ≡ false) rs)
          (sym c.in_ok-rows.ensures) (rows_weak free n (map ineq_of c.args.rows.now));
      aim = c.in_ok-aim.ensures.len;
      narrow = c.in_ok-aim.ensures.narrow;
      size = omega (
        arith,
        e,
        s,
        c.requires.few,
        c.if-len-ge-ROWS.false,
        c.len.ensures,
        c.in_ok-rows.rows.ok.0,
      );
    }
