use Rattle.std.proofs.Common.{rules, ◌≡◌, ◌+◌, ℕ, pos, arith, ap, ◌∙◌, List, length, get_or, FitsSigned}
use Rattle.std.specs.Int.{w128}
use Rattle.std.proofs.lemmas.Int.{to_z-of_z}
use Rattle.zr_base.specs.Steps.{IsNarrow}
use Rattle.zr_base.proofs.TermLaws.{entry_from}
use Rattle.zr_choices.specs.Parted.{place}
use Rattle.zr_choices.specs.Programs.{free_in}
use Rattle.zr_choices.proofs.Places.{place_small}
use Rattle.zr_choices.proofs.Placing.{firsts_at, firsts_length, parts_more}
use Rattle.zr_choices.proofs.row.parted_terms.Goals as goal

pub bounds-order-j : goal.bounds-order-j
bounds-order-j c =
    (entry_from 0 (length c.args.order.now) c.args.coef.now c.loop-column.column-index
    (0, pos 0) c.requires.coef c.loop-column-test.true).1

pub bounds-places-j : goal.bounds-places-j
bounds-places-j c =
    let b = (entry_from 0 (length c.args.order.now) c.args.coef.now c.loop-column.column-index
    (0, pos 0) c.requires.coef c.loop-column-test.true).1 in
    let l = ap (λ (xs : List ℕ). length xs) c.requires.places
    ∙ firsts_length (length c.args.order.now + 1) (place (free_in c.args.order.now)) in
    omega (arith, b, l)

pub push_part-requires-clause-narrow : goal.push_part-requires-clause-narrow
push_part-requires-clause-narrow c =
    let n : IsNarrow (get_or c.args.coef.now c.loop-column.column-index
    (0, pos 0)).1 = (entry_from 0 (length c.args.order.now) c.args.coef.now
    c.loop-column.column-index (0, pos 0) c.requires.coef c.loop-column-test.true).2 in
    let f : FitsSigned w128 (get_or c.args.coef.now c.loop-column.column-index
    (0, pos 0)).1 = search rules in
    simp to_z-of_z n

pub push_part-requires-clause-few : goal.push_part-requires-clause-few
push_part-requires-clause-few c =
    let j = (get_or c.args.coef.now c.loop-column.column-index (0, pos 0)).0 in
    let free = free_in c.args.order.now in
    let b = (entry_from 0 (length c.args.order.now) c.args.coef.now c.loop-column.column-index
    (0, pos 0) c.requires.coef c.loop-column-test.true).1 in
    let at : get_or c.args.places.now j 0 ≡ place free j = ap (λ (xs : List ℕ). get_or xs j 0)
    c.requires.places ∙ firsts_at (length c.args.order.now + 1) j (place free)
    (omega (arith, b)) in
    let s = place_small free j in
    omega (arith, at, s, b, c.requires.few)

pub loop-column-preserved : goal.loop-column-preserved
loop-column-preserved c =
    let k = c.loop-column.column-index in
    let t = get_or c.args.coef.now k (0, pos 0) in
    let free = free_in c.args.order.now in
    let b = (entry_from 0 (length c.args.order.now) c.args.coef.now k (0, pos 0) c.requires.coef
    c.loop-column-test.true).1 in
    let at : get_or c.args.places.now t.0 0 ≡ place free t.0 = ap
    (λ (xs : List ℕ). get_or xs t.0 0) c.requires.places
    ∙ firsts_at (length c.args.order.now + 1) t.0 (place free) (omega (arith, b)) in
    let f : FitsSigned w128 t.1 = search rules in
    let made = simp to_z-of_z at c.in_ok-push_part.ensures in
    parts_more free c.args.coef.now k (0, pos 0) c.loop-column.list.items
    c.push_part.new.list.items c.loop-column-test.true c.loop-column.invariant
    (rw (c.may_be_negative.ensures, at) at made)
