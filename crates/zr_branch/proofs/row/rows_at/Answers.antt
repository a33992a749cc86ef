use Rattle.std.proofs.Common.{rules, ◌≡◌, ◌<◌, ◌≤◌, arith, sym, ap, ◌∙◌, ℕ, Vec, List, [], ◌∷◌, ◌++◌, map, length, take, ◌+◌, Option}
use Rattle.std.specs.declared.alloc.Global.{Global}
use Rattle.std.proofs.lemmas.List.{length-map, map-append, take_all}
use Rattle.std.proofs.lemmas.List.Elements.{All-push}
use Rattle.zr_lin.specs.declared.system.Ineq.{Ineq}
use Rattle.zr_game.specs.Players.{player_of}
use Rattle.zr_game.specs.Leaves.{Bound, leaf_of, slots}
use Rattle.zr_tree.specs.SlotRows.{slot_bound}
use Rattle.zr_asked.specs.Branches.{present}
use Rattle.zr_asked.specs.Drawn.{places_from}
use Rattle.zr_branch.specs.Columns.{IsWeakRow, by_columns, part_of, row_bound}
use Rattle.zr_branch.proofs.PartLaws.{rows_more}
use Rattle.zr_branch.proofs.Present.{present_none, present_some, slots_length}
use Rattle.zr_branch.proofs.row.rows_at.Goals as goal
use Rattle.zr_branch.proofs.row.rows_at.Goals.{in-Some+in_ok-ineq_of+in_ok-push+in_ok-push-2, in_default}

pub overflow_cast-slot : goal.overflow_cast-slot
overflow_cast-slot c =
    let player = player_of c.args.player.now in
    let leaf = leaf_of c.args.leaf.now in
    let few = c.requires.forms.few in
    omega (arith, c.loop-slot-test.true, c.slot_count-slot-end.ensures leaf, few, slots_length player leaf)

pub loop-slot-preserved : goal.loop-slot-preserved
loop-slot-preserved c =
    let player = player_of c.args.player.now in
    let leaf = leaf_of c.args.leaf.now in
    let S = slots player leaf in
    let parts = map part_of c.args.parts.now in
    let inv = c.loop-slot.invariant in
    let i = c.loop-slot.slot in
    let below : i < length S = omega (arith, c.loop-slot-test.true, c.slot_count-slot-end.ensures leaf) in
    elim c.match-slot_row.branch [
      | in-Some+in_ok-ineq_of+in_ok-push+in_ok-push-2 w ↦
          let row = slot_bound w.in-Some.row in
          let q = w.in_ok-ineq_of.field-0 in
          let m = present_some S i row below (sym w.in-Some.ensures.row) in
          let items : c.match-slot_row.rows.items ≡ c.loop-slot.rows.items ++ q ∷ [] =
          ap (λ (v : Vec Ineq Global). v.items) w.rows-is ∙ w.in_ok-push.ensures.items in
          record {
            rows = ap (map row_bound) items ∙
                rows_more parts (present (take i S)) (present (take (i + 1) S)) row
                c.loop-slot.rows.items q w.in_ok-ineq_of.ensures.bound m.0 inv.rows;
            weak = rw items (All-push (IsWeakRow (length c.args.parts.now)) c.loop-slot.rows.items q
                inv.weak w.in_ok-ineq_of.ensures.weak);
            places = ap (λ (v : Vec ℕ Global). v.items) w.places-is ∙ w.in_ok-push-2.ensures.items ∙
                ap (λ (ks : List ℕ). ks ++ i ∷ []) inv.places ∙ sym m.1;
          }
      | in_default w ↦
          let m = present_none S i below (sym w.in_default.ensures.row) in
          rw (w.rows-is, w.places-is) (record {
            rows = inv.rows ∙ sym (ap (map (by_columns parts)) m.0);
            weak = inv.weak;
            places = inv.places ∙ sym m.1;
          })
    ]

pub returns-clause-rows : goal.returns-clause-rows
returns-clause-rows c =
    let leaf = leaf_of c.args.leaf.now in
    let S = slots (player_of c.args.player.now) leaf in
    let end : length S ≤ c.loop-slot.slot = omega (arith, c.loop-slot-test.false, c.slot_count-slot-end.ensures leaf) in
    c.loop-slot.invariant.rows ∙
    ap (λ (xs : List (Option Bound)). map (by_columns (map part_of c.args.parts.now)) (present xs))
    (take_all c.loop-slot.slot S end)

pub returns-clause-places : goal.returns-clause-places
returns-clause-places c =
    let leaf = leaf_of c.args.leaf.now in
    let S = slots (player_of c.args.player.now) leaf in
    let end : length S ≤ c.loop-slot.slot = omega (arith, c.loop-slot-test.false, c.slot_count-slot-end.ensures leaf) in
    c.loop-slot.invariant.places ∙ ap (places_from 0) (take_all c.loop-slot.slot S end)
