use Rattle.std.proofs.Common.{rules, arith, ◌-◌, ◌/◌, ◌<◌, ◌≤◌, sym, ap₂, subst, ◌∙◌, None, length, FitsSigned}
use Rattle.std.specs.Int.{w64, w128}
use Rattle.std.proofs.lemmas.Int.{to_z-of_z}
use Rattle.std.proofs.lemmas.List.{length-map}
use Rattle.zr_base.proofs.SumSteps.{get_or_default}
use Rattle.zr_game.specs.declared.leaf.Side.TheVariants.{Undecided}
use Rattle.zr_game.specs.Players.{pair_of, player_of, var_of}
use Rattle.zr_game.specs.Forms.{AreTerms}
use Rattle.zr_game.specs.Leaves.{leaf_of}
use Rattle.zr_system.proofs.SlotReads.{none_read, pair_form, pair_read, row_form, row_read, terms_slot, var_read}
use Rattle.zr_system.proofs.slot.slot_row.Goals as goal

pub returns-then-slot-len-clause-row : goal.returns-then-slot-len-clause-row
returns-then-slot-len-clause-row c =
    let below : c.args.slot < length c.args.player.now.rows.items = omega
    (arith, c.if-slot-len.true, c.len.ensures, c.args.player.now.rows.ok.0) in
    let f : FitsSigned w128 c.from.result = search rules in
    let g : FitsSigned w64 c.index-row.result.now.le = search rules in
    let le = simp to_z-of_z at c.from.ensures in
    simp to_z-of_z (ap₂ terms_slot c.as_slice.ensures le
    ∙ row_read c.args.player.now (leaf_of c.args.leaf.now) c.args.slot c.index-row.result.now
    below c.index-row.ensures)

pub returns-then-slot-len-clause-form : goal.returns-then-slot-len-clause-form
returns-then-slot-len-clause-form c =
    let below : c.args.slot < length c.args.player.now.rows.items = omega
    (arith, c.if-slot-len.true, c.len.ensures, c.args.player.now.rows.ok.0) in
    subst (AreTerms (length (player_of c.args.player.now).vars)) (sym c.as_slice.ensures)
    (row_form c.args.player.now (leaf_of c.args.leaf.now) c.args.slot c.index-row.result.now
    c.requires.forms below c.index-row.ensures)

pub returns-then-v-len-clause-row : goal.returns-then-v-len-clause-row
returns-then-v-len-clause-row c =
    let rows = c.len-2.ensures ∙ c.args.player.now.rows.ok.0 in
    let vars = c.len-3.ensures ∙ c.args.player.now.vars.ok.0 in
    let past : c.len-2.result ≤ c.args.slot = omega
    (arith, c.if-slot-len.false, c.len.ensures, c.len-2.ensures) in
    let v = (c.args.slot - c.len-2.result) / 2 in
    let columns = length-map c.args.player.now.vars.items var_of in
    let low = c.index.ensures ∙ get_or_default c.args.leaf.now.low.items v c.index.result.now None
    (omega (arith, c.if-v-len.true, vars, columns, c.requires.places.lows)) in
    let high = c.index-then-v-len.ensures ∙ get_or_default c.args.leaf.now.high.items v
    c.index-then-v-len.result.now None (omega
    (arith, c.if-v-len.true, vars, columns, c.requires.places.highs)) in
    c.var_row.ensures.row ∙ var_read c.args.player.now (leaf_of c.args.leaf.now) c.args.slot
    c.len-2.result c.len-3.result rows vars past c.index.result.now
    c.index-then-v-len.result.now low high c.if-v-len.true

pub returns-then-p-len-clause-row : goal.returns-then-p-len-clause-row
returns-then-p-len-clause-row c =
    let rows = c.len-2.ensures ∙ c.args.player.now.rows.ok.0 in
    let vars = c.len-4.ensures ∙ c.args.player.now.vars.ok.0 in
    let past : c.len-2.result ≤ c.args.slot = omega
    (arith, c.if-slot-len.false, c.len.ensures, c.len-2.ensures) in
    let p = (c.args.slot - c.len-2.result) / 2 - c.len-4.result in
    let below : p < length c.args.player.now.pairs.items = omega
    (arith, c.if-p-len.true, c.len-5.ensures, c.args.player.now.pairs.ok.0) in
    let pairs = length-map c.args.player.now.pairs.items pair_of in
    let side = c.index-then-p-len-2.ensures ∙ get_or_default c.args.leaf.now.sides.items p
    c.index-then-p-len-2.result.now Undecided
    (omega (arith, below, pairs, c.requires.places.sides)) in
    c.pair_row.ensures.row ∙ pair_read c.args.player.now (leaf_of c.args.leaf.now) c.args.slot
    c.len-2.result c.len-4.result rows vars past c.index-then-p-len.result.now
    c.index-then-p-len-2.result.now side (omega
    (arith, c.if-v-len.false, c.len-3.ensures, c.len-4.ensures)) below
    c.index-then-p-len.ensures

pub returns-then-p-len-clause-form : goal.returns-then-p-len-clause-form
returns-then-p-len-clause-form c =
    let p = (c.args.slot - c.len-2.result) / 2 - c.len-4.result in
    let below : p < length c.args.player.now.pairs.items = omega
    (arith, c.if-p-len.true, c.len-5.ensures, c.args.player.now.pairs.ok.0) in
    c.pair_row.ensures.form (length (player_of c.args.player.now).vars)
    (pair_form c.args.player.now (leaf_of c.args.leaf.now) p c.index-then-p-len.result.now
    c.requires.forms below c.index-then-p-len.ensures)

pub returns-clause-row : goal.returns-clause-row
returns-clause-row c =
    let rows = c.len-2.ensures ∙ c.args.player.now.rows.ok.0 in
    let vars = c.len-4.ensures ∙ c.args.player.now.vars.ok.0 in
    let past : c.len-2.result ≤ c.args.slot = omega
    (arith, c.if-slot-len.false, c.len.ensures, c.len-2.ensures) in
    none_read c.args.player.now (leaf_of c.args.leaf.now) c.args.slot c.len-2.result c.len-4.result
    rows vars past (omega (arith, c.if-v-len.false, c.len-3.ensures, c.len-4.ensures))
    (omega (arith, c.if-p-len.false, c.len-5.ensures, c.args.player.now.pairs.ok.0))
