-- The row that the code reads for a slot.
use Rattle.std.proofs.Common.{◌≡◌, ◌↔◌, ℕ, ◌+◌, ◌-◌, ◌/◌, ◌%◌, ◌<◌, ◌≤◌, ◌==◌, arith, refl, sym, ap, ap₂, ◌∙◌, subst, ℤ, Bool, cond, option_map, Option, Some, None, length, get_or, IsTrue, IsSome}
use Rattle.std.specs.Option.{is_some}
use Rattle.std.proofs.lemmas.List.{length-map}
use Rattle.zr_base.specs.declared.row.Row.{Row}
use Rattle.zr_base.specs.Rows.{row_of}
use Rattle.zr_base.specs.Terms.{Terms, coef_at}
use Rattle.zr_game.specs.declared.leaf.Side.{Side}
use Rattle.zr_game.specs.declared.player.Pair.{Pair}
use Rattle.zr_game.specs.declared.player.Player.{Player}
use Rattle.zr_game.specs.Forms.{AreTerms, IsPairForm, IsRowForm}
use Rattle.zr_game.specs.Players.{pair_of, player_of, var_of}
use Rattle.zr_game.specs.Leaves.{Bound, LeafOf, high_slot, low_slot, pair_slot, row_slot, side_slot, slot_of, slots}
use Rattle.zr_game.proofs.Items.{found, item}
use Rattle.zr_system.specs.declared.slot.SlotRow.{SlotRow}
use Rattle.zr_system.specs.SlotRows.{HasForms, slot_bound}
use Rattle.zr_system.proofs.SlotPlaces.{at_none, at_pair, at_row, at_var, halves, second_of}

-- the row with these terms
abbrev pub terms_slot : Terms → ℤ → Option Bound
terms_slot ts le = Some (record { coef = coef_at ts; le = le })

module _ (player : Player) (leaf : LeafOf) where
  pub row_read : (slot : ℕ) (row : Row) → slot < length player.rows.items
      → row ≡ get_or player.rows.items slot row
      → row_slot (row_of row) ≡ slot_of (slots (player_of player) leaf) slot
  row_read slot row below is =
      sym (at_row (player_of player) leaf slot (row_of row)
      (found row_of player.rows.items slot row below is))

  pub row_form : (slot : ℕ) (row : Row) → HasForms (player_of player)
      → slot < length player.rows.items → row ≡ get_or player.rows.items slot row
      → AreTerms (length (player_of player).vars) row.coef.items
  row_form slot row forms below is =
      (item row_of (IsRowForm (length (player_of player).vars)) player.rows.items slot row
      forms.rows below is).coef

  pub pair_form : (p : ℕ) (pair : Pair) → HasForms (player_of player)
      → p < length player.pairs.items → pair ≡ get_or player.pairs.items p pair
      → IsPairForm (length (player_of player).vars) (pair_of pair)
  pair_form p pair forms below is =
      item pair_of (IsPairForm (length (player_of player).vars)) player.pairs.items p pair
      forms.pairs below is

  module _ (slot n m : ℕ) (rows_are : n ≡ length player.rows.items)
      (vars_are : m ≡ length player.vars.items) (past : n ≤ slot) where
    abbrev place : ℕ
    place = slot - n

    rows_before : (q : ℕ) → place ≡ q → slot ≡ length (player_of player).rows + q
    rows_before q e = omega (arith, length-map player.rows.items row_of, past, e, rows_are)

    pub var_read : (low high : Option ℤ) → low ≡ leaf.low (place / 2)
        → high ≡ leaf.high (place / 2) → place / 2 < m
        → cond (place % 2 == 1) (high_slot (place / 2) high) (low_slot (place / 2) low) ≡ slot_of
        (slots (player_of player) leaf) slot
    var_read low high l k h =
        ap₂ (λ (a b : Option ℤ). cond (place % 2 == 1) (high_slot (place / 2) a)
        (low_slot (place / 2) b)) k l ∙ sym (at_var (player_of player) leaf slot (place / 2)
        (place % 2 == 1) (rows_before (place / 2 + place / 2 + second_of (place % 2 == 1))
        (halves place)) (omega (arith, h, vars_are, length-map player.vars.items var_of)))

    abbrev pair : ℕ
    pair = place / 2 - m

    vars_before : m ≤ place / 2 → slot ≡ length (player_of player).rows +
        (length (player_of player).vars + pair + (length (player_of player).vars + pair) +
        second_of (place % 2 == 1))
    vars_before h =
        rows_before (length (player_of player).vars + pair +
        (length (player_of player).vars + pair) + second_of (place % 2 == 1))
        (halves place ∙ omega (arith, h, vars_are, length-map player.vars.items var_of))

    pub pair_read : (x : Pair) (side : Side) → side ≡ leaf.side pair → m ≤ place / 2
        → pair < length player.pairs.items → x ≡ get_or player.pairs.items pair x
        → cond (place % 2 == 1) (side_slot (pair_of x) side) (pair_slot (pair_of x)) ≡ slot_of
        (slots (player_of player) leaf) slot
    pair_read x side s h below is =
        ap (λ (a : Side). cond (place % 2 == 1) (side_slot (pair_of x) a) (pair_slot (pair_of x)))
        s ∙ sym (at_pair (player_of player) leaf slot pair (place % 2 == 1) (pair_of x)
        (vars_before h) (found pair_of player.pairs.items pair x below is))

    pub none_read : m ≤ place / 2 → length player.pairs.items ≤ pair
        → None ≡ slot_of (slots (player_of player) leaf) slot
    none_read h past =
        sym (at_none (player_of player) leaf slot pair (place % 2 == 1) (vars_before h)
        (omega (arith, past, length-map player.pairs.items pair_of)))

-- a slot is present where its row was read
pub told_present : (read : Option SlotRow) (slot : Option Bound) (b : Bool)
    → option_map slot_bound read ≡ slot → b ≡ is_some read → IsTrue b ↔ IsSome slot
told_present read slot b e t = subst (λ (o : Option Bound). IsTrue b ↔ IsSome o) e
    (subst (λ (c : Bool). IsTrue c ↔ IsSome (option_map slot_bound read)) (sym t) (each read))
  where
    each : (read : Option SlotRow) → IsTrue (is_some read) ↔ IsSome (option_map slot_bound read)
    each None = (λ h. absurd cc, λ h. absurd cc)
    each (Some row) = (λ h. refl, λ h. refl)
