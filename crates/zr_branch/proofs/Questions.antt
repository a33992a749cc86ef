-- From a branch's question to the leaf's slots.
use Rattle.std.proofs.Common.{◌≡◌, ◌≢◌, ℕ, zero, suc, ◌+◌, ◌<◌, ◌≤◌, ◌==◌, arith, refl, sym, ap, ap₂, subst, ◌∙◌, ℤ, pos, negsuc, neg_ℤ, ◌+ℤ◌, ◌-ℤ◌, ◌*ℤ◌, ◌≤ℤ◌, Bool, true, false, IsTrue, Option, Some, List, [], ◌∷◌, map, length, get_or, slice_get, slice_index, ◌⊎◌, inl, inr, ⊎_elim, option_and_then}
use Rattle.std.specs.Option.{is_some, option_map_or}
use Rattle.std.proofs.lemmas.Int.{ints}
use Rattle.std.proofs.lemmas.Bool.{cases_eq}
use Rattle.std.proofs.lemmas.Bool.Decides.{nat_tests}
use Rattle.std.proofs.lemmas.List.{length-map, get_or-map}
use Rattle.std.proofs.lemmas.Option.{slice_get_within}
use Rattle.std.proofs.Math.IntN.{*ℤ_comm}
use Rattle.zr_base.specs.Terms.{Terms, coef_at, value_at}
use Rattle.zr_base.proofs.Ring.{neg-mul_left, neg-mul_right}
use Rattle.zr_game.specs.Players.{PlayerOf, VarOf}
use Rattle.zr_game.specs.Leaves.{Bound, LeafOf, at_column, slot_of, slots}
use Rattle.zr_game.specs.Forms.{IsPlayerForm}
use Rattle.zr_lin.specs.declared.system.Ineq.{Ineq}
use Rattle.zr_lin.specs.Ineqs.{ineq_of, row_at}
use Rattle.zr_basis.specs.Programs.{Program}
use Rattle.zr_simplex.specs.Answers.{AreListed, IsLow, weighed}
use Rattle.zr_simplex.specs.Programs.{lp_rows, numbers, program_of}
use Rattle.zr_tree.specs.Right.{ArePresent, left_of, right_of, slot_coef, slot_le}
use Rattle.zr_tree.proofs.SlotPlaces.{at_var}
use Rattle.zr_asked.specs.Branches.{bound_at, branch_program, present}
use Rattle.zr_asked.specs.Parts.{Part as APart, by_part, is_from_zero, part_at, parts_of}
use Rattle.zr_asked.proofs.PresentRows.{low_up}
use Rattle.zr_branch.specs.declared.program.Question.{Question}
use Rattle.zr_branch.specs.Columns.{IsBranchQuestion, KeepsLows, by_columns, is_single, row_bound}
use Rattle.zr_branch.specs.Merged.{AllPass, AreAtLeastOne, AreNames}
use Rattle.zr_branch.specs.Programs.{IsFirstColumn, IsSpread, row_sum}
use Rattle.zr_branch.specs.Replies.{IsSomePlayer}
use Rattle.zr_branch.proofs.Listing.{below_or, both_ascend, minus_one, past_end, products_value, value_down, value_listed, value_same, value_times}
use Rattle.zr_branch.proofs.Merging.{zero_or}
use Rattle.zr_branch.proofs.PartLaws.{parts_few}
use Rattle.zr_branch.proofs.Present.{place_of, places-length, places_ascend, present_few, slots_length}
use Rattle.zr_branch.proofs.Singles.{ColumnIn, column_in, first_of, vars_rise}

-- a row as it is listed, and as it was made
rows_same : (rows : List Ineq) (r : ℕ)
    → ((row_at (map ineq_of rows) r).coef ≡ (bound_at (map row_bound rows) r).coef)
    × ((row_at (map ineq_of rows) r).le ≡ (bound_at (map row_bound rows) r).le)
rows_same [] r = (refl, refl)
rows_same (row ∷ rows) zero = (refl, refl)
rows_same (row ∷ rows) (suc r) = rows_same rows r

bound_columns : (parts : List APart) (rows : List Bound) (r c : ℕ)
    → (bound_at (map (by_columns parts) rows) r).coef c ≡ by_part parts (bound_at rows r).coef c
bound_columns parts [] r c = omega (arith, ints)
bound_columns parts (row ∷ rows) zero c = refl
bound_columns parts (row ∷ rows) (suc r) c = bound_columns parts rows r c

bound_right : (parts : List APart) (rows : List Bound) (r : ℕ)
    → (bound_at (map (by_columns parts) rows) r).le ≡ (bound_at rows r).le
bound_right parts [] r = refl
bound_right parts (row ∷ rows) zero = refl
bound_right parts (row ∷ rows) (suc r) = bound_right parts rows r

left_value : (rows : List (Option Bound)) (mult : Terms) (j : ℕ)
    → left_of rows mult j ≡ value_at mult (λ k. slot_coef rows k j)
left_value rows [] j = refl
left_value rows (t ∷ ts) j = ap (λ z. t.1 *ℤ slot_coef rows t.0 j +ℤ z) (left_value rows ts j)

right_value : (rows : List (Option Bound)) (mult : Terms)
    → right_of rows mult ≡ value_at mult (slot_le rows)
right_value rows [] = refl
right_value rows (t ∷ ts) = ap (λ z. t.1 *ℤ slot_le rows t.0 +ℤ z) (right_value rows ts)

present_if : (rows : List (Option Bound)) (mult : Terms)
    → AllPass (λ k. is_some (slot_of rows k)) mult → ArePresent rows mult
present_if rows [] all = tt
present_if rows (t ∷ ts) all = (all.0, present_if rows ts all.1)

pub same_test : (v j k c : ℕ) → (k ≡ c → v ≡ j) → (k ≢ c → v ≢ j)
    → at_column v (negsuc 0) j ≡ at_column k (negsuc 0) c
same_test v j k c same apart =
    ⊎_elim (λ (e : k ≡ c). let q = same e in
    let a : (v == j) ≡ true = grind (arith, nat_tests, q) in
    let b : (k == c) ≡ true = grind (arith, nat_tests, e) in rw (a, b) refl)
    (λ (n : k ≢ c). let q = apart n in
    let a : (v == j) ≡ false = grind (arith, nat_tests, q) in
    let b : (k == c) ≡ false = grind (arith, nat_tests, n) in rw (a, b) refl) (cases_eq k c)

-- the lower bound's slot of a column that is the only one of its variable
pub record LowAt (player : PlayerOf) (leaf : LeafOf) (c : ℕ) : Type 0 where
  pub var : ℕ
  pub below : var < length player.vars
  pub is_var : (part_at (parts_of player.vars) c).0 ≡ var
  pub sign : (part_at (parts_of player.vars) c).1 ≡ pos 1
  pub kept : ℤ
  pub up : (pos 0) ≤ℤ kept
  pub slot : slot_of (slots player leaf) (length player.rows + var + var)
      ≡ Some (record { coef = at_column var (negsuc 0); le = neg_ℤ kept })

module _ (player : PlayerOf) (leaf : LeafOf) where
  abbrev parts : List APart
  parts = parts_of player.vars

  pub low_at : (c : ℕ) → c < length parts → is_single player.vars c ≡ true → KeepsLows player leaf
      → LowAt player leaf c
  low_at c h single keeps =
      let k = column_in 0 player.vars c h in
      ⊎_elim (λ (s : (is_single player.vars c ≡ true) × (is_from_zero k.var.low ≡ true)
      × ((part_at parts c).1 ≡ pos 1)). here k s.1 s.2)
      (λ (s : (is_single player.vars c ≡ false) × (is_from_zero k.var.low ≡ false) × (d : ℕ)
      × (d < length parts) × ((part_at parts d).0 ≡ (part_at parts c).0)
      × ((part_at parts d).1 ≡ neg_ℤ (part_at parts c).1)). absurd (not_both (sym single ∙ s.0)))
      k.which
    where
      not_both : true ≡ false → ⊥
      not_both e = cc

      here : (k : ColumnIn parts (is_single player.vars) player.vars 0 c)
          → is_from_zero k.var.low ≡ true → (part_at parts c).1 ≡ pos 1 → LowAt player leaf c
      here k zero_up sign =
          let l = low_up k.var.low zero_up in
          let v = k.place in
          let below = slice_get_within player.vars v k.var k.found in
          let i = k.is_var in
          let low = keeps v l.0 (ap (option_and_then (λ (u : VarOf). u.low)) k.found ∙ l.1) l.2 in
          let at = at_var player leaf (length player.rows + v + v) v false (omega arith) below in
          record {
            var = v;
            below = below;
            is_var = omega (arith, i);
            sign = sign;
            kept = low.0;
            up = low.2;
            slot = rw low.1 at at;
          }

module _ (player : PlayerOf) (leaf : LeafOf) (aim : List ℤ) (q : Question)
    (b : IsBranchQuestion player leaf aim q) where
  abbrev S : List (Option Bound)
  S = slots player leaf

  abbrev columns : List APart
  columns = parts_of player.vars

  pub row_coef : (r c : ℕ)
      → (row_at (lp_rows q.lp) r).coef c ≡ by_part columns (bound_at (present S) r).coef c
  row_coef r c =
      ap (λ (f : ℕ → ℤ). f c) (rows_same q.lp.rows.items r).0 ∙
      ap (λ (rows : List Bound). (bound_at rows r).coef c) b.rows ∙
      bound_columns columns (present S) r c

  pub row_le : (r : ℕ) → (row_at (lp_rows q.lp) r).le ≡ (bound_at (present S) r).le
  row_le r =
      (rows_same q.lp.rows.items r).1 ∙ ap (λ (rows : List Bound). (bound_at rows r).le) b.rows ∙
      bound_right columns (present S) r

  pub row_count : length q.lp.rows.items ≡ length (present S)
  row_count =
      sym (length-map q.lp.rows.items row_bound) ∙ ap length b.rows ∙
      length-map (present S) (by_columns columns)

  pub place_count : length q.places.items ≡ length q.lp.rows.items
  place_count = ap length b.places_are ∙ places-length 0 S ∙ sym row_count

  pub low_count : length q.lows.items ≡ length columns
  low_count =
      ap length b.lows_are ∙
      length-map columns (λ (part : APart). length player.rows + part.0 + part.0)

  -- row r is the slot of its place
  pub placed : (r : ℕ) → r < length q.places.items
      → slot_of S (slice_index q.places.items r) ≡ Some (bound_at (present S) r)
  placed r h =
      let p = place_of 0 S r (let a = place_count in let c = row_count in omega (arith, h, a, c)) in
      let e : slice_index q.places.items r ≡ p.slot =
      ap (λ (ks : List ℕ). slice_index ks r) b.places_are ∙ p.place ∙ omega arith in
      rw e p.row

  pub low_name : (c : ℕ) → c < length columns → slice_index q.lows.items c
      ≡ length player.rows + (part_at columns c).0 + (part_at columns c).0
  low_name c h =
      ap (λ (ks : List ℕ). slice_index ks c) b.lows_are ∙
      get_or-map (λ (part : APart). length player.rows + part.0 + part.0) columns c (0, pos 0) 0 h

  -- the program is that of the branch
  pub program_same : program_of q.lp ≡ branch_program player leaf (numbers aim)
  program_same = λ i. record {
    columns = b.columns i;
    rows = row_count i;
    coef = λ r c. row_coef r c i;
    le = λ r. row_le r i;
    aim = λ c. b.aims c i;
  }

  -- the rows' sum at a column is that at its variable, with the column's sign
  pub weighed_at : (mult : Terms) (c : ℕ) → (weighed q.lp mult).coef c
      ≡ (part_at columns c).1 *ℤ row_sum player leaf mult (part_at columns c).0
  weighed_at mult c =
      products_value mult (λ r. (row_at (lp_rows q.lp) r).coef c) ∙
      by_rows mult ∙
      value_times (part_at columns c).1 mult
      (λ r. (bound_at (present S) r).coef (part_at columns c).0)
    where
      by_rows : (ts : Terms) → value_at ts (λ r. (row_at (lp_rows q.lp) r).coef c)
          ≡ value_at ts (λ r. (part_at columns c).1 *ℤ (bound_at (present S) r).coef (part_at columns c).0)
      by_rows ts = ap (value_at ts) (λ i r. row_coef r c i)

  module _ (some : (i : ℕ) × IsSomePlayer i player) where
    few_slots : length S ≤ 448
    few_slots =
        let f = some.1.1 in
        let l = slots_length player leaf in
        let v = f.var_count in
        let r = f.row_count in
        let p = f.pair_count in
        omega (arith, l, v, r, p)

    place_slot : (r : ℕ) → r < length q.places.items
        → (k : ℕ) × (k < length S) × (slice_index q.places.items r ≡ k)
    place_slot r h =
        let p = place_of 0 S r (let a = place_count in let c = row_count in omega (arith, h, a, c)) in
        (p.slot, p.below, ap (λ (ks : List ℕ). slice_index ks r) b.places_are ∙ p.place ∙ omega arith)

    pub place_names : (mult : Terms) → AreNames q.places.items mult
    place_names mult = record {
      fits = λ r h. (let p = place_slot r h in let f = few_slots in let l = p.1 in let e = p.2 in
          omega (arith, f, l, e));
      rises = λ r s h l m n. rw b.places_are (places_ascend 0 S r s h
          (let a = place_count in let c = row_count in omega (arith, l, a, c)));
    }

    pub names_few : length q.places.items + length q.lows.items ≤ 1024
    names_few =
        let a = place_count in
        let c = row_count in
        let f = few_slots in
        let p = present_few S in
        let l = low_count in
        let n = columns_few in
        omega (arith, a, c, f, p, l, n)
      where
        columns_few : length columns ≤ 128
        columns_few = let v = some.1.1.var_count in let w = parts_few 0 player.vars in omega (arith, v, w)

    module _ (keeps : KeepsLows player leaf) (mult extra : Terms)
        (listed : AreListed q.lp mult extra)
        (single : (c : ℕ) → c < q.lp.columns → coef_at extra c ≢ pos 0
        → is_single player.vars c ≡ true) where
      pub rows_listed : AreAtLeastOne (length q.places.items) mult
      rows_listed =
          rw place_count (both_ascend 0 (length q.lp.rows.items) mult listed.multipliers listed.narrow.0)

      pub columns_listed : AreAtLeastOne (length q.lows.items) extra
      columns_listed =
          let e : length q.lows.items ≡ q.lp.columns = low_count ∙ sym b.columns in
          rw e (both_ascend 0 q.lp.columns extra listed.extras listed.narrow.1)

      single_if : (c : ℕ) → c < length q.lows.items → coef_at extra c ≢ pos 0
          → (c < length columns) × (is_single player.vars c ≡ true)
      single_if c h n =
          let l = low_count in
          let k = b.columns in
          (omega (arith, h, l), single c (omega (arith, h, l, k)) n)

      pub low_names : AreNames q.lows.items extra
      low_names = record {
        fits = λ c h. (let l = low_count in
            let g : c < length columns = omega (arith, h, l) in
            let k = column_in 0 player.vars c g in
            let w = slice_get_within player.vars k.place k.var k.found in
            let i = k.is_var in
            let e = low_name c g in
            let v = some.1.1.var_count in
            let r = some.1.1.row_count in
            omega (arith, w, i, e, v, r));
        rises = λ c d h k m n. (let s = single_if d k n in
            let t = s.0 in
            let u = vars_rise 0 player.vars c d h t (inr s.1) in
            let e = low_name c (omega (arith, h, t)) in
            let f = low_name d t in
            omega (arith, u, e, f));
      }

      low_here : (c : ℕ) → c < length q.lows.items → coef_at extra c ≢ pos 0
          → LowAt player leaf c
      low_here c h n = let s = single_if c h n in low_at player leaf c s.0 s.1 keeps

      low_slot_is : (c : ℕ) (h : c < length q.lows.items) (n : coef_at extra c ≢ pos 0)
          → slot_of S (slice_index q.lows.items c)
          ≡ Some (record {
            coef = at_column (low_here c h n).var (negsuc 0);
            le = neg_ℤ (low_here c h n).kept;
          })
      low_slot_is c h n =
          let s = single_if c h n in
          let a = low_here c h n in
          let e : slice_index q.lows.items c ≡ length player.rows + a.var + a.var =
          low_name c s.0 ∙ ap (λ (v : ℕ). length player.rows + v + v) a.is_var in
          rw e a.slot

      pub names_pass_rows : (r : ℕ) → r < length q.places.items
          → IsTrue (is_some (slot_of S (slice_index q.places.items r)))
      names_pass_rows r h = rw (placed r h) refl

      pub names_pass_lows : (c : ℕ) → c < length q.lows.items → coef_at extra c ≢ pos 0
          → IsTrue (is_some (slot_of S (slice_index q.lows.items c)))
      names_pass_lows c h n = rw (low_slot_is c h n) refl

      -- apart from column c, no column has the variable of column c, which is single
      other_var : (c : ℕ) → c < length columns → is_single player.vars c ≡ true → (d : ℕ)
          → d < length columns → d ≢ c → (part_at columns d).0 ≢ (part_at columns c).0
      other_var c h s d k n e =
          ⊎_elim (λ (l : d < c). let r = vars_rise 0 player.vars d c l h (inr s) in omega (arith, r, e))
          (λ (l : c ≤ d). let r = vars_rise 0 player.vars c d (omega (arith, l, n)) k (inl s) in
          omega (arith, r, e)) (below_or d c)

      zero_times : (z : ℤ) → pos 0 *ℤ z ≡ pos 0
      zero_times z = omega (arith, ints)

      low_row : (r c : ℕ) → r < length q.places.items → (h : c < length q.lows.items)
          → (n : coef_at extra c ≢ pos 0)
          → slice_index q.places.items r ≡ slice_index q.lows.items c
          → IsLow (row_at (lp_rows q.lp) r) c
      low_row r c h k n e =
          let s = single_if c k n in
          let a = low_here c k n in
          let p = placed r h in
          let l = low_slot_is c k n in
          let bound = bound_at (present S) r in
          let low : Bound = record { coef = at_column a.var (negsuc 0); le = neg_ℤ a.kept } in
          let f : slot_of S (slice_index q.lows.items c) ≡ Some bound =
          subst (λ (m : ℕ). slot_of S m ≡ Some bound) e p in
          let g : bound ≡ low = cc in
          let here : (a.var == a.var) ≡ true = grind (arith, nat_tests) in
          let at = λ (j : ℕ). row_coef r j ∙ ap (λ (x : Bound). by_part columns x.coef j) g in (
            at c ∙ ap₂ (λ (v : ℕ) (z : ℤ). z *ℤ at_column a.var (negsuc 0) v) a.is_var a.sign ∙
                rw here refl,
            λ j m. at j ∙ off a j (⊎_elim (λ (l : j < length columns).
                inl (λ (z : (part_at columns j).0 ≡ a.var).
                other_var c s.0 s.1 j l m (z ∙ sym a.is_var)))
                (λ (l : length columns ≤ j). inr (ap (λ (part : APart). part.1) (past_end columns j (0, pos 0) l)))
                (below_or j (length columns))),
          )
        where
          off : (a : LowAt player leaf c) (j : ℕ)
              → ((part_at columns j).0 ≢ a.var) ⊎ ((part_at columns j).1 ≡ pos 0)
              → by_part columns (at_column a.var (negsuc 0)) j ≡ pos 0
          off a j which =
              ⊎_elim (λ (n : (part_at columns j).0 ≢ a.var).
              let t : (a.var == (part_at columns j).0) ≡ false = grind (arith, nat_tests, n) in
              rw t (omega (arith, ints)))
              (λ (z : (part_at columns j).1 ≡ pos 0).
              ap (λ (x : ℤ). x *ℤ at_column a.var (negsuc 0) (part_at columns j).0) z ∙
              zero_times (at_column a.var (negsuc 0) (part_at columns j).0)) which

      pub lists_apart : (r c : ℕ) → r < length q.places.items → c < length q.lows.items
          → slice_index q.places.items r ≡ slice_index q.lows.items c → coef_at mult r ≢ pos 0
          → coef_at extra c ≡ pos 0
      lists_apart r c h k e n =
          ⊎_elim (λ (z : coef_at extra c ≡ pos 0). z)
          (λ (z : coef_at extra c ≢ pos 0).
          let p = place_count in
          let s = single_if c k z in
          let t = s.0 in
          let u = b.columns in
          listed.apart r c (omega (arith, h, p)) (omega (arith, t, u)) (low_row r c h k z e) n)
          (zero_or (coef_at extra c))

      module _ (list : Terms) (sums : (c : ℕ → ℤ) → value_at list c
          ≡ value_at mult (λ r. c (slice_index q.places.items r))
          +ℤ value_at extra (λ k. c (slice_index q.lows.items k))) where
        coef_of : (o : Option Bound) (j : ℕ) → ℤ
        coef_of o j = option_map_or (λ x. x.coef j) o (pos 0)

        left_is : (j c : ℕ) → IsFirstColumn player j c
            → left_of S list j ≡ row_sum player leaf mult j -ℤ coef_at extra c
        left_is j c first =
            let f : ℕ → ℤ = λ k. slot_coef S k j in
            let x = value_same (length q.places.items) mult
            (λ r. f (slice_index q.places.items r)) (λ r. (bound_at (present S) r).coef j) rows_listed
            (λ r h. ap (λ (o : Option Bound). option_map_or (λ x. x.coef j) o (pos 0)) (placed r h)) in
            let y = value_listed 0 (length q.lows.items) extra
            (λ k. f (slice_index q.lows.items k)) (λ k. at_column k (negsuc 0) c) columns_listed
            (λ k l h n. let a = low_here k h n in let s = single_if k h n in
            ap (λ (o : Option Bound). option_map_or (λ x. x.coef j) o (pos 0)) (low_slot_is k h n) ∙
            same_test a.var j k c
            (λ e. sym a.is_var ∙ ap (λ (m : ℕ). (part_at columns m).0) e ∙
            ap (λ (part : APart). part.0) first.1)
            (λ m e. other_var k s.0 s.1 c first.0 (λ z. m (sym z))
            (ap (λ (part : APart). part.0) first.1 ∙ sym e ∙ sym a.is_var))) in
            let z = minus_one 0 (length q.lows.items) c extra columns_listed in
            left_value S list j ∙ sums f ∙ omega (arith, ints, x, y, z)

        right_is : right_of S list ≤ℤ (weighed q.lp mult).le
        right_is =
            let f : ℕ → ℤ = slot_le S in
            let x = value_same (length q.places.items) mult
            (λ r. f (slice_index q.places.items r)) (λ r. (row_at (lp_rows q.lp) r).le) rows_listed
            (λ r h. ap (λ (o : Option Bound). option_map_or (λ x. x.le) o (pos 0)) (placed r h) ∙
            sym (row_le r)) in
            let y = value_down 0 (length q.lows.items) extra
            (λ k. f (slice_index q.lows.items k)) columns_listed
            (λ k l h n. let a = low_here k h n in let u = a.up in
            let e = ap (λ (o : Option Bound). option_map_or (λ x. x.le) o (pos 0)) (low_slot_is k h n) in
            omega (arith, ints, u, e)) in
            let p = products_value mult (λ r. (row_at (lp_rows q.lp) r).le) in
            let l = right_value S list in
            let s = sums f in
            omega (arith, ints, x, y, p, l, s)

        pub spread : AreAtLeastOne 4294967296 list → AllPass (λ n. is_some (slot_of S n)) list
            → IsSpread player leaf q mult extra list
        spread form passes = record {
          form = form;
          present_are = present_if S list passes;
          left = left_is;
          right = right_is;
          sums = sums;
        }
