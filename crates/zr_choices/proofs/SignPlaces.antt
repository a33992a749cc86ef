-- Which row says of an unknown that it is at least 0.
use Rattle.std.proofs.Common.{◌≡◌, ◌≢◌, ℕ, zero, suc, ◌+◌, ◌<◌, ◌==◌, arith, refl, sym, ap, subst, ◌∙◌, pos, negsuc, neg_ℤ, ◌*ℤ◌, Bool, true, false, if◌then◌else◌, List, [], ◌∷◌, length, get_or, slice_index}
use Rattle.std.proofs.lemmas.Bool.Decides.{nat_tests}
use Rattle.std.proofs.lemmas.List.{get_or-map, length-map}
use Rattle.zr_base.specs.Terms.{coef_at}
use Rattle.zr_lin.specs.DenseRows.{DenseRow}
use Rattle.zr_lin.specs.Ineqs.{dense, row_at}
use Rattle.zr_game.specs.Players.{GameOf}
use Rattle.zr_game.specs.declared.choice.Choice.{Choice}
use Rattle.zr_system.specs.declared.line.Line.{Line}
use Rattle.zr_system.specs.declared.line.Line.TheVariants as ALine
use Rattle.zr_system.specs.declared.unknown.Unknown.{Unknown}
use Rattle.zr_system.specs.declared.unknown.Unknown.TheVariants.{One}
use Rattle.zr_system.specs.Asked.{no_line}
use Rattle.zr_system.specs.Forms.{FormRow, at_most_0, is_same, minus, number_at, of, only}
use Rattle.zr_system.specs.Lines.{all_lines, base_lines, row_of_line}
use Rattle.zr_system.specs.Regions.{LeavesOf}
use Rattle.zr_system.specs.System.{ineq_over, system_rows, terms_from}
use Rattle.zr_system.specs.Unknowns.{columns}
use Rattle.zr_system.proofs.ColumnForms.{coef_listed}
use Rattle.zr_system.proofs.Expansion.{same_is, same_self}
use Rattle.zr_choices.specs.Drawn.{keeps_up}
use Rattle.zr_choices.specs.Parted.{place}
use Rattle.zr_choices.specs.Programs.{is_free, may_be_negative}
use Rattle.zr_choices.specs.Signs.{is_sign, is_up, numbers_of, sign_rows, spread}
use Rattle.zr_choices.proofs.AskedRows.{none}
use Rattle.zr_choices.proofs.Numbering.{count_same, number_at as item_at, numbers_rise, passing, rank, rank_at, rank_of, rank_rises}
use Rattle.zr_choices.proofs.SignLines.{all_kept, same_signs, sign_unknown, ups}
use Rattle.zr_choices.proofs.Spreading.{spread_at, spread_small}
use Rattle.zr_choices.proofs.Unknowns.{columns_apart}

itself : (i : ℕ) → (i == i) ≡ true
itself i = grind (arith, nat_tests)

unequal : (i j : ℕ) → i ≢ j → (i == j) ≡ false
unequal i j c = grind (arith, nat_tests)

-- such a row, by its unknown
sign_row : (game : GameOf) (leaves : LeavesOf) (line : Line) → is_sign line ≡ true
    → row_of_line game leaves line ≡ at_most_0 (minus (of (sign_unknown line)))
sign_row game leaves (ALine.Weight i k false) e = refl
sign_row game leaves (ALine.Dual i k s false) e = refl
sign_row game leaves line e = absurd cc

sign_alone : (line : Line) → is_sign line ≡ true
    → neg_ℤ (number_at (minus (of (sign_unknown line))) One) ≡ pos 0
sign_alone (ALine.Weight i k false) e = refl
sign_alone (ALine.Dual i k s false) e = refl
sign_alone line e = absurd cc

sign_up : (line : Line) → is_sign line ≡ true → may_be_negative (sign_unknown line) ≡ false
sign_up (ALine.Weight i k false) e = refl
sign_up (ALine.Dual i k s false) e = refl
sign_up line e = absurd cc

keeps_up_is : (line : Line) (u : Unknown)
    → keeps_up line u ≡ (if is_sign line then is_same (sign_unknown line) u else false)
keeps_up_is (ALine.Weight i k false) u = refl
keeps_up_is (ALine.Weight i k true) u = refl
keeps_up_is (ALine.Dual i k s false) u = refl
keeps_up_is (ALine.Dual i k s true) u = refl
keeps_up_is (ALine.Weights i b) u = refl
keeps_up_is (ALine.Slot i k s b) u = refl
keeps_up_is (ALine.Pull i k v b) u = refl
keeps_up_is (ALine.Gain i k b) u = refl
keeps_up_is (ALine.Named i n) u = refl
keeps_up_is (ALine.Positive i k) u = refl
keeps_up_is (ALine.Share i k v b) u = refl
keeps_up_is (ALine.Whole i k) u = refl

up_of : (u : Unknown) → may_be_negative u ≡ false → is_up u ≡ true
up_of u e = rw e refl

up_back : (u : Unknown) → is_up u ≡ true → may_be_negative u ≡ false
up_back u e = by (may_be_negative u) e
  where
    by : (b : Bool) → (if b then false else true) ≡ true → b ≡ false
    by true e = absurd cc
    by false e = refl

module _ (game : GameOf) (leaves : LeavesOf) (path : List Choice) where
  abbrev pub us : List Unknown
  us = columns game leaves

  abbrev pub ls : List Line
  ls = all_lines game leaves path

  abbrev signs : List ℕ
  signs = sign_rows ls

  -- the row at a column
  abbrev pub row_of : ℕ → ℕ
  row_of c = slice_index (spread (columns game leaves) (sign_rows (base_lines game leaves))) c

  count : length (numbers_of is_sign 0 ls) ≡ length (numbers_of is_up 0 us)
  count =
      sym (count_same is_sign 0 ls) ∙ sym (length-map (passing is_sign ls) sign_unknown)
      ∙ ap (λ (ws : List Unknown). length ws) (all_kept game leaves path) ∙ count_same is_up 0 us

  pub base_count : length (numbers_of is_up 0 us) ≡ length (sign_rows (base_lines game leaves))
  base_count =
      sym count ∙ ap (λ (rs : List ℕ). length rs) (same_signs game leaves path)

  -- row number m of these is that of unknown number m of these
  names : (m : ℕ) → m < length signs
      → sign_unknown (get_or (passing is_sign ls) m no_line) ≡ get_or (ups us) m One
  names m h =
      let l = count_same is_sign 0 ls in
      sym (get_or-map sign_unknown (passing is_sign ls) m no_line One (omega (arith, h, l)))
      ∙ ap (λ (ws : List Unknown). get_or ws m One) (all_kept game leaves path)

  at_place : (j : ℕ) → j < length us → is_free game leaves j ≡ false
      → row_of (place (is_free game leaves) j) ≡ get_or signs (rank is_up us j) 0
  at_place j h f =
      spread_at us (sign_rows (base_lines game leaves)) j h f
      ∙ ap (λ (rs : List ℕ). get_or rs (rank is_up us j) 0) (sym (same_signs game leaves path))

  -- at the column of an unknown that is at least 0 stands the row that says so
  pub sign_at : (j : ℕ) → j < length us → is_free game leaves j ≡ false
      → (row_of (place (is_free game leaves) j) < length ls)
      × (is_sign (get_or ls (row_of (place (is_free game leaves) j)) no_line) ≡ true)
      × (sign_unknown (get_or ls (row_of (place (is_free game leaves) j)) no_line)
      ≡ get_or us j One)
  sign_at j h f =
      let up = up_of (get_or us j One) f in
      let r = rank_at is_up One 0 us j h up in
      let c = count in
      let less = r.0 in
      let m = rank is_up us j in
      let m_below : m < length signs = omega (arith, less, c) in
      let i = item_at is_sign no_line 0 ls m m_below in
      let k = item_at is_up One 0 us m less in
      let own : k.0 ≡ j = (let p = k.2 in let q = r.1 in omega (arith, p, q)) in
      let here : row_of (place (is_free game leaves) j) ≡ i.0 = at_place j h f
      ∙ (let q = i.2 in omega (arith, q)) in
      let name : sign_unknown (get_or ls i.0 no_line) ≡ get_or us j One =
      ap sign_unknown (sym i.3) ∙ names m m_below ∙ k.3 ∙ ap (λ (x : ℕ). get_or us x One) own in
      let below = i.1 in (
        omega (arith, here, below),
        ap (λ (x : ℕ). is_sign (get_or ls x no_line)) here ∙ i.4,
        ap (λ (x : ℕ). sign_unknown (get_or ls x no_line)) here ∙ name,
      )

  -- and no other row does
  pub row_is : (r j : ℕ) → r < length ls → j < length us → is_free game leaves j ≡ false
      → is_sign (get_or ls r no_line) ≡ true
      → sign_unknown (get_or ls r no_line) ≡ get_or us j One
      → row_of (place (is_free game leaves) j) ≡ r
  row_is r j h q f s e =
      let a = rank_at is_sign no_line 0 ls r h s in
      let m = rank is_sign ls r in
      let c = count in
      let less = a.0 in
      let i = item_at is_sign no_line 0 ls m less in
      let k = item_at is_up One 0 us m (omega (arith, less, c)) in
      let same : i.0 ≡ r = (let x = i.2 in let y = a.1 in omega (arith, x, y)) in
      let name : get_or us j One ≡ get_or us k.0 One =
      sym e ∙ ap (λ (x : ℕ). sign_unknown (get_or ls x no_line)) (sym same)
      ∙ ap sign_unknown (sym i.3) ∙ names m less ∙ k.3 in
      let own : j ≡ k.0 = columns_apart game leaves j k.0 q k.1 name in
      let at : get_or (numbers_of is_up 0 us) m 0 ≡ j = (let x = k.2 in omega (arith, x, own)) in
      let rank_is = rank_of is_up One us j m q (up_of (get_or us j One) f)
      (omega (arith, less, c)) at in
      at_place j q f ∙ ap (λ (x : ℕ). get_or signs x 0) rank_is
      ∙ (let x = a.1 in omega (arith, x))

  pub rows_rise : (j k : ℕ) → j < k → k < length us → is_free game leaves j ≡ false
      → is_free game leaves k ≡ false
      → row_of (place (is_free game leaves) j) < row_of (place (is_free game leaves) k)
  rows_rise j k h q f g =
      let up = up_of (get_or us j One) f in
      let high = up_of (get_or us k One) g in
      let r = rank_rises is_up One us j k h q up high in
      let l = (rank_at is_up One 0 us k q high).0 in
      let c = count in
      let t = numbers_rise is_sign no_line 0 ls (rank is_up us j) (rank is_up us k) r
      (omega (arith, l, c)) in
      let a = at_place j (omega (arith, h, q)) f in
      let b = at_place k q g in
      omega (arith, t, a, b)

  -- a row keeps an unknown up exactly where it is the row of this unknown
  pub keeps : (r j : ℕ) → r < length ls → j < length us → is_free game leaves j ≡ false
      → (row_of (place (is_free game leaves) j) == r)
      ≡ keeps_up (get_or ls r no_line) (get_or us j One)
  keeps r j h q f = by (is_sign (get_or ls r no_line)) refl
      ∙ sym (keeps_up_is (get_or ls r no_line) (get_or us j One))
    where
      inner : (b : Bool) → is_sign (get_or ls r no_line) ≡ true
          → is_same (sign_unknown (get_or ls r no_line)) (get_or us j One) ≡ b
          → (row_of (place (is_free game leaves) j) == r) ≡ b
      inner true s e =
          let x = row_is r j h q f s (same_is (sign_unknown (get_or ls r no_line))
          (get_or us j One) e) in
          rw x (itself r)
      inner false s e =
          unequal (row_of (place (is_free game leaves) j)) r
          (λ x. let n : sign_unknown (get_or ls r no_line) ≡ get_or us j One =
          ap (λ (i : ℕ). sign_unknown (get_or ls i no_line)) (sym x) ∙ (sign_at j q f).2 in
          let t : is_same (sign_unknown (get_or ls r no_line)) (get_or us j One) ≡ true =
          ap (λ (u : Unknown). is_same u (get_or us j One)) n ∙ same_self (get_or us j One) in
          absurd (let z : true ≡ false = sym t ∙ e in cc))

      by : (b : Bool) → is_sign (get_or ls r no_line) ≡ b
          → (row_of (place (is_free game leaves) j) == r)
          ≡ (if b then is_same (sign_unknown (get_or ls r no_line)) (get_or us j One) else false)
      by true s = inner (is_same (sign_unknown (get_or ls r no_line)) (get_or us j One)) s refl
      by false s =
          unequal (row_of (place (is_free game leaves) j)) r
          (λ x. let n : is_sign (get_or ls r no_line) ≡ true =
          ap (λ (i : ℕ). is_sign (get_or ls i no_line)) (sym x) ∙ (sign_at j q f).1 in
          absurd (let z : true ≡ false = sym n ∙ s in cc))

  -- and never one that may be negative
  pub keeps_none : (r j : ℕ) → is_free game leaves j ≡ true
      → keeps_up (get_or ls r no_line) (get_or us j One) ≡ false
  keeps_none r j f = by (keeps_up (get_or ls r no_line) (get_or us j One)) refl
    where
      split : (a : Bool) → is_sign (get_or ls r no_line) ≡ a
          → (if a then is_same (sign_unknown (get_or ls r no_line)) (get_or us j One) else false)
          ≡ true
          → ⊥
      split true s e =
          let n = same_is (sign_unknown (get_or ls r no_line)) (get_or us j One) e in
          let z : false ≡ true = sym (sign_up (get_or ls r no_line) s) ∙ ap may_be_negative n
          ∙ f in
          cc
      split false s e = cc

      by : (b : Bool) → keeps_up (get_or ls r no_line) (get_or us j One) ≡ b → b ≡ false
      by true e =
          absurd (split (is_sign (get_or ls r no_line)) refl
          (sym (keeps_up_is (get_or ls r no_line) (get_or us j One)) ∙ e))
      by false e = refl

  -- what stands in the row
  pub row_is_over : (r : ℕ) → r < length ls
      → row_at (system_rows game leaves path) r
      ≡ dense (ineq_over us (row_of_line game leaves (get_or ls r no_line)))
  row_is_over r h =
      ap dense (get_or-map (λ line. ineq_over us (row_of_line game leaves line)) ls r no_line
      none h)

  sign_dense : (j : ℕ) → j < length us → is_free game leaves j ≡ false
      → row_at (system_rows game leaves path) (row_of (place (is_free game leaves) j))
      ≡ dense (ineq_over us (at_most_0 (minus (of (get_or us j One)))))
  sign_dense j h f =
      let s = sign_at j h f in
      row_is_over (row_of (place (is_free game leaves) j)) s.0
      ∙ ap (λ (row : FormRow). dense (ineq_over us row))
      (sign_row game leaves (get_or ls (row_of (place (is_free game leaves) j)) no_line) s.1
      ∙ ap (λ (u : Unknown). at_most_0 (minus (of u))) s.2)

  sign_coef : (j c : ℕ) → j < length us → c < length us → is_free game leaves j ≡ false
      → (row_at (system_rows game leaves path) (row_of (place (is_free game leaves) j))).coef c
      ≡ negsuc 0 *ℤ only (get_or us c One) (get_or us j One)
  sign_coef j c h q f =
      let o : 0 + c ≡ c = omega arith in
      ap (λ (row : DenseRow). row.coef c) (sign_dense j h f)
      ∙ subst (λ (i : ℕ). coef_at (terms_from 0 us (minus (of (get_or us j One)))) i
      ≡ number_at (minus (of (get_or us j One))) (get_or us c One)) o
      (coef_listed (minus (of (get_or us j One))) 0 us c q)

  pub sign_own : (j : ℕ) → j < length us → is_free game leaves j ≡ false
      → (row_at (system_rows game leaves path) (row_of (place (is_free game leaves) j))).coef j
      ≡ negsuc 0
  sign_own j h f =
      let e = same_self (get_or us j One) in
      let o : only (get_or us j One) (get_or us j One) ≡ pos 1 = rw e refl in
      sign_coef j j h h f ∙ ap (λ z. negsuc 0 *ℤ z) o

  pub sign_other : (j c : ℕ) → j < length us → c < length us → is_free game leaves j ≡ false
      → c ≢ j
      → (row_at (system_rows game leaves path) (row_of (place (is_free game leaves) j))).coef c
      ≡ pos 0
  sign_other j c h q f n =
      sign_coef j c h q f
      ∙ ap (λ z. negsuc 0 *ℤ z) (by (is_same (get_or us c One) (get_or us j One)) refl)
    where
      by : (b : Bool) → is_same (get_or us c One) (get_or us j One) ≡ b
          → (if b then pos 1 else pos 0) ≡ pos 0
      by true e =
          absurd (n (sym (columns_apart game leaves j c h q
          (sym (same_is (get_or us c One) (get_or us j One) e)))))
      by false e = refl

  pub sign_right : (j : ℕ) → j < length us → is_free game leaves j ≡ false
      → (row_at (system_rows game leaves path) (row_of (place (is_free game leaves) j))).le
      ≡ pos 0
  sign_right j h f =
      let s = sign_at j h f in
      ap (λ (row : DenseRow). row.le) (sign_dense j h f)
      ∙ ap (λ (u : Unknown). neg_ℤ (number_at (minus (of u)) One)) (sym s.2)
      ∙ sign_alone (get_or ls (row_of (place (is_free game leaves) j)) no_line) s.1

  pub sign_weak : (j : ℕ) → j < length us → is_free game leaves j ≡ false
      → (row_at (system_rows game leaves path) (row_of (place (is_free game leaves) j))).strict
      ≡ false
  sign_weak j h f = ap (λ (row : DenseRow). row.strict) (sign_dense j h f)

  pub row_count : length (system_rows game leaves path) ≡ length ls
  row_count = length-map ls (λ line. ineq_over us (row_of_line game leaves line))

  pub row_small : (m c : ℕ) → 0 < m → length ls < m → row_of c < m
  row_small m c some few =
      spread_small m us (sign_rows (base_lines game leaves)) c some (λ i. small i)
    where
      below_or : (i : ℕ) (xs : List ℕ) → ((k : ℕ) → k < length xs → get_or xs k 0 < m)
          → get_or xs i 0 < m
      below_or i [] all = some
      below_or zero (x ∷ xs) all = all 0 (omega arith)
      below_or (suc i) (x ∷ xs) all = below_or i xs (λ k h. all (suc k) (omega (arith, h)))

      small : (i : ℕ) → get_or (sign_rows (base_lines game leaves)) i 0 < m
      small i =
          below_or i (sign_rows (base_lines game leaves)) (λ k h.
          let e = same_signs game leaves path in
          let r = item_at is_sign no_line 0 ls k (rw e h) in
          let a = r.1 in
          let b = r.2 in
          let t = ap (λ (xs : List ℕ). get_or xs k 0) e in
          omega (arith, a, b, t, few))
