-- Merged multipliers refute the system's rows.
use Rattle.std.proofs.Common.{◌≡◌, ◌≢◌, ℕ, ◌+◌, ◌<◌, ◌≤◌, ◌==◌, arith, refl, sym, ap, ap₂, subst, ◌∙◌, add-one, ℤ, pos, negsuc, neg_ℤ, ◌+ℤ◌, ◌*ℤ◌, ◌<ℤ◌, ◌≤ℤ◌, Bool, true, false, if◌then◌else◌, ◌||◌, List, [], ◌∷◌, length, All, ◌⊎◌, inl, inr, ⊎_elim}
use Rattle.std.proofs.lemmas.Bool.{cases_eq}
use Rattle.std.proofs.lemmas.Bool.Decides.{nat_tests}
use Rattle.std.proofs.lemmas.Int.{ints}
use Rattle.zr_base.specs.Sums.{sum_to}
use Rattle.zr_base.specs.Steps.{IsNarrow}
use Rattle.zr_base.specs.Terms.{AscendWith, Terms, coef_at, value_at}
use Rattle.zr_base.proofs.Dense.{sum_to_same, value_dense}
use Rattle.zr_lin.specs.DenseRows.{AreMultipliers, DenseRow, Refutes, uses_strict}
use Rattle.zr_lin.specs.Ineqs.{IsIneq, row_at}
use Rattle.zr_game.specs.Players.{GameOf}
use Rattle.zr_game.specs.Leaves.{at_column}
use Rattle.zr_game.specs.declared.choice.Choice.{Choice}
use Rattle.zr_simplex.specs.declared.program.Lp.{Lp}
use Rattle.zr_simplex.specs.Answers.{AreListed, weighed}
use Rattle.zr_system.specs.Regions.{LeavesOf}
use Rattle.zr_system.specs.System.{system_rows}
use Rattle.zr_system.specs.Unknowns.{columns}
use Rattle.zr_branch.specs.Merged.{AreAtLeastOne, IsMultiplier}
use Rattle.zr_branch.proofs.Listing.{below_or, minus_one, products_value}
use Rattle.zr_choices.specs.Asking.{Asks}
use Rattle.zr_choices.specs.Merging.{first_terms}
use Rattle.zr_choices.specs.Parted.{place}
use Rattle.zr_choices.specs.Programs.{is_free}
use Rattle.zr_choices.proofs.AskedRows.{lp_count, one_if, total, total_first, total_last, total_right, total_second, weighed_column, weighed_right}
use Rattle.zr_choices.proofs.Coefs.{here, past}
use Rattle.zr_choices.proofs.ColumnSums.{own_sum, sum_columns}
use Rattle.zr_choices.proofs.FirstTerms.{first_ascends, first_coef_at}
use Rattle.zr_choices.proofs.Places.{place_below, second_below}
use Rattle.zr_choices.proofs.SignPlaces.{row_count, row_of, sign_at, sign_other, sign_own, sign_right, sign_weak}
use Rattle.zr_choices.proofs.Sums.{sum_to-all_zero, sum_to-single}
use Rattle.zr_choices.proofs.Weighing.{from_zero}

zero_times : (z : ℤ) → pos 0 *ℤ z ≡ pos 0
zero_times z = omega (arith, ints)

times_zero : (z : ℤ) → z *ℤ pos 0 ≡ pos 0
times_zero z = omega (arith, ints)

times_minus : (z : ℤ) → z *ℤ negsuc 0 ≡ neg_ℤ z
times_minus z = omega (arith, ints)

pub no_hit : (v j : ℕ) → v ≢ j → at_column v (negsuc 0) j ≡ pos 0
no_hit v j n = let t : (v == j) ≡ false = grind (arith, nat_tests, n) in rw t refl

pub hit : (v j : ℕ) → v ≡ j → at_column v (negsuc 0) j ≡ negsuc 0
hit v j e = let t : (v == j) ≡ true = grind (arith, nat_tests, e) in rw t refl

-- a list whose sum over strict rows isn't zero uses one
strict_by : (row : ℕ → DenseRow) (ts : Terms)
    → value_at ts (λ r. one_if (row r).strict) ≢ pos 0 → uses_strict row ts ≡ true
strict_by row [] n = absurd (n refl)
strict_by row (t ∷ ts) n = by (row t.0).strict refl (strict_by row ts)
  where
    by : (b : Bool) → (row t.0).strict ≡ b
        → (value_at ts (λ r. one_if (row r).strict) ≢ pos 0 → uses_strict row ts ≡ true)
        → (b || uses_strict row ts) ≡ true
    by true e rest = refl
    by false e rest =
        rest (λ z. n (let o : one_if (row t.0).strict ≡ pos 0 = rw e refl in
        let q = ap (λ y. t.1 *ℤ y) o ∙ times_zero t.1 in omega (arith, ints, q, z)))

-- a list with nothing from m on is below m
cut_to : (low m big : ℕ) (ts : Terms) → AscendWith IsMultiplier low big ts
    → ((k : ℕ) → m ≤ k → coef_at ts k ≡ pos 0) → AscendWith IsMultiplier low m ts
cut_to low m big [] a none = tt
cut_to low m big (t ∷ ts) a none =
    (a.0, inside, a.2, cut_to (t.0 + 1) m big ts a.3 later)
  where
    own : coef_at (t ∷ ts) t.0 ≡ t.1
    own = here t ts t.0 refl

    inside : t.0 < m
    inside =
        ⊎_elim (λ (h : t.0 < m). h)
        (λ (h : m ≤ t.0). let z = none t.0 h in let o = own in let up = a.2.0 in
        absurd (omega (arith, ints, z, o, up))) (below_or t.0 m)

    later : (k : ℕ) → m ≤ k → coef_at ts k ≡ pos 0
    later k h = let b = inside in sym (past t ts k (λ e. omega (arith, b, h, e))) ∙ none k h

weak_form : (low m : ℕ) (ts : Terms) → AscendWith IsMultiplier low m ts
    → AscendWith (λ z. (pos 1) ≤ℤ z) low m ts
weak_form low m [] a = tt
weak_form low m (t ∷ ts) a = (a.0, a.1, a.2.0, weak_form (t.0 + 1) m ts a.3)

module _ (game : GameOf) (leaves : LeavesOf) (path : List Choice) (lp : Lp)
    (asks : Asks (is_free game leaves) (length (columns game leaves))
    (system_rows game leaves path) lp)
    (form : All (IsIneq (length (columns game leaves))) (system_rows game leaves path))
    (mult extra : Terms) (listed : AreListed lp mult extra) where
  abbrev pub free : ℕ → Bool
  free = is_free game leaves

  abbrev pub n : ℕ
  n = length (columns game leaves)

  abbrev pub m : ℕ
  m = length (system_rows game leaves path)

  -- the row at the column of an unknown
  abbrev pub at : ℕ → ℕ
  at j = row_of game leaves path (place (is_free game leaves) j)

  abbrev pub row : ℕ → DenseRow
  row r = row_at (system_rows game leaves path) r

  pub good : AreMultipliers (length (system_rows game leaves path) + 1) mult
  good =
      subst (λ (k : ℕ). AreMultipliers k mult)
      (lp_count (is_free game leaves) (length (columns game leaves)) (system_rows game leaves path)
      lp asks) listed.multipliers

  pub good_extra : AscendWith (λ z. (pos 1) ≤ℤ z) 0 (place (is_free game leaves)
      (length (columns game leaves)) + 1) extra
  good_extra = subst (λ (k : ℕ). AreMultipliers k extra) asks.width listed.extras

  pub extra_up : (c : ℕ) → (pos 0) ≤ℤ coef_at extra c
  extra_up c =
      from_zero 0 (place (is_free game leaves) (length (columns game leaves)) + 1) extra c
      good_extra

  pub mult_up : (r : ℕ) → (pos 0) ≤ℤ coef_at mult r
  mult_up r = from_zero 0 (length (system_rows game leaves path) + 1) mult r good

  -- what the extra of unknown j adds to a sum over rows
  abbrev pub extra_term : (ℕ → ℤ) → ℕ → ℤ
  extra_term f j =
      if is_free game leaves j then pos 0
      else coef_at extra (place (is_free game leaves) j)
      *ℤ f (row_of game leaves path (place (is_free game leaves) j))

  pub term_free : (f : ℕ → ℤ) (j : ℕ) → is_free game leaves j ≡ true → extra_term f j ≡ pos 0
  term_free f j e = rw e refl

  pub term_bound : (f : ℕ → ℤ) (j : ℕ) → is_free game leaves j ≡ false
      → extra_term f j ≡ coef_at extra (place (is_free game leaves) j)
      *ℤ f (row_of game leaves path (place (is_free game leaves) j))
  term_bound f j e = rw e refl

  term_zero : (f : ℕ → ℤ) (j : ℕ)
      → (is_free game leaves j ≡ false
      → f (row_of game leaves path (place (is_free game leaves) j)) ≡ pos 0)
      → extra_term f j ≡ pos 0
  term_zero f j z = by (is_free game leaves j) refl
    where
      by : (b : Bool) → is_free game leaves j ≡ b → extra_term f j ≡ pos 0
      by true e = term_free f j e
      by false e =
          term_bound f j e
          ∙ ap (λ y. coef_at extra (place (is_free game leaves) j) *ℤ y) (z e)
          ∙ times_zero (coef_at extra (place (is_free game leaves) j))

  module _ (columns_are : (c : ℕ) → c < place (is_free game leaves) (length (columns game leaves))
      → (weighed lp mult).coef c ≡ coef_at extra c) where
    pub total_is : (c : ℕ) → c < place (is_free game leaves) (length (columns game leaves))
        → total (is_free game leaves) (length (columns game leaves)) (system_rows game leaves path)
        mult good c ≡ coef_at extra c
    total_is c h =
        sym (weighed_column (is_free game leaves) (length (columns game leaves))
        (system_rows game leaves path) lp asks mult c) ∙ columns_are c h

    pub summed_is : (j : ℕ) → j < length (columns game leaves)
        → sum_to (length (system_rows game leaves path)) (λ r. coef_at mult r *ℤ (row r).coef j)
        ≡ coef_at extra (place (is_free game leaves) j)
    summed_is j h =
        sym (total_first (is_free game leaves) (length (columns game leaves))
        (system_rows game leaves path) mult good j h)
        ∙ total_is (place (is_free game leaves) j)
        (place_below (is_free game leaves) j (length (columns game leaves)) h)

    -- a free unknown's columns have no extras
    pub free_extras : (j : ℕ) → j < length (columns game leaves) → is_free game leaves j ≡ true
        → (coef_at extra (place (is_free game leaves) j) ≡ pos 0)
        × (coef_at extra (place (is_free game leaves) j + 1) ≡ pos 0)
    free_extras j h e =
        let a = summed_is j h in
        let b = sym (total_second (is_free game leaves) (length (columns game leaves))
        (system_rows game leaves path) mult good j h e)
        ∙ total_is (place (is_free game leaves) j + 1)
        (second_below (is_free game leaves) j (length (columns game leaves)) h e) in
        let x = extra_up (place (is_free game leaves) j) in
        let y = extra_up (place (is_free game leaves) j + 1) in
        (omega (arith, ints, a, b, x, y), omega (arith, ints, a, b, x, y))

    -- a listed extra times the number at its row
    abbrev extra_product : (ℕ → ℤ) → ℕ → ℤ
    extra_product f c =
        coef_at (first_terms (place (is_free game leaves) (length (columns game leaves))) extra) c
        *ℤ f (row_of game leaves path c)

    pub extras_value : (f : ℕ → ℤ)
        → value_at (first_terms (place (is_free game leaves) (length (columns game leaves))) extra)
        (λ k. f (row_of game leaves path k))
        ≡ sum_to (length (columns game leaves)) (extra_term f)
    extras_value f =
        value_dense 0 (place (is_free game leaves) (length (columns game leaves)))
        (first_terms (place (is_free game leaves) (length (columns game leaves))) extra)
        (λ k. f (row_of game leaves path k))
        (first_ascends IsNarrow 0 (place (is_free game leaves) (length (columns game leaves)))
        lp.columns extra listed.narrow.1)
        ∙ sum_columns (is_free game leaves) (length (columns game leaves)) (extra_product f)
        ∙ sum_to_same (length (columns game leaves))
        (λ j. own_sum (is_free game leaves j) (place (is_free game leaves) j) (extra_product f))
        (extra_term f)
        (λ j h. each j h)
      where
        coef_is : (c : ℕ) → c < place (is_free game leaves) (length (columns game leaves))
            → extra_product f c ≡ coef_at extra c *ℤ f (row_of game leaves path c)
        coef_is c h =
            ap (λ z. z *ℤ f (row_of game leaves path c))
            (first_coef_at (place (is_free game leaves) (length (columns game leaves))) extra c h)

        each : (j : ℕ) → j < length (columns game leaves)
            → own_sum (is_free game leaves j) (place (is_free game leaves) j) (extra_product f)
            ≡ extra_term f j
        each j h = by (is_free game leaves j) refl
          where
            by : (b : Bool) → is_free game leaves j ≡ b
                → own_sum (is_free game leaves j) (place (is_free game leaves) j)
                (extra_product f) ≡ extra_term f j
            by true e =
                let z = free_extras j h e in
                let x = coef_is (place (is_free game leaves) j)
                (place_below (is_free game leaves) j (length (columns game leaves)) h)
                ∙ ap (λ y. y *ℤ f (row_of game leaves path (place (is_free game leaves) j))) z.0
                ∙ zero_times (f (row_of game leaves path (place (is_free game leaves) j))) in
                let y = coef_is (place (is_free game leaves) j + 1)
                (second_below (is_free game leaves) j (length (columns game leaves)) h e)
                ∙ ap (λ y. y *ℤ f (row_of game leaves path (place (is_free game leaves) j + 1)))
                z.1
                ∙ zero_times (f (row_of game leaves path (place (is_free game leaves) j + 1))) in
                let o : own_sum (is_free game leaves j) (place (is_free game leaves) j)
                (extra_product f)
                ≡ extra_product f (place (is_free game leaves) j)
                +ℤ extra_product f (place (is_free game leaves) j + 1) = rw e refl in
                let t = term_free f j e in
                omega (arith, ints, o, x, y, t)
            by false e =
                let o : own_sum (is_free game leaves j) (place (is_free game leaves) j)
                (extra_product f)
                ≡ extra_product f (place (is_free game leaves) j) = rw e refl in
                o ∙ coef_is (place (is_free game leaves) j)
                (place_below (is_free game leaves) j (length (columns game leaves)) h)
                ∙ sym (term_bound f j e)

    module _ (end : coef_at mult (length (system_rows game leaves path)) ≡ pos 0) where
      pub mult_value : (f : ℕ → ℤ)
          → value_at mult f
          ≡ sum_to (length (system_rows game leaves path)) (λ r. coef_at mult r *ℤ f r)
      mult_value f =
          value_dense 0 (length lp.rows.items) mult f listed.narrow.0
          ∙ ap (λ (k : ℕ). sum_to k (λ r. coef_at mult r *ℤ f r))
          (count ∙ add-one (length (system_rows game leaves path)))
          ∙ (let z = ap (λ y. y *ℤ f (length (system_rows game leaves path))) end
          ∙ zero_times (f (length (system_rows game leaves path))) in omega (arith, ints, z))
        where
          count : length lp.rows.items ≡ length (system_rows game leaves path) + 1
          count =
              lp_count (is_free game leaves) (length (columns game leaves))
              (system_rows game leaves path) lp asks

      module _ (list : Terms) (are : AreAtLeastOne 4294967296 list)
          (sums : (f : ℕ → ℤ) → value_at list f ≡ value_at mult f
          +ℤ value_at (first_terms (place (is_free game leaves) (length (columns game leaves)))
          extra)
          (λ k. f (row_of game leaves path k))) where
        pub list_value : (f : ℕ → ℤ) → value_at list f
            ≡ sum_to (length (system_rows game leaves path)) (λ r. coef_at mult r *ℤ f r)
            +ℤ sum_to (length (columns game leaves)) (extra_term f)
        list_value f = sums f ∙ ap₂ (λ x y. x +ℤ y) (mult_value f) (extras_value f)

        column_zero : (j : ℕ) → j < length (columns game leaves)
            → value_at list (λ r. (row r).coef j) ≡ pos 0
        column_zero j h =
            let v = list_value (λ r. (row r).coef j) in
            let s = summed_is j h in
            let z = by (is_free game leaves j) refl in
            omega (arith, ints, v, s, z)
          where
            others : (i : ℕ) → i < length (columns game leaves) → i ≢ j
                → extra_term (λ r. (row r).coef j) i ≡ pos 0
            others i l d =
                term_zero (λ r. (row r).coef j) i
                (λ e. sign_other game leaves path i j l h e (λ s. d (sym s)))

            by : (b : Bool) → is_free game leaves j ≡ b
                → sum_to (length (columns game leaves)) (extra_term (λ r. (row r).coef j))
                ≡ neg_ℤ (coef_at extra (place (is_free game leaves) j))
            by true e =
                let x = (free_extras j h e).0 in
                let s = sum_to-all_zero (length (columns game leaves))
                (extra_term (λ r. (row r).coef j))
                (λ i l. ⊎_elim (λ (q : i ≡ j). term_free (λ r. (row r).coef j) i
                (ap (is_free game leaves) q ∙ e)) (λ (d : i ≢ j). others i l d) (cases_eq i j)) in
                omega (arith, ints, x, s)
            by false e =
                sum_to-single (length (columns game leaves)) j (extra_term (λ r. (row r).coef j)) h
                (λ i l d. others i l d) ∙ term_bound (λ r. (row r).coef j) j e
                ∙ ap (λ y. coef_at extra (place (is_free game leaves) j) *ℤ y)
                (sign_own game leaves path j h e)
                ∙ times_minus (coef_at extra (place (is_free game leaves) j))

        pub right_same : value_at list (λ r. (row r).le)
            ≡ sum_to (length (system_rows game leaves path)) (λ r. coef_at mult r *ℤ (row r).le)
        right_same =
            let v = list_value (λ r. (row r).le) in
            let s = sum_to-all_zero (length (columns game leaves)) (extra_term (λ r. (row r).le))
            (λ i l. term_zero (λ r. (row r).le) i (λ e. sign_right game leaves path i l e)) in
            omega (arith, ints, v, s)

        pub strict_same : value_at list (λ r. one_if (row r).strict)
            ≡ sum_to (length (system_rows game leaves path))
            (λ r. coef_at mult r *ℤ one_if (row r).strict)
        strict_same =
            let v = list_value (λ r. one_if (row r).strict) in
            let s = sum_to-all_zero (length (columns game leaves))
            (extra_term (λ r. one_if (row r).strict))
            (λ i l. term_zero (λ r. one_if (row r).strict) i
            (λ e. ap (λ (b : Bool). one_if b) (sign_weak game leaves path i l e))) in
            omega (arith, ints, v, s)

        -- the number of a row in the list
        pub number_in : (r : ℕ) → neg_ℤ (coef_at list r)
            ≡ sum_to (length (system_rows game leaves path))
            (λ k. coef_at mult k *ℤ at_column k (negsuc 0) r)
            +ℤ sum_to (length (columns game leaves)) (extra_term (λ k. at_column k (negsuc 0) r))
        number_in r =
            sym (minus_one 0 4294967296 r list are) ∙ list_value (λ k. at_column k (negsuc 0) r)

        none_past : (k : ℕ) → length (system_rows game leaves path) ≤ k → coef_at list k ≡ pos 0
        none_past k h =
            let v = number_in k in
            let a = sum_to-all_zero (length (system_rows game leaves path))
            (λ i. coef_at mult i *ℤ at_column i (negsuc 0) k)
            (λ i l. ap (λ y. coef_at mult i *ℤ y) (no_hit i k (λ e. omega (arith, l, h, e)))
            ∙ times_zero (coef_at mult i)) in
            let b = sum_to-all_zero (length (columns game leaves))
            (extra_term (λ i. at_column i (negsuc 0) k))
            (λ i l. term_zero (λ i. at_column i (negsuc 0) k) i (λ e.
            let s = (sign_at game leaves path i l e).0 in
            let c = row_count game leaves path in
            no_hit (row_of game leaves path (place (is_free game leaves) i)) k
            (λ q. omega (arith, s, c, h, q)))) in
            omega (arith, ints, v, a, b)

        pub list_form : AscendWith IsMultiplier 0 (length (system_rows game leaves path)) list
        list_form =
            cut_to 0 (length (system_rows game leaves path)) 4294967296 list are
            (λ k h. none_past k h)

        pub list_multipliers : AreMultipliers (length (system_rows game leaves path)) list
        list_multipliers = weak_form 0 (length (system_rows game leaves path)) list list_form

        refutes_by : ((value_at list (λ r. (row r).le) <ℤ (pos 0))
            ⊎ ((value_at list (λ r. (row r).le) ≡ pos 0)
            × (uses_strict (row_at (system_rows game leaves path)) list ≡ true)))
            → Refutes (length (columns game leaves)) (row_at (system_rows game leaves path)) list
        refutes_by right =
            let e = products_value list (λ r. (row r).le) in (
              λ j h. products_value list (λ r. (row r).coef j) ∙ column_zero j h,
              ⊎_elim (λ (a : value_at list (λ r. (row r).le) <ℤ (pos 0)).
                  inl (omega (arith, ints, a, e)))
                  (λ (a : (value_at list (λ r. (row r).le) ≡ pos 0)
                  × (uses_strict (row_at (system_rows game leaves path)) list ≡ true)).
                  inr (e ∙ a.0, a.1)) right,
            )

        right_is : (weighed lp mult).le ≡ value_at list (λ r. (row r).le)
        right_is =
            weighed_right (is_free game leaves) (length (columns game leaves))
            (system_rows game leaves path) lp asks mult
            ∙ total_right (is_free game leaves) (length (columns game leaves))
            (system_rows game leaves path) mult good
            ∙ (let s = right_same in omega (arith, ints, s, end))

        -- a right side below zero
        pub closes_low : (weighed lp mult).le <ℤ (pos 0)
            → Refutes (length (columns game leaves)) (row_at (system_rows game leaves path)) list
        closes_low low = let e = right_is in refutes_by (inl (omega (arith, ints, low, e)))

        -- a right side of zero, and the last column above zero
        pub closes_strict : (weighed lp mult).le ≡ pos 0
            → (pos 0) <ℤ (weighed lp mult).coef
            (place (is_free game leaves) (length (columns game leaves)))
            → Refutes (length (columns game leaves)) (row_at (system_rows game leaves path)) list
        closes_strict zero_right above =
            let e = right_is in
            let w = weighed_column (is_free game leaves) (length (columns game leaves))
            (system_rows game leaves path) lp asks mult
            (place (is_free game leaves) (length (columns game leaves))) in
            let t = total_last (is_free game leaves) (length (columns game leaves))
            (system_rows game leaves path) mult good form in
            let s = strict_same in
            refutes_by (inr (
              sym e ∙ zero_right,
              strict_by (row_at (system_rows game leaves path)) list
                  (λ z. omega (arith, ints, w, t, s, end, above, z)),
            ))
