-- The extras of columns may be merged into the multipliers of rows.
use Rattle.std.proofs.Common.{◌≡◌, ◌≢◌, ℕ, zero, suc, ◌+◌, ◌<◌, ◌≤◌, arith, refl, sym, ap, ◌∙◌, ℤ, pos, negsuc, neg_ℤ, Bool, true, false, List, length, get_or, All, ◌⊎◌, inl, inr, ⊎_elim}
use Rattle.std.proofs.lemmas.Bool.{cases_eq}
use Rattle.zr_base.specs.Steps.{IsNarrow}
use Rattle.zr_base.specs.Terms.{Terms, coef_at}
use Rattle.zr_lin.specs.DenseRows.{DenseRow}
use Rattle.zr_lin.specs.Ineqs.{IsIneq, row_at}
use Rattle.zr_game.specs.Players.{GameOf}
use Rattle.zr_game.specs.declared.choice.Choice.{Choice}
use Rattle.zr_simplex.specs.declared.program.Lp.{Lp}
use Rattle.zr_simplex.specs.Answers.{AreListed, IsLow, weighed}
use Rattle.zr_simplex.specs.Programs.{lp_rows}
use Rattle.zr_system.specs.Regions.{LeavesOf}
use Rattle.zr_system.specs.System.{system_rows}
use Rattle.zr_system.specs.Unknowns.{columns}
use Rattle.zr_branch.proofs.Listing.{below_or}
use Rattle.zr_choices.specs.Asking.{Asks}
use Rattle.zr_choices.specs.Parted.{parted, place}
use Rattle.zr_choices.specs.Programs.{is_free}
use Rattle.zr_choices.proofs.Ascending.{parted_ineq}
use Rattle.zr_choices.proofs.AskedRows.{asked, first_of, last_of, lp_count, none, one_if, row_before, rows_are, second_of}
use Rattle.zr_choices.proofs.Closing.{free_extras}
use Rattle.zr_choices.proofs.ColumnSums.{column_of}
use Rattle.zr_choices.proofs.FirstTerms.{none_from}
use Rattle.zr_choices.proofs.Places.{place_below}
use Rattle.zr_choices.proofs.SignPlaces.{row_count, row_of, rows_rise, sign_at, sign_other, sign_own, sign_weak}

pub zero_or : (z : ℤ) → (z ≡ pos 0) ⊎ (z ≢ pos 0)
zero_or (pos zero) = inl refl
zero_or (pos (suc k)) = inr (λ e. cc)
zero_or (negsuc k) = inr (λ e. cc)

module _ (game : GameOf) (leaves : LeavesOf) (path : List Choice) (lp : Lp)
    (asks : Asks (is_free game leaves) (length (columns game leaves))
    (system_rows game leaves path) lp)
    (form : All (IsIneq (length (columns game leaves))) (system_rows game leaves path))
    (mult extra : Terms) (listed : AreListed lp mult extra) where
  -- the row of an unknown is the one that keeps its column from being below zero
  sign_low : (j : ℕ) → j < length (columns game leaves) → is_free game leaves j ≡ false
      → IsLow (row_at (lp_rows lp) (row_of game leaves path (place (is_free game leaves) j)))
      (place (is_free game leaves) j)
  sign_low j h f =
      let free = is_free game leaves in
      let n = length (columns game leaves) in
      let rows = system_rows game leaves path in
      let r = row_of game leaves path (place free j) in
      let s = (sign_at game leaves path j h f).0 in
      let c = row_count game leaves path in
      let below : r < length rows = omega (arith, s, c) in
      let is = rows_are free n rows lp asks r in (
        ap (λ (d : DenseRow). d.coef (place free j)) is ∙ first_of free n rows r below j h
            ∙ sign_own game leaves path j h f,
        λ k apart. ap (λ (d : DenseRow). d.coef k) is ∙ other below k apart,
      )
    where
      inside : (row_of game leaves path (place (is_free game leaves) j)) < length
          (system_rows game leaves path) → (k : ℕ) → k ≢ place (is_free game leaves) j
          → (i : ℕ) × (i < (length (columns game leaves)))
          × ((k ≡ place (is_free game leaves) i) ⊎ (((is_free game leaves) i ≡ true)
          × (k ≡ place (is_free game leaves) i + 1)))
          → (asked (is_free game leaves) (length (columns game leaves))
          (system_rows game leaves path) (row_of game leaves path
          (place (is_free game leaves) j))).coef k ≡ pos 0
      inside below k apart s =
          ⊎_elim (λ (e : k ≡ place (is_free game leaves) s.0).
          ap (λ (c : ℕ). (asked (is_free game leaves) (length (columns game leaves))
          (system_rows game leaves path) (row_of game leaves path
          (place (is_free game leaves) j))).coef c) e
          ∙ first_of (is_free game leaves) (length (columns game leaves))
          (system_rows game leaves path) (row_of game leaves path
          (place (is_free game leaves) j)) below s.0 s.1
          ∙ sign_other game leaves path j s.0 h s.1 f
          (λ q. apart (e ∙ ap (place (is_free game leaves)) q)))
          (λ (e : ((is_free game leaves) s.0 ≡ true) × (k ≡ place (is_free game leaves) s.0 + 1)).
          ap (λ (c : ℕ). (asked (is_free game leaves) (length (columns game leaves))
          (system_rows game leaves path) (row_of game leaves path
          (place (is_free game leaves) j))).coef c) e.1
          ∙ second_of (is_free game leaves) (length (columns game leaves))
          (system_rows game leaves path) (row_of game leaves path
          (place (is_free game leaves) j)) below s.0 s.1 e.0
          ∙ ap neg_ℤ (sign_other game leaves path j s.0 h s.1 f
          (λ q. let z : true ≡ false = sym e.0 ∙ ap (is_free game leaves) q ∙ f in cc)))
          s.2

      past_all : (row_of game leaves path (place (is_free game leaves) j)) < length
          (system_rows game leaves path) → (k : ℕ)
          → place (is_free game leaves) (length (columns game leaves)) + 1 ≤ k
          → (asked (is_free game leaves) (length (columns game leaves))
          (system_rows game leaves path) (row_of game leaves path
          (place (is_free game leaves) j))).coef k ≡ pos 0
      past_all below k l =
          ap (λ (d : DenseRow). d.coef k) (row_before (is_free game leaves)
          (length (columns game leaves)) (system_rows game leaves path)
          (row_of game leaves path (place (is_free game leaves) j)) below)
          ∙ none_from IsNarrow 0 (place (is_free game leaves) (length (columns game leaves)) + 1)
          (parted (is_free game leaves) (length (columns game leaves))
          (get_or (system_rows game leaves path) (row_of game leaves path
          (place (is_free game leaves) j)) none)).coef k
          (parted_ineq (is_free game leaves) (length (columns game leaves))
          (get_or (system_rows game leaves path) (row_of game leaves path
          (place (is_free game leaves) j)) none) (form
          (row_of game leaves path (place (is_free game leaves) j)) none below)).0 l

      other : (row_of game leaves path (place (is_free game leaves) j)) < length
          (system_rows game leaves path) → (k : ℕ) → k ≢ place (is_free game leaves) j
          → (asked (is_free game leaves) (length (columns game leaves))
          (system_rows game leaves path) (row_of game leaves path
          (place (is_free game leaves) j))).coef k ≡ pos 0
      other below k apart =
          ⊎_elim (λ (l : k < place (is_free game leaves) (length (columns game leaves))). inside
          below k apart (column_of (is_free game leaves) (length (columns game leaves)) k l))
          (λ (l : place (is_free game leaves) (length (columns game leaves)) ≤ k). ⊎_elim
          (λ (e : k ≡ place (is_free game leaves) (length (columns game leaves))). ap
          (λ (c : ℕ). (asked (is_free game leaves) (length (columns game leaves))
          (system_rows game leaves path) (row_of game leaves path
          (place (is_free game leaves) j))).coef c) e
          ∙ last_of (is_free game leaves) (length (columns game leaves))
          (system_rows game leaves path) (row_of game leaves path
          (place (is_free game leaves) j)) below form
          ∙ ap one_if (sign_weak game leaves path j h f))
          (λ (e : k ≢ place (is_free game leaves) (length (columns game leaves))). past_all below
          k (omega (arith, l, e)))
          (cases_eq k (place (is_free game leaves) (length (columns game leaves)))))
          (below_or k (place (is_free game leaves) (length (columns game leaves))))

  -- its multiplier and the column's extra aren't both listed
  pub sign_apart : (j : ℕ) → j < length (columns game leaves) → is_free game leaves j ≡ false
      → coef_at mult (row_of game leaves path (place (is_free game leaves) j)) ≢ pos 0
      → coef_at extra (place (is_free game leaves) j) ≡ pos 0
  sign_apart j h f apart =
      let free = is_free game leaves in
      let n = length (columns game leaves) in
      let s = (sign_at game leaves path j h f).0 in
      let c = row_count game leaves path in
      let k = lp_count free n (system_rows game leaves path) lp asks in
      let w = asks.width in
      let p = place_below free j n h in
      listed.apart (row_of game leaves path (place free j)) (place free j) (omega (arith, s, c, k))
      (omega (arith, w, p)) (sign_low j h f) apart

  module _ (columns_are : (c : ℕ) → c < place (is_free game leaves) (length (columns game leaves))
      → (weighed lp mult).coef c ≡ coef_at extra c) where
    -- a column with an extra is that of an unknown that is at least 0
    pub listed_column : (c : ℕ) → c < place (is_free game leaves) (length (columns game leaves))
        → coef_at extra c ≢ pos 0
        → (j : ℕ) × (j < length (columns game leaves)) × (is_free game leaves j ≡ false)
        × (c ≡ place (is_free game leaves) j)
    listed_column c h apart =
        let s = column_of (is_free game leaves) (length (columns game leaves)) c h in
        by s.0 (is_free game leaves s.0) refl s.1 s.2
      where
        by : (j : ℕ) (b : Bool) → is_free game leaves j ≡ b → j < length (columns game leaves)
            → ((c ≡ place (is_free game leaves) j)
            ⊎ ((is_free game leaves j ≡ true) × (c ≡ place (is_free game leaves) j + 1)))
            → (j : ℕ) × (j < length (columns game leaves)) × (is_free game leaves j ≡ false)
            × (c ≡ place (is_free game leaves) j)
        by j true e l which =
            let z = free_extras game leaves path lp asks form mult extra listed columns_are j l
            e in
            absurd (⊎_elim (λ (q : c ≡ place (is_free game leaves) j).
            apart (ap (coef_at extra) q ∙ z.0))
            (λ (q : (is_free game leaves j ≡ true) × (c ≡ place (is_free game leaves) j + 1)).
            apart (ap (coef_at extra) q.1 ∙ z.1)) which)
        by j false e l which =
            ⊎_elim (λ (q : c ≡ place (is_free game leaves) j). (j, l, e, q))
            (λ (q : (is_free game leaves j ≡ true) × (c ≡ place (is_free game leaves) j + 1)).
            absurd (let z : true ≡ false = sym q.0 ∙ e in cc)) which

    pub extras_rise : (k l : ℕ) → k < l
        → l < place (is_free game leaves) (length (columns game leaves))
        → coef_at extra k ≢ pos 0 → coef_at extra l ≢ pos 0
        → row_of game leaves path k < row_of game leaves path l
    extras_rise k l less below a b =
        let x = listed_column k (omega (arith, less, below)) a in
        let y = listed_column l below b in
        let e = x.3 in
        let f = y.3 in
        let order : x.0 < y.0 = ⊎_elim (λ (h : x.0 < y.0). h)
        (λ (h : y.0 ≤ x.0). absurd (⊎_elim
        (λ (q : y.0 ≡ x.0). let p = ap (place (is_free game leaves)) q in omega
        (arith, e, f, p, less))
        (λ (q : y.0 ≢ x.0). let p = place_below (is_free game leaves) y.0 x.0
        (omega (arith, h, q)) in
        omega (arith, e, f, p, less)) (cases_eq y.0 x.0))) (below_or x.0 y.0) in
        let r = rows_rise game leaves path x.0 y.0 order y.1 x.2 y.2 in
        let v = ap (row_of game leaves path) e in
        let w = ap (row_of game leaves path) f in
        omega (arith, r, v, w)

    pub extras_apart : (k : ℕ) → k < place (is_free game leaves) (length (columns game leaves))
        → coef_at extra k ≢ pos 0 → coef_at mult (row_of game leaves path k) ≡ pos 0
    extras_apart k h a =
        let x = listed_column k h a in
        ⊎_elim (λ (z : coef_at mult (row_of game leaves path k) ≡ pos 0). z)
        (λ (z : coef_at mult (row_of game leaves path k) ≢ pos 0).
        absurd (a (ap (coef_at extra) x.3 ∙ sign_apart x.0 x.1 x.2
        (λ q. z (ap (λ (c : ℕ). coef_at mult (row_of game leaves path c)) x.3 ∙ q)))))
        (zero_or (coef_at mult (row_of game leaves path k)))
