-- Which columns are the only ones of their variables.
use Rattle.std.proofs.Common.{◌≡◌, ◌≢◌, ℕ, zero, suc, ◌+◌, ◌<◌, ◌≤◌, arith, refl, sym, ap, ◌∙◌, ℤ, pos, negsuc, neg_ℤ, Bool, true, false, cond, Some, List, [], ◌∷◌, length, slice_get, slice_index_or, ◌⊎◌, inl, inr, ⊎_elim}
use Rattle.zr_game.specs.Players.{VarOf}
use Rattle.zr_asked.specs.Parts.{Part, is_from_zero, part_at, parts_from}
use Rattle.zr_branch.specs.Columns.{is_single, singles}

-- a column is the only one of its variable, or the variable has another one with the other sign
pub record ColumnIn (parts : List Part) (single : ℕ → Bool) (vars : List VarOf) (w c : ℕ) : Type 0 where
  pub place : ℕ
  pub var : VarOf
  pub found : slice_get vars place ≡ Some var
  pub is_var : (part_at parts c).0 ≡ w + place
  pub which : ((single c ≡ true) × (is_from_zero var.low ≡ true) × ((part_at parts c).1 ≡ pos 1))
      ⊎ ((single c ≡ false) × (is_from_zero var.low ≡ false) × (d : ℕ) × (d < length parts)
      × ((part_at parts d).0 ≡ (part_at parts c).0)
      × ((part_at parts d).1 ≡ neg_ℤ (part_at parts c).1))

abbrev single_at : Bool → List VarOf → ℕ → Bool
single_at b vars c =
    slice_index_or (cond b (true ∷ singles vars) (false ∷ false ∷ singles vars)) c false

abbrev own : Bool → ℕ → List Part → List Part
own b w rest = cond b ((w, pos 1) ∷ rest) ((w, pos 1) ∷ (w, negsuc 0) ∷ rest)

module _ (var : VarOf) (vars : List VarOf) (w : ℕ) (rest : List Part)
    (deeper : (c : ℕ) → c < length rest → ColumnIn rest (is_single vars) vars (suc w) c) where
  one_more : (c : ℕ) → c < length rest
      → ColumnIn ((w, pos 1) ∷ rest) (single_at true vars) (var ∷ vars) w (suc c)
  one_more c h =
      let r = deeper c h in
      let i = r.is_var in
      record {
        place = suc r.place;
        var = r.var;
        found = r.found;
        is_var = omega (arith, i);
        which = ⊎_elim (λ (s : (is_single vars c ≡ true) × (is_from_zero r.var.low ≡ true)
            × ((part_at rest c).1 ≡ pos 1)). inl s)
            (λ (s : (is_single vars c ≡ false) × (is_from_zero r.var.low ≡ false) × (d : ℕ)
            × (d < length rest)
            × ((part_at rest d).0 ≡ (part_at rest c).0)
            × ((part_at rest d).1 ≡ neg_ℤ (part_at rest c).1)).
            let l = s.3 in inr (s.0, s.1, suc s.2, omega (arith, l), s.4, s.5)) r.which;
      }

  two_more : (c : ℕ) → c < length rest
      → ColumnIn ((w, pos 1) ∷ (w, negsuc 0) ∷ rest) (single_at false vars) (var ∷ vars) w (suc (suc c))
  two_more c h =
      let r = deeper c h in
      let i = r.is_var in
      record {
        place = suc r.place;
        var = r.var;
        found = r.found;
        is_var = omega (arith, i);
        which = ⊎_elim (λ (s : (is_single vars c ≡ true) × (is_from_zero r.var.low ≡ true)
            × ((part_at rest c).1 ≡ pos 1)). inl s)
            (λ (s : (is_single vars c ≡ false) × (is_from_zero r.var.low ≡ false) × (d : ℕ)
            × (d < length rest)
            × ((part_at rest d).0 ≡ (part_at rest c).0)
            × ((part_at rest d).1 ≡ neg_ℤ (part_at rest c).1)).
            let l = s.3 in inr (s.0, s.1, suc (suc s.2), omega (arith, l), s.4, s.5)) r.which;
      }

  by_kind : (b : Bool) → is_from_zero var.low ≡ b → (c : ℕ) → c < length (own b w rest)
      → ColumnIn (own b w rest) (single_at b vars) (var ∷ vars) w c
  by_kind true e zero h = record {
    place = 0;
    var = var;
    found = refl;
    is_var = omega arith;
    which = inl (refl, e, refl);
  }
  by_kind true e (suc c) h = one_more c (omega (arith, h))
  by_kind false e zero h = record {
    place = 0;
    var = var;
    found = refl;
    is_var = omega arith;
    which = inr (refl, e, 1, omega arith, refl, refl);
  }
  by_kind false e (suc zero) h = record {
    place = 0;
    var = var;
    found = refl;
    is_var = omega arith;
    which = inr (refl, e, 0, omega arith, refl, refl);
  }
  by_kind false e (suc (suc c)) h = two_more c (omega (arith, h))

pub column_in : (w : ℕ) (vars : List VarOf) (c : ℕ) → c < length (parts_from w vars)
    → ColumnIn (parts_from w vars) (is_single vars) vars w c
column_in w [] c h = absurd (omega (arith, h))
column_in w (var ∷ vars) c h =
    by_kind var vars w (parts_from (suc w) vars) (λ d k. column_in (suc w) vars d k)
    (is_from_zero var.low) refl c h

above : (w : ℕ) (vars : List VarOf) (c : ℕ) → c < length (parts_from w vars)
    → w ≤ (part_at (parts_from w vars) c).0
above w vars c h = let i = (column_in w vars c h).is_var in omega (arith, i)

-- the variables of columns rise, where one of the two is single
module _ (vars : List VarOf) (w : ℕ) (rest : List Part)
    (up : (c : ℕ) → c < length rest → suc w ≤ (part_at rest c).0)
    (deeper : (c d : ℕ) → c < d → d < length rest
    → (is_single vars c ≡ true) ⊎ (is_single vars d ≡ true)
    → (part_at rest c).0 < (part_at rest d).0) where
  rise_by : (b : Bool) (c d : ℕ) → c < d → d < length (own b w rest)
      → (single_at b vars c ≡ true) ⊎ (single_at b vars d ≡ true)
      → (part_at (own b w rest) c).0 < (part_at (own b w rest) d).0
  rise_by true c zero h l s = absurd (omega (arith, h))
  rise_by true zero (suc d) h l s = let u = up d (omega (arith, l)) in omega (arith, u)
  rise_by true (suc c) (suc d) h l s = deeper c d (omega (arith, h)) (omega (arith, l)) s
  rise_by false c zero h l s = absurd (omega (arith, h))
  rise_by false zero (suc zero) h l s =
      absurd (⊎_elim (λ (e : false ≡ true). cc) (λ (e : false ≡ true). cc) s)
  rise_by false (suc c) (suc zero) h l s = absurd (omega (arith, h))
  rise_by false zero (suc (suc d)) h l s = let u = up d (omega (arith, l)) in omega (arith, u)
  rise_by false (suc zero) (suc (suc d)) h l s = let u = up d (omega (arith, l)) in omega (arith, u)
  rise_by false (suc (suc c)) (suc (suc d)) h l s =
      deeper c d (omega (arith, h)) (omega (arith, l)) s

pub vars_rise : (w : ℕ) (vars : List VarOf) (c d : ℕ) → c < d → d < length (parts_from w vars)
    → (is_single vars c ≡ true) ⊎ (is_single vars d ≡ true)
    → (part_at (parts_from w vars) c).0 < (part_at (parts_from w vars) d).0
vars_rise w [] c d h l s = absurd (omega (arith, l))
vars_rise w (var ∷ vars) c d h l s =
    rise_by vars w (parts_from (suc w) vars) (λ k m. above (suc w) vars k m)
    (λ a b g m t. vars_rise (suc w) vars a b g m t) (is_from_zero var.low) c d h l s

-- the first column of each variable
abbrev FirstOf : List Part → ℕ → Type 0
FirstOf parts v = (c : ℕ) × (c < length parts) × (part_at parts c ≡ (v, pos 1))

first_by : (b : Bool) (w v : ℕ) (rest : List Part) → FirstOf rest v → FirstOf (own b w rest) v
first_by true w v rest f = (suc f.0, (let l = f.1 in omega (arith, l)), f.2)
first_by false w v rest f = (suc (suc f.0), (let l = f.1 in omega (arith, l)), f.2)

own_first : (b : Bool) (w : ℕ) (rest : List Part) → FirstOf (own b w rest) w
own_first true w rest = (0, omega arith, refl)
own_first false w rest = (0, omega arith, refl)

pub first_of : (w : ℕ) (vars : List VarOf) (j : ℕ) → j < length vars
    → FirstOf (parts_from w vars) (w + j)
first_of w [] j h = absurd (omega (arith, h))
first_of w (var ∷ vars) zero h =
    let e : w ≡ w + 0 = omega arith in
    let f = own_first (is_from_zero var.low) w (parts_from (suc w) vars) in
    (f.0, f.1, f.2 ∙ ap (λ (n : ℕ). (n, pos 1)) e)
first_of w (var ∷ vars) (suc j) h =
    let e : suc w + j ≡ w + suc j = omega arith in
    let f = first_by (is_from_zero var.low) w (suc w + j) (parts_from (suc w) vars)
    (first_of (suc w) vars j (omega (arith, h))) in
    (f.0, f.1, f.2 ∙ ap (λ (n : ℕ). (n, pos 1)) e)
