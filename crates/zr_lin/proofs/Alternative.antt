-- Elimination, column by column: rows have a solution, or their sums have a contradiction.
use Rattle.std.proofs.Common.{◌≡◌, ◌≢◌, ℕ, zero, suc, ◌<◌, ◌≤◌, arith, refl, sym, subst, ℤ, pos, neg_ℤ, ◌+ℤ◌, ◌*ℤ◌, ◌≤ℤ◌, ◌<ℤ◌, unsigned_abs, Bool, true, false, List, [], ◌∷◌, ◌++◌, map, ◌⊎◌, ⊎_elim, inl, inr}
use Rattle.std.proofs.lemmas.Int.{ints, by_lt_z}
use Rattle.zr_base.proofs.Ring.{spread}
use Rattle.std.proofs.lemmas.Bool.{cases_eq}
use Rattle.zr_base.proofs.Divisors.{mul_positive}
use Rattle.zr_lin.specs.DenseRows.{DenseRow, IsBelow}
use Rattle.zr_lin.proofs.Below.{below_gap, below-mul_right}
use Rattle.zr_lin.proofs.OneColumn.{MeetsAt, LeavesRoom, Flat, one_column, by_sign}
use Rattle.zr_base.proofs.Worth.{Each}
use Rattle.zr_lin.proofs.Members.{Has, each_join, each_front, each_back, has_map, each_map}
use Rattle.zr_lin.proofs.Elimination.{Derived, IsDerived, IsDerived-mixed, value, Meets, bound, paired, room_of, extended, meets_extended}

-- the right side can't be met by 0
abbrev pub IsNegative : Derived → Type 0
IsNegative r = (r.le <ℤ (pos 0)) ⊎ ((r.le ≡ pos 0) × (r.strict ≡ true))

-- a row that holds at the denominator 1 holds at each
widened : (r : Derived) → IsBelow r.strict (pos 0) r.le → (d : ℤ) → (pos 0) <ℤ d → IsBelow r.strict (pos 0) (r.le *ℤ d)
widened r h d positive =
    let z : pos 0 *ℤ d ≡ pos 0 = omega (arith, ints) in
    rw z at (below-mul_right r.strict (pos 0) r.le d positive h)

flat_of : (n : ℕ) (p : ℕ → ℤ) (d : ℤ) (r : Derived) → (r.coef n ≡ pos 0 → Meets n p d r) → Flat (bound n p d r)
flat_of n p d r meets z = below_gap r.strict (value n p r) (r.le *ℤ d) (meets z)

opposite : (a b : ℤ) → neg_ℤ a *ℤ b +ℤ b *ℤ a ≡ pos 0
opposite a b = simp spread (omega (arith, ints))

<ℤ_zero : (z : ℤ) → (pos 0) <ℤ z → z ≡ pos 0 → ⊥
<ℤ_zero z h e = omega (arith, ints)

zero_<ℤ : (z : ℤ) → z <ℤ (pos 0) → z ≡ pos 0 → ⊥
zero_<ℤ z h e = omega (arith, ints)

clash : (z : ℤ) → (pos 0) ≤ℤ z → z <ℤ (pos 0) → ⊥
clash z h k = omega (arith, ints)

clash_above : (z : ℤ) → z ≤ℤ (pos 0) → (pos 0) <ℤ z → ⊥
clash_above z h k = omega (arith, ints)

module _ (count : ℕ) (row : ℕ → DenseRow) (columns : ℕ) where
  -- made of the rows, and zero from column n on
  abbrev pub Good : ℕ → Derived → Type 0
  Good n r = IsDerived count row r × ((j : ℕ) → n ≤ j → j < columns → r.coef j ≡ pos 0)

  abbrev pub Solution : ℕ → List Derived → Type 0
  Solution n ts = (p : ℕ → ℤ) × (d : ℤ) × ((pos 0) <ℤ d) × Each (Meets n p d) ts

  abbrev pub Refutation : Type 0
  Refutation = (r : Derived) × IsDerived count row r × ((j : ℕ) → j < columns → r.coef j ≡ pos 0) × IsNegative r

  -- a row that stays good where its last coefficient is 0
  lowered : (n : ℕ) (r : Derived) → Good (suc n) r → r.coef n ≡ pos 0 → Good n r
  lowered n r good z = (good.0, λ j p q. ⊎_elim (λ (e : j ≡ n). rw e z) (λ (a : j ≢ n). good.1 j (omega arith) q) (cases_eq j n))

  paired_good : (n : ℕ) (u l : Derived) → Good (suc n) u → Good (suc n) l → (pos 0) <ℤ u.coef n → l.coef n <ℤ (pos 0) → Good n (paired n u l)
  paired_good n u l hu hl above below =
      let a : 0 < unsigned_abs (l.coef n) = omega (arith, ints, below) in
      let b : 0 < unsigned_abs (u.coef n) = omega (arith, ints, above) in
      let a_is : pos (unsigned_abs (l.coef n)) ≡ neg_ℤ (l.coef n) = omega (arith, ints, below) in
      let b_is : pos (unsigned_abs (u.coef n)) ≡ u.coef n = omega (arith, ints, above) in
      let here : (paired n u l).coef n ≡ pos 0 = rw (a_is, b_is) (opposite (l.coef n) (u.coef n)) in
      (IsDerived-mixed count row (unsigned_abs (l.coef n)) (unsigned_abs (u.coef n)) u l a b hu.0 hl.0, λ j p q. ⊎_elim (λ (e : j ≡ n). rw e here) (λ (c : j ≢ n). rw (hu.1 j (omega arith) q, hl.1 j (omega arith) q) (omega (arith, ints))) (cases_eq j n))

  -- the rows without column n
  abbrev Flats : ℕ → List Derived → Type 0
  Flats n ts = (out : List Derived) × Each (Good n) out × ((p : ℕ → ℤ) (d : ℤ) → Each (Meets n p d) out → (t : Derived) → Has ts t → t.coef n ≡ pos 0 → Meets n p d t)

  flats : (n : ℕ) (ts : List Derived) → Each (Good (suc n)) ts → Flats n ts
  flats n [] good = ([], tt, λ p d h t has z. absurd has)
  flats n (r ∷ rs) good = chosen (flats n rs good.1)
    where
      chosen : Flats n rs → Flats n (r ∷ rs)
      chosen rest = by_sign (Flats n (r ∷ rs)) (r.coef n) (λ above. (rest.0, rest.1, λ p d h t has z. ⊎_elim (λ (e : r ≡ t). absurd (<ℤ_zero (r.coef n) above (rw e z))) (λ (k : Has rs t). rest.2 p d h t k z) has)) (λ below. (rest.0, rest.1, λ p d h t has z. ⊎_elim (λ (e : r ≡ t). absurd (zero_<ℤ (r.coef n) below (rw e z))) (λ (k : Has rs t). rest.2 p d h t k z) has)) (λ even. (r ∷ rest.0, (lowered n r good.0 even, rest.1), λ p d h t has z. ⊎_elim (λ (e : r ≡ t). subst (λ s. Meets n p d s) e h.0) (λ (k : Has rs t). rest.2 p d h.1 t k z) has))

  -- the rows that u leaves with each row of ls
  abbrev Pairs : ℕ → Derived → List Derived → Type 0
  Pairs n u ls = (out : List Derived) × Each (Good n) out × ((p : ℕ → ℤ) (d : ℤ) → Each (Meets n p d) out → (l : Derived) → Has ls l → l.coef n <ℤ (pos 0) → Meets n p d (paired n u l))

  pairs : (n : ℕ) (u : Derived) → (pos 0) <ℤ u.coef n → Good (suc n) u → (ls : List Derived) → Each (Good (suc n)) ls → Pairs n u ls
  pairs n u above hu [] good = ([], tt, λ p d h l has b. absurd has)
  pairs n u above hu (r ∷ rs) good = chosen (pairs n u above hu rs good.1)
    where
      chosen : Pairs n u rs → Pairs n u (r ∷ rs)
      chosen rest = by_lt_z {P = Pairs n u (r ∷ rs)} (r.coef n) (pos 0) (λ below. (paired n u r ∷ rest.0, (paired_good n u r hu good.0 above below, rest.1), λ p d h l has b. ⊎_elim (λ (e : r ≡ l). subst (λ s. Meets n p d (paired n u s)) e h.0) (λ (k : Has rs l). rest.2 p d h.1 l k b) has)) (λ least. (rest.0, rest.1, λ p d h l has b. ⊎_elim (λ (e : r ≡ l). absurd (clash (r.coef n) least (subst (λ s. s.coef n <ℤ (pos 0)) (sym e) b))) (λ (k : Has rs l). rest.2 p d h l k b) has))

  abbrev AllPairs : ℕ → List Derived → List Derived → Type 0
  AllPairs n us ls = (out : List Derived) × Each (Good n) out × ((p : ℕ → ℤ) (d : ℤ) → Each (Meets n p d) out → (u l : Derived) → Has us u → Has ls l → (pos 0) <ℤ u.coef n → l.coef n <ℤ (pos 0) → Meets n p d (paired n u l))

  all_pairs : (n : ℕ) (us ls : List Derived) → Each (Good (suc n)) us → Each (Good (suc n)) ls → AllPairs n us ls
  all_pairs n [] ls hu hl = ([], tt, λ p d h u l has. absurd has)
  all_pairs n (r ∷ rs) ls hu hl = chosen (all_pairs n rs ls hu.1 hl)
    where
      chosen : AllPairs n rs ls → AllPairs n (r ∷ rs) ls
      chosen rest = by_lt_z {P = AllPairs n (r ∷ rs) ls} (pos 0) (r.coef n) (λ above. let mine = pairs n r above hu.0 ls hl in (mine.0 ++ rest.0, each_join (Good n) mine.0 rest.0 mine.1 rest.1, λ p d h u l has hasl a b. ⊎_elim (λ (e : r ≡ u). subst (λ s. Meets n p d (paired n s l)) e (mine.2 p d (each_front (Meets n p d) mine.0 rest.0 h) l hasl b)) (λ (k : Has rs u). rest.2 p d (each_back (Meets n p d) mine.0 rest.0 h) u l k hasl a b) has)) (λ most. (rest.0, rest.1, λ p d h u l has hasl a b. ⊎_elim (λ (e : r ≡ u). absurd (clash_above (r.coef n) most (subst (λ s. (pos 0) <ℤ s.coef n) (sym e) a))) (λ (k : Has rs u). rest.2 p d h u l k hasl a b) has))

  -- with no column left, each row holds or is a refutation
  no_column : (ts : List Derived) → Each (Good 0) ts → Solution 0 ts ⊎ Refutation
  no_column [] good = inl ((λ j. pos 0), pos 1, omega (arith, ints), tt)
  no_column (r ∷ rs) good = chosen (no_column rs good.1)
    where
      refuted : IsNegative r → Refutation
      refuted negative = (r, good.0.0, (λ j h. good.0.1 j (omega arith) h), negative)

      tested : (s : Bool) → r.strict ≡ s → IsNegative r ⊎ IsBelow s (pos 0) r.le
      tested true e = by_sign (IsNegative r ⊎ IsBelow true (pos 0) r.le) r.le (λ above. inr (omega (arith, ints, above))) (λ below. inl (inl below)) (λ even. inl (inr (even, e)))
      tested false e = by_sign (IsNegative r ⊎ IsBelow false (pos 0) r.le) r.le (λ above. inr (omega (arith, ints, above))) (λ below. inl (inl below)) (λ even. inr (omega (arith, ints, even)))

      chosen : Solution 0 rs ⊎ Refutation → Solution 0 (r ∷ rs) ⊎ Refutation
      chosen (inr bad) = inr bad
      chosen (inl good_rest) = ⊎_elim (λ (negative : IsNegative r). inr (refuted negative)) (λ (fine : IsBelow r.strict (pos 0) r.le). inl (good_rest.0, good_rest.1, good_rest.2, (widened r fine good_rest.1 good_rest.2, good_rest.3))) (tested r.strict refl)

  pub decide : (n : ℕ) (ts : List Derived) → Each (Good n) ts → Solution n ts ⊎ Refutation
  decide zero ts good = no_column ts good
  decide (suc n) ts good =
      let f = flats n ts good in
      let a = all_pairs n ts ts good good in
      lifted f a (decide n (f.0 ++ a.0) (each_join (Good n) f.0 a.0 f.1 a.1))
    where
      lifted : (f : Flats n ts) (a : AllPairs n ts ts) → Solution n (f.0 ++ a.0) ⊎ Refutation → Solution (suc n) ts ⊎ Refutation
      lifted f a (inr bad) = inr bad
      lifted f a (inl s) =
          let hf = each_front (Meets n s.0 s.1) f.0 a.0 s.3 in
          let ha = each_back (Meets n s.0 s.1) f.0 a.0 s.3 in
          let o = one_column (map (bound n s.0 s.1) ts) (λ b has. let m = has_map (bound n s.0 s.1) ts b has in subst Flat m.2 (flat_of n s.0 s.1 m.0 (f.2 s.0 s.1 hf m.0 m.1))) (λ u l hu hl. let m = has_map (bound n s.0 s.1) ts u hu in let k = has_map (bound n s.0 s.1) ts l hl in subst (λ x. LeavesRoom x l) m.2 (subst (λ y. LeavesRoom (bound n s.0 s.1 m.0) y) k.2 (room_of n s.0 s.1 m.0 k.0 (a.2 s.0 s.1 ha m.0 k.0 m.1 k.1)))) in
          inl (extended n s.0 o.0 o.1, s.1 *ℤ o.1, mul_positive s.1 o.1 s.2 o.2, each_map (bound n s.0 s.1) (MeetsAt o.0 o.1) (Meets (suc n) (extended n s.0 o.0 o.1) (s.1 *ℤ o.1)) ts (λ t h. meets_extended n s.0 s.1 o.0 o.1 t h) o.3)
