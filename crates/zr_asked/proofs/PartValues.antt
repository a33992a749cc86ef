-- Each point whose values keep lower bounds of at least 0 has columns that are at least 0.
use Rattle.std.proofs.Common.{◌≡◌, ◌≢◌, ℕ, suc, ◌+◌, ◌<◌, ◌≤◌, ◌==◌, arith, refl, sym, ap, ap₂, ◌∙◌, ℤ, pos, negsuc, neg_ℤ, ◌+ℤ◌, ◌*ℤ◌, ◌≤ℤ◌, int_le, Bool, true, false, cond, List, [], ◌∷◌, length, ⊎_elim}
use Rattle.std.proofs.lemmas.Int.{ints}
use Rattle.std.proofs.lemmas.Bool.{cases_eq}
use Rattle.std.proofs.lemmas.Bool.Decides.{nat_tests}
use Rattle.zr_game.specs.Players.{VarOf}
use Rattle.zr_asked.specs.Parts.{Part, is_from_zero, part_at, parts_from, parts_of, value_by, value_from}

-- z where it is at least 0, and else 0
abbrev pub clip : ℤ → ℤ
clip z = cond (int_le (pos 0) z) z (pos 0)

pub clip_up : (z : ℤ) → (pos 0) ≤ℤ clip z
clip_up z = which (int_le (pos 0) z) refl
  where
    which : (b : Bool) → int_le (pos 0) z ≡ b → (pos 0) ≤ℤ cond b z (pos 0)
    which true e = omega (arith, ints, e)
    which false e = omega (arith, ints)

clip_is : (z : ℤ) → (pos 0) ≤ℤ z → clip z ≡ z
clip_is z h = which (int_le (pos 0) z) refl
  where
    which : (b : Bool) → int_le (pos 0) z ≡ b → cond b z (pos 0) ≡ z
    which true e = refl
    which false e = absurd (omega (arith, ints, e, h))

clip_none : (z : ℤ) → z ≤ℤ (pos 0) → clip z ≡ pos 0
clip_none z h = which (int_le (pos 0) z) refl
  where
    which : (b : Bool) → int_le (pos 0) z ≡ b → cond b z (pos 0) ≡ pos 0
    which true e = omega (arith, ints, e, h)
    which false e = refl

one_times : (z : ℤ) → pos 1 *ℤ z ≡ z
one_times z = omega (arith, ints)

minus_times : (z : ℤ) → negsuc 0 *ℤ z ≡ neg_ℤ z
minus_times z = omega (arith, ints)

-- the positive part less the negative part
both_parts : (z : ℤ) → clip z +ℤ neg_ℤ (clip (neg_ℤ z)) ≡ z
both_parts z = which (int_le (pos 0) z) refl
  where
    which : (b : Bool) → int_le (pos 0) z ≡ b → clip z +ℤ neg_ℤ (clip (neg_ℤ z)) ≡ z
    which true e =
        let a = clip_is z (omega (arith, ints, e)) in
        let n = clip_none (neg_ℤ z) (omega (arith, ints, e)) in
        omega (arith, ints, a, n)
    which false e =
        let a = clip_none z (omega (arith, ints, e)) in
        let n = clip_is (neg_ℤ z) (omega (arith, ints, e)) in
        omega (arith, ints, a, n)

module _ (x : ℕ → ℤ) where
  -- the number of a column
  abbrev pub part_number : Part → ℤ
  part_number part = clip (part.1 *ℤ x part.0)

  abbrev pub clipped : List Part → ℕ → ℤ
  clipped parts c = part_number (part_at parts c)

  -- what a list's columns give
  abbrev clip_from : List Part → ℕ → ℤ
  clip_from [] v = pos 0
  clip_from (part ∷ parts) v =
      cond (part.0 == v) (part.1 *ℤ part_number part) (pos 0) +ℤ clip_from parts v

  by_places : (c : ℕ) (parts : List Part) (y : ℕ → ℤ) (v : ℕ)
      → ((k : ℕ) → k < length parts → y (c + k) ≡ clipped parts k)
      → value_from c parts y v ≡ clip_from parts v
  by_places c [] y v same = refl
  by_places c (part ∷ parts) y v same =
      let here : c + 0 ≡ c = omega arith in
      let e : y c ≡ part_number part = ap y (sym here) ∙ same 0 (omega arith) in
      ap₂ (λ (a b : ℤ). cond (part.0 == v) (part.1 *ℤ a) (pos 0) +ℤ b) e
      (by_places (suc c) parts y v
      (λ k h. let next : suc c + k ≡ c + suc k = omega arith in
      ap y next ∙ same (suc k) (omega (arith, h))))

  hit : (w v : ℕ) (a : ℤ) → w ≡ v → cond (w == v) a (pos 0) ≡ a
  hit w v a e = let t : (w == v) ≡ true = grind (arith, nat_tests) in rw t refl

  miss : (w v : ℕ) (a : ℤ) → w ≢ v → cond (w == v) a (pos 0) ≡ pos 0
  miss w v a e = let t : (w == v) ≡ false = grind (arith, nat_tests) in rw t refl

  module _ (w : ℕ) (from_zero : Bool) (up : from_zero ≡ true → (pos 0) ≤ℤ x w) (rest : List Part) where
    abbrev these : Bool → List Part
    these b = cond b ((w, pos 1) ∷ rest) ((w, pos 1) ∷ (w, negsuc 0) ∷ rest)

    apart : (b : Bool) (v : ℕ) → w ≢ v → clip_from (these b) v ≡ clip_from rest v
    apart true v e =
        let m = miss w v (pos 1 *ℤ part_number (w, pos 1)) e in
        omega (arith, ints, m)
    apart false v e =
        let m = miss w v (pos 1 *ℤ part_number (w, pos 1)) e in
        let n = miss w v (negsuc 0 *ℤ part_number (w, negsuc 0)) e in
        omega (arith, ints, m, n)

    positive : pos 1 *ℤ part_number (w, pos 1) ≡ clip (x w)
    positive = one_times (part_number (w, pos 1)) ∙ ap clip (one_times (x w))

    negative : negsuc 0 *ℤ part_number (w, negsuc 0) ≡ neg_ℤ (clip (neg_ℤ (x w)))
    negative =
        minus_times (part_number (w, negsuc 0)) ∙
        ap (λ (z : ℤ). neg_ℤ (clip z)) (minus_times (x w))

    here : (b : Bool) → from_zero ≡ b → (v : ℕ) → w ≡ v → clip_from rest v ≡ pos 0
        → clip_from (these b) v ≡ x v
    here true f v e none =
        let m = hit w v (pos 1 *ℤ part_number (w, pos 1)) e in
        let c = clip_is (x w) (up f) in
        let same = ap x e in
        omega (arith, ints, m, positive, c, none, same)
    here false f v e none =
        let m = hit w v (pos 1 *ℤ part_number (w, pos 1)) e in
        let n = hit w v (negsuc 0 *ℤ part_number (w, negsuc 0)) e in
        let b = both_parts (x w) in
        let same = ap x e in
        omega (arith, ints, m, n, positive, negative, b, none, same)

  -- the values of variables whose lower bound is at least 0 are so
  abbrev pub AreUp : ℕ → List VarOf → Type 0
  AreUp w [] = Unit {0}
  AreUp w (var ∷ vars) = (is_from_zero var.low ≡ true → (pos 0) ≤ℤ x w) × AreUp (suc w) vars

  before : (w : ℕ) (vars : List VarOf) (v : ℕ) → AreUp w vars → v < w
      → clip_from (parts_from w vars) v ≡ pos 0
  before w [] v up h = refl
  before w (var ∷ vars) v up h =
      apart w (is_from_zero var.low) up.0 (parts_from (suc w) vars) (is_from_zero var.low) v
      (omega (arith, h)) ∙ before (suc w) vars v up.1 (omega (arith, h))

  among : (w : ℕ) (vars : List VarOf) (v : ℕ) → AreUp w vars → w ≤ v → v < w + length vars
      → clip_from (parts_from w vars) v ≡ x v
  among w [] v up l h = absurd (omega (arith, l, h))
  among w (var ∷ vars) v up l h =
      ⊎_elim (λ (e : w ≡ v). here w (is_from_zero var.low) up.0 (parts_from (suc w) vars)
      (is_from_zero var.low) refl v e (before (suc w) vars v up.1 (omega (arith, e))))
      (λ (e : w ≢ v). apart w (is_from_zero var.low) up.0 (parts_from (suc w) vars)
      (is_from_zero var.low) v e ∙
      among (suc w) vars v up.1 (omega (arith, l, e)) (omega (arith, h)))
      (cases_eq w v)

  pub clipped_values : (vars : List VarOf) → AreUp 0 vars → (v : ℕ) → v < length vars
      → x v ≡ value_by (parts_of vars) (clipped (parts_of vars)) v
  clipped_values vars up v h =
      sym (by_places 0 (parts_of vars) (clipped (parts_of vars)) v
      (λ k l. let e : 0 + k ≡ k = omega arith in ap (clipped (parts_of vars)) e) ∙
      among 0 vars v up (omega arith) (omega (arith, h)))
