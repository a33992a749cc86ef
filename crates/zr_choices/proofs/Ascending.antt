-- A parted row's columns ascend.
use Rattle.std.proofs.Common.{◌≡◌, ◌≢◌, ℕ, ◌+◌, ◌≤◌, arith, refl, ap, ℤ, pos, neg_ℤ, Bool, true, false, if◌then◌else◌, [], ◌∷◌, ◌++◌, ⊎_elim, add-one}
use Rattle.std.proofs.lemmas.Bool.{cases_eq}
use Rattle.std.proofs.lemmas.Int.{ints}
use Rattle.zr_base.specs.Steps.{IsNarrow}
use Rattle.zr_base.specs.Terms.{Ascends, Terms}
use Rattle.zr_lin.specs.Ineqs.{IneqOf, IsIneq}
use Rattle.zr_choices.specs.Parted.{parted, parted_terms, place}
use Rattle.zr_choices.proofs.Places.{place_below, width}

lower : (low below n : ℕ) (ts : Terms) → low ≤ below → Ascends below n ts → Ascends low n ts
lower low below n [] h a = tt
lower low below n (t ∷ ts) h a = (omega (arith, a.0, h), a.1, a.2, a.3)

module _ (free : ℕ → Bool) where
  place_up : (k j : ℕ) → k ≤ j → place free k ≤ place free j
  place_up k j h = ⊎_elim (λ (e : k ≡ j). let p = ap (place free) e in omega (arith, p))
      (λ (c : k ≢ j). let b = place_below free k j (omega (arith, h, c)) in omega (arith, b))
      (cases_eq k j)

  one : (b : Bool) (k n low : ℕ) (a : ℤ) (rest : Terms) → IsNarrow a → low ≤ k → k + width b ≤ n
      → Ascends (k + width b) n rest → Ascends low n
      ((if b then (k, a) ∷ ((k + 1, neg_ℤ a) ∷ []) else (k, a) ∷ []) ++ rest)
  one true k n low a rest narrow l h r = (
    l,
    omega (arith, h),
    narrow,
    (
      omega arith,
      omega (arith, h),
      omega
          (arith, ints, narrow),
      lower (k + 1 + 1) (k + 2) n rest (omega arith) r,
    ),
  )
  one false k n low a rest narrow l h r = (l, omega (arith, h), narrow, r)

  join : (b : Bool) (k : ℕ) (a : ℤ) (xs ys : Terms)
      → ((if b then (k, a) ∷ ((k + 1, neg_ℤ a) ∷ []) else (k, a) ∷ []) ++ xs) ++ ys
      ≡ (if b then (k, a) ∷ ((k + 1, neg_ℤ a) ∷ []) else (k, a) ∷ []) ++ (xs ++ ys)
  join true k a xs ys = refl
  join false k a xs ys = refl

  parts_ascend : (low n : ℕ) (ts tail : Terms) → low ≤ n → Ascends low n ts
      → Ascends (place free n) (place free n + 1) tail
      → Ascends (place free low) (place free n + 1) (parted_terms free ts ++ tail)
  parts_ascend low n [] tail h a t =
      lower (place free low) (place free n) (place free n + 1) tail (place_up low n h) t
  parts_ascend low n (t ∷ ts) tail h a z =
      let rest = parts_ascend (t.0 + 1) n ts tail (omega (arith, a.1)) a.3 z in
      let next : place free (t.0 + 1) ≡ place free t.0 + width (free t.0) = rw add-one refl in
      let up = place_up (t.0 + 1) n (omega (arith, a.1)) in
      rw (join (free t.0) (place free t.0) t.1 (parted_terms free ts) tail)
      (one (free t.0) (place free t.0) (place free n + 1) (place free low) t.1
      (parted_terms free ts ++ tail) a.2 (place_up low t.0 a.0) (omega (arith, next, up))
      (rw next at rest))

  tail_ascends : (strict : Bool) (last : ℕ)
      → Ascends last (last + 1) (if strict then (last, pos 1) ∷ [] else [])
  tail_ascends true last = (omega arith, omega arith, omega (arith, ints), tt)
  tail_ascends false last = tt

  pub parted_ineq : (n : ℕ) (row : IneqOf) → IsIneq n row
      → IsIneq (place free n + 1) (parted free n row)
  parted_ineq n row is = (
    parts_ascend 0 n row.coef (if row.strict then (place free n, pos 1) ∷ [] else [])
        (omega arith) is.0 (tail_ascends row.strict (place free n)),
    is.1,
  )
