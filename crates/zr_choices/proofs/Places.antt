-- The columns of unknowns are apart.
use Rattle.std.proofs.Common.{◌≡◌, ◌≢◌, ℕ, zero, suc, ◌+◌, ◌*◌, ◌<◌, ◌≤◌, arith, refl, ap, Bool, true, false, if◌then◌else◌, ◌⊎◌, ⊎_elim, inl, inr}
use Rattle.std.proofs.lemmas.Bool.{cases_eq}
use Rattle.zr_choices.specs.Parted.{place}

-- how many columns an unknown has
abbrev pub width : Bool → ℕ
width b = if b then 2 else 1

pub width_from : (b : Bool) → 1 ≤ width b
width_from true = omega arith
width_from false = omega arith

width_to : (b : Bool) → width b ≤ 2
width_to true = omega arith
width_to false = omega arith

module _ (free : ℕ → Bool) where
  pub place_next : (k j : ℕ) → k < j → place free k + width (free k) ≤ place free j
  place_next k zero h = absurd (omega arith)
  place_next k (suc j) h = ⊎_elim (λ (e : k ≡ j). here e)
      (λ (a : k ≢ j). later (place_next k j (omega arith))) (cases_eq k j)
    where
      here : k ≡ j → place free k + width (free k) ≤ place free (suc j)
      here e = rw e (omega arith)

      later : place free k + width (free k) ≤ place free j
          → place free k + width (free k) ≤ place free (suc j)
      later r = omega (arith, r)

  pub place_below : (k j : ℕ) → k < j → place free k < place free j
  place_below k j h = let n = place_next k j h in let w = width_from (free k) in omega
      (arith, n, w)

  pub second_below : (k j : ℕ) → k < j → free k ≡ true → place free k + 1 < place free j
  second_below k j h f =
      let n = place_next k j h in
      let w : width (free k) ≡ 2 = rw f refl in
      omega (arith, n, w)

  pub place_apart : (k j : ℕ) → k ≢ j → place free k ≢ place free j
  place_apart k j a e = ⊎_elim (λ (h : k < j). let b = place_below k j h in omega (arith, b, e))
      (λ (h : j < k). let b = place_below j k h in omega (arith, b, e)) (which k j a)
    where
      which : (k j : ℕ) → k ≢ j → (k < j) ⊎ (j < k)
      which zero zero a = absurd (a refl)
      which zero (suc j) a = inl (omega arith)
      which (suc k) zero a = inr (omega arith)
      which (suc k) (suc j) a = ⊎_elim (λ (h : k < j). inl (omega (arith, h)))
          (λ (h : j < k). inr (omega (arith, h))) (which k j (λ e. a (ap suc e)))

  -- a free unknown's second column is no other one's first
  pub second_apart : (k j : ℕ) → free k ≡ true → place free k + 1 ≢ place free j
  second_apart k j f e = ⊎_elim (λ (s : k ≡ j). let p = ap (place free) s in omega (arith, e, p))
      (λ (a : k ≢ j). ⊎_elim (λ (h : k < j). let b = second_below k j h f in omega (arith, b, e))
      (λ (h : j < k). let b = place_below j k h in omega (arith, b, e)) (order k j a))
      (cases_eq k j)
    where
      order : (k j : ℕ) → k ≢ j → (k < j) ⊎ (j < k)
      order zero zero a = absurd (a refl)
      order zero (suc j) a = inl (omega arith)
      order (suc k) zero a = inr (omega arith)
      order (suc k) (suc j) a = ⊎_elim (λ (h : k < j). inl (omega (arith, h)))
          (λ (h : j < k). inr (omega (arith, h))) (order k j (λ e. a (ap suc e)))

pub place_small : (free : ℕ → Bool) (j : ℕ) → place free j ≤ 2 * j
place_small free zero = omega arith
place_small free (suc j) = let r = place_small free j in let w = width_to (free j) in omega
    (arith, r, w)
