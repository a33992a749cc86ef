-- Sums over a program's columns, unknown by unknown.
use Rattle.std.proofs.Common.{◌≡◌, ◌≢◌, ℕ, zero, suc, ◌+◌, ◌<◌, arith, refl, ap, ◌∙◌, ℤ, ◌+ℤ◌, Bool, true, false, if◌then◌else◌, ◌⊎◌, inl, inr, ⊎_elim}
use Rattle.std.proofs.lemmas.Bool.{cases_eq}
use Rattle.std.proofs.lemmas.Int.{ints}
use Rattle.zr_base.specs.Sums.{sum_to}
use Rattle.zr_choices.specs.Parted.{place}

-- what one unknown's columns add
abbrev pub own_sum : Bool → ℕ → (ℕ → ℤ) → ℤ
own_sum b c g = if b then g c +ℤ g (c + 1) else g c

module _ (free : ℕ → Bool) where
  two_more : (k : ℕ) (g : ℕ → ℤ) → sum_to (k + 2) g ≡ sum_to k g +ℤ (g k +ℤ g (k + 1))
  two_more k g =
      let e : k + 2 ≡ suc (suc k) = omega arith in
      let f : suc k ≡ k + 1 = omega arith in
      let a = ap (λ (m : ℕ). sum_to m g) e in
      let b = ap g f in
      omega (arith, ints, a, b)

  one_more : (k : ℕ) (g : ℕ → ℤ) → sum_to (k + 1) g ≡ sum_to k g +ℤ g k
  one_more k g =
      let e : k + 1 ≡ suc k = omega arith in ap (λ (m : ℕ). sum_to m g) e

  pub sum_columns : (n : ℕ) (g : ℕ → ℤ)
      → sum_to (place free n) g ≡ sum_to n (λ j. own_sum (free j) (place free j) g)
  sum_columns zero g = refl
  sum_columns (suc n) g = by (free n) ∙ ap (λ z. z +ℤ own_sum (free n) (place free n) g)
      (sum_columns n g)
    where
      by : (b : Bool) → sum_to (place free n + (if b then 2 else 1)) g
          ≡ sum_to (place free n) g +ℤ own_sum b (place free n) g
      by true = two_more (place free n) g
      by false = one_more (place free n) g

  -- each column is an unknown's first or second one
  pub column_of : (n c : ℕ) → c < place free n
      → (j : ℕ) × (j < n) × ((c ≡ place free j) ⊎ ((free j ≡ true) × (c ≡ place free j + 1)))
  column_of zero c h = absurd (omega (arith, h))
  column_of (suc n) c h = by (free n) refl h (column_of n c)
    where
      earlier : (j : ℕ) × (j < n) × ((c ≡ place free j)
          ⊎ ((free j ≡ true) × (c ≡ place free j + 1)))
          → (j : ℕ) × (j < suc n) × ((c ≡ place free j)
          ⊎ ((free j ≡ true) × (c ≡ place free j + 1)))
      earlier r = let a = r.1 in (r.0, omega (arith, a), r.2)

      below_or_at : (k : ℕ) → c < k + 1 → (c < k) ⊎ (c ≡ k)
      below_or_at k q =
          ⊎_elim (λ (e : c ≡ k). inr e) (λ (a : c ≢ k). inl (omega (arith, q, a))) (cases_eq c k)

      here : c ≡ place free n
          → (j : ℕ) × (j < suc n) × ((c ≡ place free j)
          ⊎ ((free j ≡ true) × (c ≡ place free j + 1)))
      here e = (n, omega arith, inl e)

      by : (b : Bool) → free n ≡ b → c < place free n + (if b then 2 else 1)
          → (c < place free n → (j : ℕ) × (j < n)
          × ((c ≡ place free j) ⊎ ((free j ≡ true) × (c ≡ place free j + 1))))
          → (j : ℕ) × (j < suc n) × ((c ≡ place free j)
          ⊎ ((free j ≡ true) × (c ≡ place free j + 1)))
      by true f q rest =
          ⊎_elim (λ (l : c < place free n + 1). ⊎_elim (λ (m : c < place free n). earlier (rest m))
          (λ (e : c ≡ place free n). here e) (below_or_at (place free n) l))
          (λ (e : c ≡ place free n + 1). (n, omega arith, inr (f, e)))
          (below_or_at (place free n + 1) (omega (arith, q)))
      by false f q rest =
          ⊎_elim (λ (m : c < place free n). earlier (rest m)) (λ (e : c ≡ place free n). here e)
          (below_or_at (place free n) q)
