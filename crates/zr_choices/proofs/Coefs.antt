-- A row's numbers at the columns of an unknown, and at the last column.
use Rattle.std.proofs.Common.{◌≡◌, ◌≢◌, ℕ, ◌+◌, arith, refl, sym, ap, ◌∙◌, ℤ, pos, neg_ℤ, Bool, true, false, if◌then◌else◌, [], ◌∷◌, ◌++◌, ⊎_elim}
use Rattle.std.proofs.lemmas.Bool.{cases_eq}
use Rattle.std.proofs.lemmas.Bool.Decides.{nat_tests}
use Rattle.std.proofs.lemmas.Int.{ints}
use Rattle.zr_base.specs.Terms.{Terms, AscendWith, coef_at}
use Rattle.zr_choices.specs.Parted.{place, parted_terms}
use Rattle.zr_choices.proofs.Places.{place_apart, second_apart, place_below, second_below}

pub here : (t : ℕ × ℤ) (ts : Terms) (j : ℕ) → t.0 ≡ j → coef_at (t ∷ ts) j ≡ t.1
here t ts j e = grind (arith, nat_tests)

pub past : (t : ℕ × ℤ) (ts : Terms) (j : ℕ) → t.0 ≢ j → coef_at (t ∷ ts) j ≡ coef_at ts j
past t ts j n = grind (arith, nat_tests)

-- what the terms of one unknown put before a list
module _ (b : Bool) (k : ℕ) (a : ℤ) (rest : Terms) where
  abbrev front : Terms
  front = (if b then (k, a) ∷ ((k + 1, neg_ℤ a) ∷ []) else (k, a) ∷ []) ++ rest

pub front_first : (b : Bool) (k : ℕ) (a : ℤ) (rest : Terms) → coef_at (front b k a rest) k ≡ a
front_first true k a rest = here (k, a) ((k + 1, neg_ℤ a) ∷ rest) k refl
front_first false k a rest = here (k, a) rest k refl

pub front_second : (k : ℕ) (a : ℤ) (rest : Terms) → coef_at (front true k a rest) (k + 1) ≡ neg_ℤ a
front_second k a rest =
    past (k, a) ((k + 1, neg_ℤ a) ∷ rest) (k + 1) (λ e. omega arith)
    ∙ here (k + 1, neg_ℤ a) rest (k + 1) refl

pub front_past : (b : Bool) (k : ℕ) (a : ℤ) (rest : Terms) (j : ℕ) → k ≢ j
    → (b ≡ true → k + 1 ≢ j) → coef_at (front b k a rest) j ≡ coef_at rest j
front_past true k a rest j n m =
    past (k, a) ((k + 1, neg_ℤ a) ∷ rest) j n ∙ past (k + 1, neg_ℤ a) rest j (m refl)
front_past false k a rest j n m = past (k, a) rest j n

module _ (free : ℕ → Bool) where
  front_append : (t : ℕ × ℤ) (ts rest : Terms) → parted_terms free (t ∷ ts) ++ rest
      ≡ front (free t.0) (place free t.0) t.1 (parted_terms free ts ++ rest)
  front_append t ts rest = by (free t.0)
    where
      by : (b : Bool)
          → ((if b then (place free t.0, t.1) ∷ ((place free t.0 + 1, neg_ℤ t.1) ∷ [])
          else (place free t.0, t.1) ∷ []) ++ parted_terms free ts) ++ rest
          ≡ front b (place free t.0) t.1 (parted_terms free ts ++ rest)
      by true = refl
      by false = refl

  -- at an unknown's first column stands its number
  pub first_coef : (ts rest : Terms) (j : ℕ) → coef_at rest (place free j) ≡ pos 0
      → coef_at (parted_terms free ts ++ rest) (place free j) ≡ coef_at ts j
  first_coef [] rest j none = none
  first_coef (t ∷ ts) rest j none =
      ap (λ (xs : Terms). coef_at xs (place free j)) (front_append t ts rest)
      ∙ ⊎_elim (λ (e : t.0 ≡ j). same e) (λ (a : t.0 ≢ j). other a
      (first_coef ts rest j none)) (cases_eq t.0 j)
    where
      same : t.0 ≡ j → coef_at (front (free t.0) (place free t.0) t.1
          (parted_terms free ts ++ rest)) (place free j) ≡ coef_at (t ∷ ts) j
      same e =
          ap (λ (i : ℕ). coef_at (front (free t.0) (place free t.0) t.1
          (parted_terms free ts ++ rest)) (place free i)) (sym e)
          ∙ front_first (free t.0) (place free t.0) t.1 (parted_terms free ts ++ rest)
          ∙ sym (here t ts j e)

      other : t.0 ≢ j → coef_at (parted_terms free ts ++ rest) (place free j) ≡ coef_at ts j
          → coef_at (front (free t.0) (place free t.0) t.1 (parted_terms free ts ++ rest))
          (place free j) ≡ coef_at (t ∷ ts) j
      other a r =
          front_past (free t.0) (place free t.0) t.1 (parted_terms free ts ++ rest)
          (place free j) (place_apart free t.0 j a) (λ f. second_apart free t.0 j f) ∙ r
          ∙ sym (past t ts j a)

  -- and at a free one's second column its negation
  pub second_coef : (ts rest : Terms) (j : ℕ) → free j ≡ true → coef_at rest (place free j + 1)
      ≡ pos 0 → coef_at (parted_terms free ts ++ rest) (place free j + 1) ≡ neg_ℤ (coef_at ts j)
  second_coef [] rest j is none = none ∙ omega (arith, ints)
  second_coef (t ∷ ts) rest j is none =
      ap (λ (xs : Terms). coef_at xs (place free j + 1)) (front_append t ts rest)
      ∙ ⊎_elim (λ (e : t.0 ≡ j). same e) (λ (a : t.0 ≢ j). other a
      (second_coef ts rest j is none)) (cases_eq t.0 j)
    where
      by : (b : Bool) → b ≡ true → coef_at (front b (place free t.0) t.1
          (parted_terms free ts ++ rest)) (place free t.0 + 1) ≡ neg_ℤ t.1
      by true e = front_second (place free t.0) t.1 (parted_terms free ts ++ rest)
      by false e = absurd cc

      same : t.0 ≡ j → coef_at (front (free t.0) (place free t.0) t.1
          (parted_terms free ts ++ rest)) (place free j + 1) ≡ neg_ℤ (coef_at (t ∷ ts) j)
      same e =
          ap (λ (i : ℕ). coef_at (front (free t.0) (place free t.0) t.1
          (parted_terms free ts ++ rest)) (place free i + 1)) (sym e)
          ∙ by (free t.0) (ap free e ∙ is) ∙ ap neg_ℤ (sym (here t ts j e))

      other : t.0 ≢ j → coef_at (parted_terms free ts ++ rest) (place free j + 1)
          ≡ neg_ℤ (coef_at ts j) → coef_at (front (free t.0) (place free t.0) t.1
          (parted_terms free ts ++ rest)) (place free j + 1) ≡ neg_ℤ (coef_at (t ∷ ts) j)
      other a r =
          front_past (free t.0) (place free t.0) t.1 (parted_terms free ts ++ rest)
          (place free j + 1) (λ e. second_apart free j t.0 is (sym e))
          (λ f e. place_apart free t.0 j a (let q : place free t.0 + 1
          ≡ place free j + 1 = e in omega (arith, q))) ∙ r ∙ ap neg_ℤ (sym (past t ts j a))

  -- at the last column stands what is put there
  pub last_coef : (P : ℤ → Type 0) (low n : ℕ) (ts rest : Terms) → AscendWith P low n ts
      → coef_at (parted_terms free ts ++ rest) (place free n) ≡ coef_at rest (place free n)
  last_coef P low n [] rest a = refl
  last_coef P low n (t ∷ ts) rest a =
      ap (λ (xs : Terms). coef_at xs (place free n)) (front_append t ts rest)
      ∙ front_past (free t.0) (place free t.0) t.1 (parted_terms free ts ++ rest)
      (place free n) (λ e. let b = place_below free t.0 n a.1 in omega (arith, b, e))
      (λ f e. let b = second_below free t.0 n a.1 f in omega (arith, b, e))
      ∙ last_coef P (t.0 + 1) n ts rest a.3
