-- Lists of the numbers that aren't zero.
use Rattle.std.proofs.Common.{◌≡◌, ◌≢◌, ℕ, ◌+◌, ◌<◌, ◌≤◌, arith, refl, sym, ◌∙◌, ℤ, pos, [], ◌∷◌, ◌++◌, ⊎_elim}
use Rattle.std.proofs.lemmas.Bool.{cases_eq}
use Rattle.std.proofs.lemmas.Bool.Decides.{nat_tests}
use Rattle.zr_base.specs.Terms.{AscendWith, Terms, coef_at}

module _ (P : ℤ → Type 0) where
  pub ascends_more : (low n more : ℕ) (xs : Terms) → n ≤ more → AscendWith P low n xs → AscendWith P low more xs
  ascends_more low n more [] h a = a
  ascends_more low n more (t ∷ ts) h a = (a.0, omega (arith, a.1, h), a.2, ascends_more (t.0 + 1) n more ts h a.3)

  pub ascends_push : (low n place more : ℕ) (xs : Terms) (v : ℤ) → low ≤ n → n ≤ place → place < more → AscendWith P low n xs → P v → AscendWith P low more (xs ++ (place, v) ∷ [])
  ascends_push low n place more [] v h q r a p = (omega (arith, h, q), r, p, tt)
  ascends_push low n place more (t ∷ ts) v h q r a p =
      (a.0, omega (arith, a.1, q, r), a.2, ascends_push (t.0 + 1) n place more ts v (omega (arith, a.1)) q r a.3 p)

  pub coef_past : (low n : ℕ) (xs : Terms) (j : ℕ) → AscendWith P low n xs → n ≤ j → coef_at xs j ≡ pos 0
  coef_past low n [] j a h = refl
  coef_past low n (t ∷ ts) j a h =
      let r = coef_past (t.0 + 1) n ts j a.3 h in
      grind (arith, nat_tests, r, a.1)

  pub coef_here : (low n : ℕ) (xs : Terms) (v : ℤ) → AscendWith P low n xs → coef_at (xs ++ (n, v) ∷ []) n ≡ v
  coef_here low n [] v a = grind (arith, nat_tests)
  coef_here low n (t ∷ ts) v a =
      let r = coef_here (t.0 + 1) n ts v a.3 in
      grind (arith, nat_tests, r, a.1)

pub coef_else : (n : ℕ) (xs : Terms) (v : ℤ) (j : ℕ) → j ≢ n → coef_at (xs ++ (n, v) ∷ []) j ≡ coef_at xs j
coef_else n [] v j h = grind (arith, nat_tests)
coef_else n (t ∷ ts) v j h =
    let r = coef_else n ts v j h in
    grind (arith, nat_tests, r)

module _ (P : ℤ → Type 0) (xs : Terms) (n : ℕ) (f : ℕ → ℤ) (good : AscendWith P 0 n xs) (numbers : (j : ℕ) → j < n → coef_at xs j ≡ f j) where
  pub numbers_push : (v : ℤ) → f n ≡ v → (j : ℕ) → j < n + 1 → coef_at (xs ++ (n, v) ∷ []) j ≡ f j
  numbers_push v e j h = ⊎_elim (λ (s : j ≡ n). rw s (coef_here P 0 n xs v good ∙ sym e)) (λ (a : j ≢ n). coef_else n xs v j a ∙ numbers j (omega arith)) (cases_eq j n)

  pub numbers_skip : f n ≡ pos 0 → (j : ℕ) → j < n + 1 → coef_at xs j ≡ f j
  numbers_skip e j h = ⊎_elim (λ (s : j ≡ n). rw s (coef_past P 0 n xs n good (omega arith) ∙ sym e)) (λ (a : j ≢ n). numbers j (omega arith)) (cases_eq j n)
