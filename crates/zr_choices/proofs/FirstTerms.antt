-- The items of a list whose numbers are below a number.
use Rattle.std.proofs.Common.{◌≡◌, ◌≢◌, ℕ, ◌+◌, ◌<◌, ◌≤◌, nat_lt, arith, refl, sym, ◌∙◌, ℤ, pos, Bool, true, false, if◌then◌else◌, [], ◌∷◌, ⊎_elim}
use Rattle.std.proofs.lemmas.Bool.{cases_eq}
use Rattle.std.proofs.lemmas.Bool.Decides.{nat_tests}
use Rattle.zr_base.specs.Terms.{AscendWith, Terms, coef_at}
use Rattle.zr_choices.specs.Merging.{first_terms}
use Rattle.zr_choices.proofs.Coefs.{here, past}

module _ (P : ℤ → Type 0) where
  lower : (low below n : ℕ) (ts : Terms) → low ≤ below → AscendWith P below n ts
      → AscendWith P low n ts
  lower low below n [] h a = tt
  lower low below n (t ∷ ts) h a = let q = a.0 in (omega (arith, q, h), a.1, a.2, a.3)

  pub first_ascends : (low n m : ℕ) (ts : Terms) → AscendWith P low m ts
      → AscendWith P low n (first_terms n ts)
  first_ascends low n m [] a = tt
  first_ascends low n m (t ∷ ts) a =
      by (nat_lt t.0 n) refl (first_ascends (t.0 + 1) n m ts a.3)
    where
      by : (b : Bool) → nat_lt t.0 n ≡ b → AscendWith P (t.0 + 1) n (first_terms n ts)
          → AscendWith P low n (if b then t ∷ first_terms n ts else first_terms n ts)
      by true e r = (a.0, grind (arith, nat_tests, e), a.2, r)
      by false e r = let q = a.0 in lower low (t.0 + 1) n (first_terms n ts) (omega (arith, q)) r

  -- nothing is listed before the first column or past the end
  pub none_from : (low m : ℕ) (ts : Terms) (k : ℕ) → AscendWith P low m ts → m ≤ k
      → coef_at ts k ≡ pos 0
  none_from low m [] k a h = refl
  none_from low m (t ∷ ts) k a h =
      let q = a.1 in
      past t ts k (λ e. omega (arith, q, h, e)) ∙ none_from (t.0 + 1) m ts k a.3 h

pub first_coef_at : (n : ℕ) (ts : Terms) (c : ℕ) → c < n
    → coef_at (first_terms n ts) c ≡ coef_at ts c
first_coef_at n [] c h = refl
first_coef_at n (t ∷ ts) c h = by (nat_lt t.0 n) refl (first_coef_at n ts c h)
  where
    by : (b : Bool) → nat_lt t.0 n ≡ b → coef_at (first_terms n ts) c ≡ coef_at ts c
        → coef_at (if b then t ∷ first_terms n ts else first_terms n ts) c ≡ coef_at (t ∷ ts) c
    by true e r =
        ⊎_elim (λ (s : t.0 ≡ c). here t (first_terms n ts) c s ∙ sym (here t ts c s))
        (λ (s : t.0 ≢ c). past t (first_terms n ts) c s ∙ r ∙ sym (past t ts c s)) (cases_eq t.0 c)
    by false e r =
        let s : t.0 ≢ c = λ q. let z : (nat_lt t.0 n ≡ true) = grind (arith, nat_tests, q, h) in
        let w : true ≡ false = sym z ∙ e in cc in
        r ∙ sym (past t ts c s)
