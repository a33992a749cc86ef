-- Points whose numbers are the first of a function.
use Rattle.std.proofs.Common.{◌≡◌, ◌≢◌, ℕ, zero, suc, ◌+◌, ◌<◌, arith, refl, sym, ap, ◌∙◌, ℤ, pos, ◌*ℤ◌, [], ◌∷◌, ◌++◌, length, get_or, ⊎_elim}
use Rattle.std.proofs.Math.ListN.{get_or-append}
use Rattle.std.proofs.lemmas.Bool.{cases_eq}
use Rattle.std.proofs.lemmas.List.{get_or-append-add, length-append}
use Rattle.zr_base.proofs.Dense.{sum_to_same}
use Rattle.zr_system.specs.Asked.{firsts}
use Rattle.zr_convex.proofs.Dots.{dot}

pub firsts_length : {A : Type 0} (n : ℕ) (f : ℕ → A) → length (firsts n f) ≡ n
firsts_length zero f = refl
firsts_length (suc n) f =
    let r = firsts_length n f in
    let l = length-append (firsts n f) (f n ∷ []) in
    omega (arith, r, l)

pub firsts_at : {A : Type 0} (n : ℕ) (f : ℕ → A) (k : ℕ) (d : A) → k < n
    → get_or (firsts n f) k d ≡ f k
firsts_at zero f k d h = absurd (omega arith)
firsts_at {A} (suc n) f k d h = ⊎_elim (λ (e : k ≡ n). here e)
    (λ (c : k ≢ n). there c (firsts_at n f k d (omega arith))) (cases_eq k n)
  where
    here : k ≡ n → get_or (firsts n f ++ (f n ∷ [])) k d ≡ f k
    here e =
        let l = firsts_length n f in
        let p : length (firsts n f) + 0 ≡ k = omega (arith, l, e) in
        ap (λ (j : ℕ). get_or (firsts n f ++ (f n ∷ [])) j d) (sym p)
        ∙ get_or-append-add (firsts n f) (f n ∷ []) 0 d ∙ ap f (sym e)

    there : k ≢ n → get_or (firsts n f) k d ≡ f k → get_or (firsts n f ++ (f n ∷ [])) k d ≡ f k
    there c e =
        let l = firsts_length n f in
        get_or-append (firsts n f) (f n ∷ []) d k (omega (arith, l)) ∙ e

pub dot_firsts : (n : ℕ) (a x : ℕ → ℤ) → dot n a (λ v. get_or (firsts n x) v (pos 0)) ≡ dot n a x
dot_firsts n a x =
    sum_to_same n (λ v. a v *ℤ get_or (firsts n x) v (pos 0)) (λ v. a v *ℤ x v)
    (λ v h. ap (λ z. a v *ℤ z) (firsts_at n x v (pos 0) h))
