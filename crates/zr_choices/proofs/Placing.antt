-- The list of columns, and a row's parted_terms one term more.
use Rattle.std.proofs.Common.{◌≡◌, ℕ, zero, suc, ◌+◌, ◌<◌, arith, refl, sym, ap, ap₂, ◌∙◌, ℤ, Bool, List, [], ◌∷◌, ◌++◌, length, get_or, take, add-one, append_assoc, append-nil, ⊎_elim}
use Rattle.std.proofs.Math.ListN.{get_or-append}
use Rattle.std.proofs.Math.Seq.{get_or-append_seam}
use Rattle.std.proofs.lemmas.Bool.{cases_eq}
use Rattle.std.proofs.lemmas.List.{length-append}
use Rattle.zr_base.specs.Terms.{Terms}
use Rattle.zr_system.specs.Asked.{firsts}
use Rattle.zr_choices.specs.Parted.{part_terms, parted_terms}

pub firsts_end : (n k next : ℕ) (f : ℕ → ℕ) (xs ys : List ℕ) → k ≡ n → xs ≡ firsts k f → next
    ≡ f k → ys ≡ xs ++ (next ∷ []) → ys ≡ firsts (n + 1) f
firsts_end n k next f xs ys e a b g =
    let s : firsts (n + 1) f ≡ firsts n f ++ (f n ∷ []) = rw add-one refl in
    g ∙ ap₂ (λ (zs : List ℕ) (z : ℕ). zs ++ (z ∷ [])) (a ∙ ap (λ (m : ℕ). firsts m f) e)
    (b ∙ ap f e) ∙ sym s

pub firsts_length : (n : ℕ) (f : ℕ → ℕ) → length (firsts n f) ≡ n
firsts_length zero f = refl
firsts_length (suc n) f =
    let r = firsts_length n f in
    let l = length-append (firsts n f) (f n ∷ []) in
    omega (arith, r, l)

pub firsts_at : (n j : ℕ) (f : ℕ → ℕ) → j < n → get_or (firsts n f) j 0 ≡ f j
firsts_at zero j f h = absurd (omega arith)
firsts_at (suc n) j f h =
    ⊎_elim (λ (e : j ≡ n). last e) (λ (c : j ≡ n → ⊥). earlier (omega arith)
    (firsts_at n j f (omega arith))) (cases_eq j n)
  where
    last : j ≡ n → get_or (firsts n f ++ (f n ∷ [])) j 0 ≡ f j
    last e =
        let l = firsts_length n f in
        ap (λ (m : ℕ). get_or (firsts n f ++ (f n ∷ [])) m 0) (e ∙ sym l)
        ∙ get_or-append_seam (firsts n f) (f n) [] 0 ∙ ap f (sym e)

    earlier : j < n → get_or (firsts n f) j 0 ≡ f j → get_or (firsts n f ++ (f n ∷ [])) j 0 ≡ f j
    earlier p r =
        let l = firsts_length n f in
        get_or-append (firsts n f) (f n ∷ []) 0 j (omega (arith, p, l)) ∙ r

module _ (free : ℕ → Bool) where
  more : (ts : Terms) (k : ℕ) (d : ℕ × ℤ) → k < length ts → parted_terms free (take (suc k) ts)
      ≡ parted_terms free (take k ts) ++ part_terms free (get_or ts k d)
  more [] k d h = absurd (omega arith)
  more (t ∷ ts) zero d h = append-nil (part_terms free t)
  more (t ∷ ts) (suc k) d h =
      ap (λ (xs : Terms). part_terms free t ++ xs) (more ts k d (omega arith))
      ∙ sym (append_assoc (part_terms free t) (parted_terms free (take k ts))
      (part_terms free (get_or ts k d)))

  pub parts_more : (ts : Terms) (k : ℕ) (d : ℕ × ℤ) (xs ys : Terms) → k < length ts → xs
      ≡ parted_terms free (take k ts) → ys ≡ xs ++ part_terms free (get_or ts k d) → ys
      ≡ parted_terms free (take (k + 1) ts)
  parts_more ts k d xs ys h e g =
      let s : parted_terms free (take (k + 1) ts)
      ≡ parted_terms free (take k ts) ++ part_terms free (get_or ts k d) = rw add-one
      (more ts k d h) in
      g ∙ ap (λ (zs : Terms). zs ++ part_terms free (get_or ts k d)) e ∙ sym s
