-- A basis with one of its columns taken out.
use Rattle.std.proofs.Common.{◌≡◌, ◌≢◌, ◌↔◌, ℕ, zero, suc, ◌<◌, arith, refl, sym, subst, ◌∙◌, ◌⊎◌, ⊎_elim, inl, inr, if◌then◌else◌, ◌==◌}
use Rattle.std.proofs.lemmas.Bool.{cases_eq}
use Rattle.std.proofs.lemmas.Bool.Decides.{nat_tests}
use Rattle.zr_basis.specs.Bases.{IsBasis, HasColumn, IsSameBasis}

pub has_or_not : (size : ℕ) (b : ℕ → ℕ) (j : ℕ) → HasColumn size b j ⊎ (HasColumn size b j → ⊥)
has_or_not zero b j = inr (λ h. omega (arith, h.1))
has_or_not (suc k) b j = ⊎_elim (λ (h : HasColumn k b j). inl (h.0, omega (arith, h.1), h.2)) (λ (none : HasColumn k b j → ⊥). ⊎_elim (λ (e : b k ≡ j). inl (k, omega arith, e)) (λ (c : b k ≢ j). inr (λ h. ⊎_elim (λ (e : h.0 ≡ k). c (subst (λ i. b i ≡ j) e h.2)) (λ (d : h.0 ≢ k). none (h.0, omega (arith, h.1, d), h.2)) (cases_eq h.0 k))) (cases_eq (b k) j)) (has_or_not k b j)

-- the last column of b in place i
abbrev pub moved : ℕ → ℕ → (ℕ → ℕ) → ℕ → ℕ
moved k i b j = if j == i then b k else b j

moved_here : (k i : ℕ) (b : ℕ → ℕ) (j : ℕ) → j ≡ i → moved k i b j ≡ b k
moved_here k i b j e = grind (arith, nat_tests)

moved_other : (k i : ℕ) (b : ℕ → ℕ) (j : ℕ) → j ≢ i → moved k i b j ≡ b j
moved_other k i b j e = grind (arith, nat_tests)

-- w has the columns of b that aren't column n
abbrev pub IsWithout : ℕ → ℕ → (ℕ → ℕ) → (ℕ → ℕ) → Type 0
IsWithout n k b w = (j : ℕ) → HasColumn k w j ↔ (HasColumn (suc k) b j × (j ≢ n))

-- b has column n, and w is a basis of the others
abbrev pub TakesOut : ℕ → ℕ → (ℕ → ℕ) → (ℕ → ℕ) → Type 0
TakesOut n k b w = HasColumn (suc k) b n × IsBasis n k w × IsWithout n k b w

pub take_out : (n k : ℕ) (b : ℕ → ℕ) → IsBasis (suc n) (suc k) b → HasColumn (suc k) b n → (w : ℕ → ℕ) × TakesOut n k b w
take_out n k b is has = (w, (has, record { below = below; different = different }, λ j. (there j, back j)))
  where
    w : ℕ → ℕ
    w = moved k has.0 b

    place : (j : ℕ) → j < k → (p : ℕ) × (p < suc k) × (w j ≡ b p) × (p ≢ has.0) × (((j ≡ has.0) × (p ≡ k)) ⊎ ((j ≢ has.0) × (p ≡ j)))
    place j h = ⊎_elim (λ (e : j ≡ has.0). (k, omega arith, moved_here k has.0 b j e, (λ q. omega (arith, q, e, h)), inl (e, refl))) (λ (c : j ≢ has.0). (j, omega (arith, h), moved_other k has.0 b j c, c, inr (c, refl))) (cases_eq j has.0)

    not_n : (p : ℕ) → p < suc k → p ≢ has.0 → b p ≢ n
    not_n p h c e = is.different p has.0 h has.1 c (e ∙ sym has.2)

    below : (j : ℕ) → j < k → w j < n
    below j h =
        let p = place j h in
        let a = is.below p.0 p.1 in
        let c = not_n p.0 p.1 p.3 in
        omega (arith, a, c, p.2)

    places_differ : (j l : ℕ) (h : j < k) (g : l < k) → j ≢ l → (place j h).0 ≢ (place l g).0
    places_differ j l h g c e = ⊎_elim (λ (u : (j ≡ has.0) × ((place j h).0 ≡ k)). ⊎_elim (λ (v : (l ≡ has.0) × ((place l g).0 ≡ k)). c (u.0 ∙ sym v.0)) (λ (v : (l ≢ has.0) × ((place l g).0 ≡ l)). omega (arith, u.1, v.1, e, g)) (place l g).4) (λ (u : (j ≢ has.0) × ((place j h).0 ≡ j)). ⊎_elim (λ (v : (l ≡ has.0) × ((place l g).0 ≡ k)). omega (arith, u.1, v.1, e, h)) (λ (v : (l ≢ has.0) × ((place l g).0 ≡ l)). c (sym u.1 ∙ e ∙ v.1)) (place l g).4) (place j h).4

    different : (j l : ℕ) → j < k → l < k → j ≢ l → w j ≢ w l
    different j l h g c e =
        let p = place j h in
        let q = place l g in
        is.different p.0 q.0 p.1 q.1 (places_differ j l h g c) (sym p.2 ∙ e ∙ q.2)

    there : (j : ℕ) → HasColumn k w j → HasColumn (suc k) b j × (j ≢ n)
    there j h =
        let p = place h.0 h.1 in
        let c = below h.0 h.1 in
        ((p.0, p.1, sym p.2 ∙ h.2), omega (arith, c, h.2))

    back : (j : ℕ) → HasColumn (suc k) b j × (j ≢ n) → HasColumn k w j
    back j h =
        let off : h.0.0 ≢ has.0 = λ e. h.1 (sym h.0.2 ∙ subst (λ p. b p ≡ n) (sym e) has.2) in
        ⊎_elim (λ (e : h.0.0 ≡ k). (has.0, omega (arith, has.1, off, e), moved_here k has.0 b has.0 refl ∙ subst (λ p. b p ≡ j) e h.0.2)) (λ (c : h.0.0 ≢ k). (h.0.0, omega (arith, h.0.1, c), moved_other k has.0 b h.0.0 off ∙ h.0.2)) (cases_eq h.0.0 k)

-- bases that have column n are the same where what is left of them is
pub same_of_left : (n k : ℕ) (a b v w : ℕ → ℕ) → TakesOut n k a v → TakesOut n k b w → IsSameBasis k v w → IsSameBasis (suc k) a b
same_of_left n k a b v w p q same j =
    (carried a b v w p q (λ i. (same i).0), carried b a w v q p (λ i. (same i).1))
  where
    carried : (a b v w : ℕ → ℕ) → TakesOut n k a v → TakesOut n k b w → ((i : ℕ) → HasColumn k v i → HasColumn k w i) → HasColumn (suc k) a j → HasColumn (suc k) b j
    carried a b v w p q f h = ⊎_elim (λ (e : j ≡ n). subst (λ i. HasColumn (suc k) b i) (sym e) q.0) (λ (c : j ≢ n). ((q.2 j).0 (f j ((p.2 j).1 (h, c)))).0) (cases_eq j n)

-- a basis that doesn't have column n is one of the columns below
pub below_last : (n size : ℕ) (b : ℕ → ℕ) → IsBasis (suc n) size b → (HasColumn size b n → ⊥) → IsBasis n size b
below_last n size b is none = record {
  below = λ i h. let a = is.below i h in let c : b i ≢ n = λ e. none (i, h, e) in omega (arith, a, c);
  different = is.different;
}
