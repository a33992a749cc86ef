-- The first item of a list that is refused, and ways to be refused that exclude each other.
use Rattle.std.proofs.Common.{◌≡◌, ℕ, ◌<◌, ◌≤◌, arith, sym, subst, ◌∙◌, Some, List, slice_get, ◌⊎◌, ⊎_elim}
use Rattle.std.proofs.lemmas.Bool.{cases_lt}
use Rattle.zr_game.proofs.Items.{one}
use Rattle.zr_cert.specs.declared.fault.CertFault.{CertFault}
use Rattle.zr_check.specs.Firsts.{AllPass, FirstRefused}

-- the first item that is refused, where no item both passes and is refused
module _ {A : Type 0} (Passes : ℕ → A → Type 0) (Refused : ℕ → A → CertFault → Type 0)
    (apart : (i : ℕ) (x : A) (fault : CertFault) → Passes i x → Refused i x fault → ⊥)
    (items : List A) where
  pub first_apart : (fault : CertFault) → AllPass Passes items
      → FirstRefused Passes Refused items fault → ⊥
  first_apart fault all r = apart r.at r.item fault (all r.at r.item r.here) r.refused

  pub first_one : ((i : ℕ) (x : A) (f g : CertFault) → Refused i x f → Refused i x g → f ≡ g)
      → (f g : CertFault) → FirstRefused Passes Refused items f
      → FirstRefused Passes Refused items g → f ≡ g
  first_one each f g r s =
      ⊎_elim
      (λ (h : r.at < s.at). absurd (apart r.at r.item f (s.before r.at r.item h r.here) r.refused))
      (λ (h : s.at ≤ r.at). ⊎_elim
      (λ (k : s.at < r.at). absurd (apart s.at s.item g (r.before s.at s.item k s.here) s.refused))
      (λ (k : r.at ≤ s.at). same (omega (arith, h, k))) (cases_lt s.at r.at))
      (cases_lt r.at s.at)
    where
      same : r.at ≡ s.at → f ≡ g
      same e =
          let found = subst (λ n. slice_get items n ≡ Some r.item) e r.here in
          let item = one items s.at r.item s.item found s.here in
          let there = subst (λ n. Refused n r.item f) e r.refused in
          each s.at s.item f g (subst (λ (x : A). Refused s.at x f) item there) s.refused

-- one of two ways to be refused, which exclude each other
module _ (First Second : CertFault → Type 0)
    (apart : (f g : CertFault) → First f → Second g → ⊥) (f g : CertFault) where
  pub either_one : (First f → First g → f ≡ g) → (Second f → Second g → f ≡ g)
      → First f ⊎ Second f → First g ⊎ Second g → f ≡ g
  either_one first second r s =
      ⊎_elim
      (λ (a : First f). ⊎_elim (first a) (λ (b : Second g). absurd (apart f g a b)) s)
      (λ (a : Second f). ⊎_elim (λ (b : First g). absurd (apart g f b a)) (second a) s) r

-- a test, and then another where it passes
pub in_turn : (P : Type 0) (Rest : CertFault → Type 0) (bad f g : CertFault)
    → (Rest f → Rest g → f ≡ g) → ((P → ⊥) × (f ≡ bad)) ⊎ (P × Rest f)
    → ((P → ⊥) × (g ≡ bad)) ⊎ (P × Rest g) → f ≡ g
in_turn P Rest bad f g rest =
    either_one (λ x. (P → ⊥) × (x ≡ bad)) (λ x. P × Rest x) (λ x y a b. a.0 b.0) f g
    (λ a b. a.1 ∙ sym b.1) (λ a b. rest a.1 b.1)
