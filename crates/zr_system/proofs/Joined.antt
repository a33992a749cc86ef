-- Facts about each item of joined lists.
use Rattle.std.proofs.Common.{◌≡◌, ◌≢◌, ℕ, zero, suc, ◌<◌, arith, refl, sym, subst, Bool, true, false, if◌then◌else◌, List, [], ◌∷◌, map, All, ⊎_elim}
use Rattle.std.proofs.lemmas.Bool.{cases_eq}
use Rattle.zr_base.proofs.Members.{each_back, each_front, each_join, each_of_all}
use Rattle.zr_base.proofs.Worth.{Each}
use Rattle.zr_system.specs.Unknowns.{list_to}

module _ {A : Type 0} (P : A → Type 0) where
  pub each_to : (n : ℕ) (f : ℕ → List A) → ((k : ℕ) → k < n → Each P (f k)) → Each P (list_to n f)
  each_to zero f h = tt
  each_to (suc n) f h =
      each_join P (list_to n f) (f n) (each_to n f (λ k p. h k (omega arith))) (h n (omega arith))

  pub of_each_to : (n : ℕ) (f : ℕ → List A) → Each P (list_to n f) → (k : ℕ) → k < n → Each P (f k)
  of_each_to zero f e k h = absurd (omega arith)
  of_each_to (suc n) f e k h =
      ⊎_elim (λ (s : k ≡ n). subst (λ j. Each P (f j)) (sym s) (each_back P (list_to n f) (f n) e))
      (λ (c : k ≢ n). of_each_to n f (each_front P (list_to n f) (f n) e) k (omega arith))
      (cases_eq k n)

  pub each_if : (b : Bool) (xs : List A) → (b ≡ true → Each P xs) → Each P (if b then xs else [])
  each_if true xs h = h refl
  each_if false xs h = tt

  pub of_each_if : (b : Bool) (xs : List A) → b ≡ true → Each P (if b then xs else []) → Each P xs
  of_each_if true xs e h = h
  of_each_if false xs e h = absurd cc

  pub each_unless : (b : Bool) (xs : List A) → (b ≡ false → Each P xs)
      → Each P (if b then [] else xs)
  each_unless true xs h = tt
  each_unless false xs h = h refl

  pub of_each_unless : (b : Bool) (xs : List A) → b ≡ false → Each P (if b then [] else xs)
      → Each P xs
  of_each_unless true xs e h = absurd cc
  of_each_unless false xs e h = h

  pub all_of_each : (xs : List A) → Each P xs → All P xs
  all_of_each [] h k d below = absurd (omega arith)
  all_of_each (x ∷ xs) h zero d below = h.0
  all_of_each (x ∷ xs) h (suc k) d below = all_of_each xs h.1 k d (omega arith)

module _ {A B : Type 0} (g : A → B) (P : B → Type 0) where
  each_mapped : (xs : List A) → Each (λ x. P (g x)) xs → Each P (map g xs)
  each_mapped [] h = tt
  each_mapped (x ∷ xs) h = (h.0, each_mapped xs h.1)

  of_each_mapped : (xs : List A) → Each P (map g xs) → Each (λ x. P (g x)) xs
  of_each_mapped [] h = tt
  of_each_mapped (x ∷ xs) h = (h.0, of_each_mapped xs h.1)

  pub all_mapped : (xs : List A) → Each (λ x. P (g x)) xs → All P (map g xs)
  all_mapped xs h = all_of_each P (map g xs) (each_mapped xs h)

  pub of_all_mapped : (xs : List A) → All P (map g xs) → Each (λ x. P (g x)) xs
  of_all_mapped xs h = of_each_mapped xs (each_of_all P (map g xs) h)
