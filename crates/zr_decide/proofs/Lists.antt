-- Lists that grow at their end, and what holds of their parts.
use Rattle.std.proofs.Common.{◌≡◌, ℕ, zero, suc, ◌<◌, arith, refl, subst, Some, All, List, [], ◌∷◌, ◌++◌, length, slice_get}
use Rattle.std.proofs.lemmas.List.Elements.{All-append, All-cons, All-head, All-nil, All-tail}
use Rattle.zr_cases.specs.Trees.{lists_below}

module _ {A : Type 0} where
  pub get_front : (xs : List A) (x : A) (k : ℕ) (y : A) → slice_get xs k ≡ Some y
      → slice_get (xs ++ x ∷ []) k ≡ Some y
  get_front [] x k y e = absurd cc
  get_front (z ∷ zs) x zero y e = e
  get_front (z ∷ zs) x (suc k) y e = get_front zs x k y e

  pub get_old : (xs : List A) (x : A) (k : ℕ) (y : A) → k < length xs
      → slice_get (xs ++ x ∷ []) k ≡ Some y → slice_get xs k ≡ Some y
  get_old [] x k y h e = absurd (omega (arith, h))
  get_old (z ∷ zs) x zero y h e = e
  get_old (z ∷ zs) x (suc k) y h e = get_old zs x k y (omega (arith, h)) e

  pub get_last : (xs : List A) (x : A) → slice_get (xs ++ x ∷ []) (length xs) ≡ Some x
  get_last [] x = refl
  get_last (z ∷ zs) x = get_last zs x

  pub pushed : (P : ℕ → A → Type 0) (xs : List A) (x : A)
      → ((k : ℕ) (a : A) → slice_get xs k ≡ Some a → P k a) → P (length xs) x
      → (k : ℕ) (a : A) → slice_get (xs ++ x ∷ []) k ≡ Some a → P k a
  pushed P [] x old last zero a e = let s : x ≡ a = cc in subst (P 0) s last
  pushed P [] x old last (suc k) a e = absurd cc
  pushed P (y ∷ ys) x old last zero a e = old 0 a e
  pushed P (y ∷ ys) x old last (suc k) a e =
      pushed (λ n. P (suc n)) ys x (λ n b f. old (suc n) b f) last k a e

  pub all_front : (P : A → Type 0) (xs ys : List A) → All P (xs ++ ys) → All P xs
  all_front P [] ys h = All-nil P
  all_front P (x ∷ xs) ys h =
      All-cons P x xs (All-head P x (xs ++ ys) h)
      (all_front P xs ys (All-tail P x (xs ++ ys) h))

  pub all_back : (P : A → Type 0) (xs ys : List A) → All P (xs ++ ys) → All P ys
  all_back P [] ys h = h
  all_back P (x ∷ xs) ys h = all_back P xs ys (All-tail P x (xs ++ ys) h)

  pub all_below : (P : A → Type 0) (n : ℕ) (f : ℕ → List A) → ((k : ℕ) → k < n → All P (f k))
      → All P (lists_below n f)
  all_below P zero f h = All-nil P
  all_below P (suc n) f h =
      All-append P (f 0) (lists_below n (λ k. f (suc k))) (h 0 (omega arith))
      (all_below P n (λ k. f (suc k)) (λ k l. h (suc k) (omega (arith, l))))
