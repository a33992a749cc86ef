-- Items of a mapped list, and of a game.
use Rattle.std.proofs.Common.{◌≡◌, ◌↔◌, ℕ, zero, suc, ◌<◌, arith, refl, sym, ap, subst, ◌∙◌, Bool, IsTrue, Option, Some, None, List, [], ◌∷◌, length, map, get_or, slice_get, option_map, All}
use Rattle.std.proofs.lemmas.List.{get_or-map, length-map}
use Rattle.std.proofs.lemmas.List.Elements.{All-map}
use Rattle.std.proofs.lemmas.Option.{slice_get_read, slice_get-map}
use Rattle.zr_base.specs.declared.step.Wide.{Wide}
use Rattle.zr_base.specs.Tests.{first_wide, or_else}

-- the item that was read is found in the mapped list
pub found : {A B : Type 0} (g : A → B) (xs : List A) (i : ℕ) (x : A) → i < length xs → x ≡ get_or xs i x → slice_get (map g xs) i ≡ Some (g x)
found g xs i x below is = slice_get-map g xs i ∙ ap (option_map g) (slice_get_read xs (length xs) i x refl below is)

pub read_below : {A B : Type 0} (g : A → B) (xs : List A) (i : ℕ) → i < length (map g xs) → i < length xs
read_below g xs i h = subst (λ n. i < n) (length-map xs g) h

-- there is one item of a number
pub one : {A : Type 0} (xs : List A) (i : ℕ) (a b : A) → slice_get xs i ≡ Some a → slice_get xs i ≡ Some b → a ≡ b
one xs i a b e f = cc

-- the item of a number below the length
pub at_number : {A : Type 0} (xs : List A) (k : ℕ) → k < length xs → (x : A) × (slice_get xs k ≡ Some x)
at_number [] k h = absurd (omega arith)
at_number (x ∷ xs) zero h = (x, refl)
at_number (x ∷ xs) (suc k) h = at_number xs k (omega arith)

module _ {A B : Type 0} (g : A → B) where
  at_item : (P : B → Type 0) (xs : List A) (k : ℕ) (d : A) (e : B) → k < length xs → P (get_or (map g xs) k e) → P (g (get_or xs k d))
  at_item P xs k d e h p = subst P (get_or-map g xs k d e h) p

  pub All-of_map : (P : B → Type 0) (xs : List A) → All P (map g xs) → All (λ x. P (g x)) xs
  All-of_map P xs all k d h = at_item P xs k d (g d) h (all k (g d) (subst (λ n. k < n) (sym (length-map xs g)) h))

  -- what holds of all mapped items holds of the one that was read
  pub item : (P : B → Type 0) (xs : List A) (i : ℕ) (x : A) → All P (map g xs) → i < length xs → x ≡ get_or xs i x → P (g x)
  item P xs i x all below is = subst (λ y. P (g y)) (sym is) (All-of_map P xs all i x below)

  pub first_wide-map : (f : B → Option Wide) (xs : List A) → first_wide f (map g xs) ≡ first_wide (λ x. f (g x)) xs
  first_wide-map f [] = refl
  first_wide-map f (x ∷ xs) = ap (or_else (f (g x))) (first_wide-map f xs)

  -- what was told of all items is told of the mapped list
  pub all_told : (P : B → Type 0) (f : B → Option Wide) (xs : List A) (all : Bool) → (first_wide (λ x. f (g x)) xs ≡ None) × (IsTrue all ↔ All (λ x. P (g x)) xs) → (first_wide f (map g xs) ≡ None) × (IsTrue all ↔ All P (map g xs))
  all_told P f xs all told =
      (first_wide-map f xs ∙ told.0, (λ h. All-map P g xs (told.1.0 h), λ h. told.1.1 (All-of_map P xs h)))

  found_back : (xs : List A) (k : ℕ) (y : B) → slice_get (map g xs) k ≡ Some y → (x : A) × (slice_get xs k ≡ Some x) × (g x ≡ y)
  found_back [] k y e = absurd cc
  found_back (x ∷ xs) zero y e = (x, refl, cc)
  found_back (x ∷ xs) (suc k) y e = found_back xs k y e

  -- the same where what is told goes by the items' numbers
  pub each_told : (P : ℕ → B → Type 0) (xs : List A) → ((v : ℕ) (x : A) → slice_get xs v ≡ Some x → P v (g x)) ↔ ((v : ℕ) (y : B) → slice_get (map g xs) v ≡ Some y → P v y)
  each_told P xs =
      (λ h v y e. let f = found_back xs v y e in subst (P v) f.2 (h v f.0 f.1), λ h v x e. h v (g x) (slice_get-map g xs v ∙ ap (option_map g) e))
