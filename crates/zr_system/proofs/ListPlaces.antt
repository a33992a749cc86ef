-- How long joined lists are, and where their items stand.
use Rattle.std.proofs.Common.{◌≡◌, ◌≢◌, ℕ, zero, suc, ◌+◌, ◌*◌, ◌-◌, ◌<◌, ◌≤◌, arith, refl, sym, ap, subst, ◌∙◌, List, [], ◌∷◌, ◌++◌, length, length-append, slice_get, Some, ⊎_elim}
use Rattle.std.proofs.lemmas.Bool.{cases_eq}
use Rattle.std.proofs.lemmas.Option.{slice_get_within}
use Rattle.zr_system.specs.Unknowns.{list_to}

module _ {A : Type 0} where
  pub get_left : (xs ys : List A) (m : ℕ) → m < length xs
      → slice_get (xs ++ ys) m ≡ slice_get xs m
  get_left [] ys m h = absurd (omega arith)
  get_left (x ∷ xs) ys zero h = refl
  get_left (x ∷ xs) ys (suc m) h = get_left xs ys m (omega (arith, h))

  pub get_right : (xs ys : List A) (m : ℕ)
      → slice_get (xs ++ ys) (length xs + m) ≡ slice_get ys m
  get_right [] ys m = let e : 0 + m ≡ m = omega arith in ap (slice_get ys) e
  get_right (x ∷ xs) ys m =
      let e : suc (length xs) + m ≡ suc (length xs + m) = omega arith in
      ap (slice_get (x ∷ (xs ++ ys))) e ∙ get_right xs ys m

  pub get_after : (xs ys : List A) (m : ℕ) → length xs ≤ m
      → slice_get (xs ++ ys) m ≡ slice_get ys (m - length xs)
  get_after xs ys m h =
      let e : length xs + (m - length xs) ≡ m = omega (arith, h) in
      ap (slice_get (xs ++ ys)) (sym e) ∙ get_right xs ys (m - length xs)

  -- lists of one length
  pub length_each : (n c : ℕ) (f : ℕ → List A) → ((k : ℕ) → length (f k) ≡ c)
      → length (list_to n f) ≡ n * c
  length_each zero c f h = omega arith
  length_each (suc n) c f h =
      let r = length_each n c f h in
      let a = length-append (list_to n f) (f n) in
      let s = h n in
      omega (arith, r, a, s)

  module _ (f : ℕ → List A) where
    -- the lists before one, and that one
    shorter : (n m : ℕ) → m < n → length (list_to m f) + length (f m) ≤ length (list_to n f)
    shorter zero m h = absurd (omega arith)
    shorter (suc n) m h =
        let l = length-append (list_to n f) (f n) in
        ⊎_elim (λ (e : m ≡ n). subst
        (λ (k : ℕ). length (list_to k f) + length (f k) ≤ length (list_to n f ++ f n)) (sym e)
        (omega (arith, l)))
        (λ (c : m ≢ n). let r = shorter n m (omega (arith, h, c)) in omega (arith, l, r))
        (cases_eq m n)

    -- the items of list m stand after the lists before it
    pub get_in : (n m r : ℕ) → m < n → r < length (f m)
        → slice_get (list_to n f) (length (list_to m f) + r) ≡ slice_get (f m) r
    get_in zero m r h b = absurd (omega arith)
    get_in (suc n) m r h b =
        ⊎_elim (λ (e : m ≡ n). subst
        (λ (k : ℕ). slice_get (list_to n f ++ f n) (length (list_to k f) + r)
        ≡ slice_get (f k) r) (sym e) (get_right (list_to n f) (f n) r))
        (λ (c : m ≢ n). let s = shorter n m (omega (arith, h, c)) in
        get_left (list_to n f) (f n) (length (list_to m f) + r) (omega (arith, s, b))
        ∙ get_in n m r (omega (arith, h, c)) b) (cases_eq m n)

    pub found_in : (n m r : ℕ) (a : A) → m < n → slice_get (f m) r ≡ Some a
        → slice_get (list_to n f) (length (list_to m f) + r) ≡ Some a
    found_in n m r a h e = get_in n m r h (slice_get_within (f m) r a e) ∙ e

-- lists of the same lengths
pub length_like : {A B : Type 0} (n : ℕ) (f : ℕ → List A) (g : ℕ → List B)
    → ((k : ℕ) → length (f k) ≡ length (g k)) → length (list_to n f) ≡ length (list_to n g)
length_like zero f g h = refl
length_like (suc n) f g h =
    let r = length_like n f g h in
    let a = length-append (list_to n f) (f n) in
    let b = length-append (list_to n g) (g n) in
    let s = h n in
    omega (arith, r, a, b, s)
