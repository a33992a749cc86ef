-- The unknowns' numbers one by one.
use Rattle.std.proofs.Common.{◌≡◌, ℕ, ◌+◌, refl, ap, ap₂, sym, ◌∙◌, add-one, ℤ, ◌-ℤ◌, Bool, if◌then◌else◌, List, [], ◌∷◌, ◌++◌}
use Rattle.zr_system.specs.Asked.{firsts}
use Rattle.zr_choices.specs.Parted.{joined, place}

pub firsts_more : (k : ℕ) (f : ℕ → ℤ) (z : ℤ) (xs ys : List ℤ) → xs ≡ firsts k f
    → ys ≡ xs ++ (z ∷ []) → z ≡ f k → ys ≡ firsts (k + 1) f
firsts_more k f z xs ys e g h =
    let s : firsts (k + 1) f ≡ firsts k f ++ (f k ∷ []) = rw add-one refl in
    g ∙ ap₂ (λ (zs : List ℤ) (x : ℤ). zs ++ (x ∷ [])) e h ∙ sym s

pub joined_at : (free : ℕ → Bool) (q : ℕ → ℤ) (j c : ℕ) → c ≡ place free j
    → (if free j then q c -ℤ q (c + 1) else q c) ≡ joined free q j
joined_at free q j c e =
    ap (λ (k : ℕ). if free j then q k -ℤ q (k + 1) else q k) e

pub place_more : (free : ℕ → Bool) (j : ℕ) → place free (j + 1)
    ≡ place free j + (if free j then 2 else 1)
place_more free j = rw add-one refl
