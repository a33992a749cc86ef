-- Parts as they are kept, and what they are.
use Rattle.std.proofs.Common.{◌≡◌, ℕ, zero, suc, ◌+◌, ◌<◌, ◌≤◌, arith, refl, sym, ap, ◌∙◌, ℤ, unsigned_abs, int_div, List, [], ◌∷◌, ◌++◌, length, map, take, drop, get_or, All, Result, Ok, Err, OnOk}
use Rattle.std.proofs.lemmas.List.{append-nil, drop_all, map_more, take_all}
use Rattle.zr_base.proofs.Divisors.{quot_exact}
use Rattle.zr_base.proofs.Members.{each_of_all}
use Rattle.zr_base.proofs.Worth.{Each}
use Rattle.zr_game.specs.Profiles.{Part, Strategy}
use Rattle.zr_mix.specs.Mixtures.{part_of}
use Rattle.zr_mix.specs.declared.mixture.Part.{Part as KeptPart}
use Rattle.zr_system.proofs.Joined.{all_mapped, all_of_each, of_all_mapped}
use Rattle.zr_tidy.specs.Merges.{AreDivided, HasPut, done, more}
use Rattle.zr_tidy.proofs.Greatest.{first_weight}
use Rattle.zr_tidy.proofs.Printed.{HasForm}
use Rattle.zr_tidy.proofs.Tidying.{Divides, points_put}

module _ (P : Part → Type 0) where
  pub kept_all : (xs : List KeptPart) → Each P (map part_of xs) → All (λ x. P (part_of x)) xs
  kept_all xs h =
      all_of_each (λ x. P (part_of x)) xs
      (of_all_mapped part_of P xs (all_of_each P (map part_of xs) h))

  pub of_kept : (xs : List KeptPart) → All (λ x. P (part_of x)) xs → Each P (map part_of xs)
  of_kept xs h =
      each_of_all P (map part_of xs)
      (all_mapped part_of P xs (each_of_all (λ x. P (part_of x)) xs h))

  pub first_each : (xs : List KeptPart) (k : ℕ) → Each P (map part_of xs)
      → Each P (map part_of (take k xs))
  first_each xs zero h = tt
  first_each [] (suc k) h = tt
  first_each (x ∷ xs) (suc k) h = (h.0, first_each xs k h.1)

pub first_more : (xs : List KeptPart) (i : ℕ) (x : KeptPart) → i < length xs → x ≡ get_or xs i x
    → map part_of (take (i + 1) xs) ≡ map part_of (take i xs) ++ part_of x ∷ []
first_more xs i x h e =
    map_more part_of xs i x h
    ∙ ap (λ (y : KeptPart). map part_of (take i xs) ++ part_of y ∷ []) (sym e)

pub first_is : (xs : List KeptPart) (d : KeptPart) → 0 < length xs
    → first_weight (map part_of xs) ≡ (get_or xs 0 d).weight
first_is [] d h = absurd (omega arith)
first_is (x ∷ xs) d h = refl

-- ---- a part is put in

pub inserted : (p : KeptPart) (xs : List KeptPart) (k : ℕ)
    → map part_of (take k xs ++ p ∷ drop k xs)
    ≡ take k (map part_of xs) ++ part_of p ∷ drop k (map part_of xs)
inserted p xs zero = refl
inserted p [] (suc k) = refl
inserted p (x ∷ xs) (suc k) = ap (λ (ys : Strategy). part_of x ∷ ys) (inserted p xs k)

pub forms_put : (p : Part) (xs ys : List KeptPart) → All (λ x. HasForm x.point) xs
    → HasForm p.point → HasPut p (map part_of xs) (map part_of ys) → All (λ x. HasForm x.point) ys
forms_put p xs ys h form put =
    kept_all (λ q. HasForm q.point) ys
    (points_put HasForm p (map part_of xs) (map part_of ys) put
    (of_kept (λ q. HasForm q.point) xs h) form)

pub on_ok : {A E : Type 0} (P Q : Type 0) (r : Result A E) → (P → Q) → OnOk r P → OnOk r Q
on_ok P Q (Ok a) f h = f h
on_ok P Q (Err e) f h = h

-- ---- weights are divided

abbrev pub kept_without : ℤ → KeptPart → KeptPart
kept_without by p = record { weight = int_div p.weight by; point = p.point }

pub not_yet : (f : KeptPart → KeptPart) (xs : List KeptPart) (i : ℕ) (d : KeptPart)
    → get_or (map f (take i xs) ++ drop i xs) i d ≡ get_or xs i d
not_yet f xs zero d = refl
not_yet f [] (suc i) d = refl
not_yet f (x ∷ xs) (suc i) d = not_yet f xs i d

pub divided_one : (by : ℤ) (d g : KeptPart) (r : ℤ) → d ≡ g → r ≡ int_div g.weight by
    → let x : KeptPart = record { weight = r; point = g.point } in x ≡ kept_without by d
divided_one by d g r e v = rw (v, e) refl

pub whole_list : (f : KeptPart → KeptPart) (xs ys : List KeptPart) (i : ℕ) → length xs ≤ i
    → ys ≡ map f (take i xs) ++ drop i xs → ys ≡ map f xs
whole_list f xs ys i h e = e ∙ rw (take_all i xs h, drop_all i xs h) (append-nil (map f xs))

pub all_divided : (by : ℤ) (xs : List KeptPart) → Each (Divides (unsigned_abs by)) (map part_of xs)
    → AreDivided by (map part_of xs) (map part_of (map (kept_without by) xs))
all_divided by [] h = done
all_divided by (x ∷ xs) h =
    more (part_of x) (part_of (kept_without by x)) (map part_of xs)
    (map part_of (map (kept_without by) xs)) refl (quot_exact x.weight by h.0)
    (all_divided by xs h.1)
