-- What holds of each member of a list.
use Rattle.std.proofs.Common.{◌≡◌, ℕ, suc, arith, refl, subst, Bool, true, false, cond, All, Some, List, [], ◌∷◌, ◌++◌, map, slice_get, ◌⊎◌, ⊎_elim, inl, inr}
use Rattle.std.specs.List.{filter}
use Rattle.std.proofs.lemmas.Option.{get_or_from_slice_get, slice_get_within}
use Rattle.zr_base.proofs.Worth.{Each}

-- the list has the member
abbrev pub Has : {X : Type 0} → List X → X → Type 0
Has [] u = ⊥
Has (x ∷ xs) u = (x ≡ u) ⊎ Has xs u

pub each_at : {X : Type 0} (P : X → Type 0) (xs : List X) (u : X) → Has xs u → Each P xs → P u
each_at P [] u h e = absurd h
each_at P (x ∷ xs) u h e = ⊎_elim (λ (q : x ≡ u). subst P q e.0) (λ (r : Has xs u). each_at P xs u r e.1) h

-- P holds of each, given that it does of each member
pub each_of : {X : Type 0} (P : X → Type 0) (xs : List X) → ((x : X) → Has xs x → P x) → Each P xs
each_of P [] f = tt
each_of P (x ∷ xs) f = (f x (inl refl), each_of P xs (λ y h. f y (inr h)))

pub each_weaker : {X : Type 0} (P Q : X → Type 0) (xs : List X) → ((x : X) → P x → Q x) → Each P xs → Each Q xs
each_weaker P Q [] f h = tt
each_weaker P Q (x ∷ xs) f h = (f x h.0, each_weaker P Q xs f h.1)

pub each_join : {X : Type 0} (P : X → Type 0) (xs ys : List X) → Each P xs → Each P ys → Each P (xs ++ ys)
each_join P [] ys h k = k
each_join P (x ∷ xs) ys h k = (h.0, each_join P xs ys h.1 k)

pub each_front : {X : Type 0} (P : X → Type 0) (xs ys : List X) → Each P (xs ++ ys) → Each P xs
each_front P [] ys h = tt
each_front P (x ∷ xs) ys h = (h.0, each_front P xs ys h.1)

pub each_back : {X : Type 0} (P : X → Type 0) (xs ys : List X) → Each P (xs ++ ys) → Each P ys
each_back P [] ys h = h
each_back P (x ∷ xs) ys h = each_back P xs ys h.1

pub has_map : {X Y : Type 0} (f : X → Y) (xs : List X) (y : Y) → Has (map f xs) y → (x : X) × Has xs x × (f x ≡ y)
has_map f [] y h = absurd h
has_map f (x ∷ xs) y (inl e) = (x, inl refl, e)
has_map f (x ∷ xs) y (inr h) = let r = has_map f xs y h in (r.0, inr r.1, r.2)

pub each_map : {X Y : Type 0} (f : X → Y) (P : Y → Type 0) (Q : X → Type 0) (xs : List X) → ((x : X) → P (f x) → Q x) → Each P (map f xs) → Each Q xs
each_map f P Q [] g h = tt
each_map f P Q (x ∷ xs) g h = (g x h.0, each_map f P Q xs g h.1)

pub each_filter : {X : Type 0} (P : X → Type 0) (test : X → Bool) (xs : List X) → Each P xs → Each P (filter test xs)
each_filter P test [] h = tt
each_filter P test (x ∷ xs) h = keep (test x) (each_filter P test xs h.1)
  where
    keep : (b : Bool) → Each P (filter test xs) → Each P (cond b (x ∷ filter test xs) (filter test xs))
    keep true rest = (h.0, rest)
    keep false rest = rest

pub each_of_all : {X : Type 0} (P : X → Type 0) (xs : List X) → All P xs → Each P xs
each_of_all P [] all = tt
each_of_all P (x ∷ xs) all =
    (all 0 x (omega arith), each_of_all P xs (λ k d h. all (suc k) d (omega arith)))

-- an item that was found has what all have
pub all_found : {X : Type 0} (P : X → Type 0) (xs : List X) (k : ℕ) (x : X) → All P xs → slice_get xs k ≡ Some x → P x
all_found P xs k x all found =
    subst P (get_or_from_slice_get xs k x x found) (all k x (slice_get_within xs k x found))
