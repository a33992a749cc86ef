-- What holds of each member of a list.
use Rattle.std.proofs.Common.{◌≡◌, refl, subst, List, [], ◌∷◌, ◌++◌, map, ◌⊎◌, ⊎_elim, inl, inr}
use Rattle.zr_base.proofs.Worth.{Each}

-- the list has the member
abbrev pub Has : {X : Type 0} → List X → X → Type 0
Has [] u = ⊥
Has (x ∷ xs) u = (x ≡ u) ⊎ Has xs u

pub each_at : {X : Type 0} (P : X → Type 0) (xs : List X) (u : X) → Has xs u → Each P xs → P u
each_at P [] u h e = absurd h
each_at P (x ∷ xs) u h e = ⊎_elim (λ (q : x ≡ u). subst P q e.0) (λ (r : Has xs u). each_at P xs u r e.1) h

-- P holds of each, given that it does of each member
pub each_of : {X : Type 0} (P : X → Type 0) (xs : List X) → ((x : X) → Has xs x → P x) → Each P xs
each_of P [] f = tt
each_of P (x ∷ xs) f = (f x (inl refl), each_of P xs (λ y h. f y (inr h)))

pub each_weaker : {X : Type 0} (P Q : X → Type 0) (xs : List X) → ((x : X) → P x → Q x) → Each P xs → Each Q xs
each_weaker P Q [] f h = tt
each_weaker P Q (x ∷ xs) f h = (f x h.0, each_weaker P Q xs f h.1)

pub each_join : {X : Type 0} (P : X → Type 0) (xs ys : List X) → Each P xs → Each P ys → Each P (xs ++ ys)
each_join P [] ys h k = k
each_join P (x ∷ xs) ys h k = (h.0, each_join P xs ys h.1 k)

pub each_front : {X : Type 0} (P : X → Type 0) (xs ys : List X) → Each P (xs ++ ys) → Each P xs
each_front P [] ys h = tt
each_front P (x ∷ xs) ys h = (h.0, each_front P xs ys h.1)

pub each_back : {X : Type 0} (P : X → Type 0) (xs ys : List X) → Each P (xs ++ ys) → Each P ys
each_back P [] ys h = h
each_back P (x ∷ xs) ys h = each_back P xs ys h.1

pub has_map : {X Y : Type 0} (f : X → Y) (xs : List X) (y : Y) → Has (map f xs) y → (x : X) × Has xs x × (f x ≡ y)
has_map f [] y h = absurd h
has_map f (x ∷ xs) y (inl e) = (x, inl refl, e)
has_map f (x ∷ xs) y (inr h) = let r = has_map f xs y h in (r.0, inr r.1, r.2)

pub each_map : {X Y : Type 0} (f : X → Y) (P : Y → Type 0) (Q : X → Type 0) (xs : List X) → ((x : X) → P (f x) → Q x) → Each P (map f xs) → Each Q xs
each_map f P Q [] g h = tt
each_map f P Q (x ∷ xs) g h = (g x h.0, each_map f P Q xs g h.1)
