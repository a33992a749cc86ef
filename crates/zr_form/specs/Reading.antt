-- Reading a list from its front. The list is a text's lines, or a line's fields.
use Rattle.std.specs.Prelude.{ℕ, zero, suc, ◌+◌, List, [], ◌∷◌, ◌++◌, Option, Some, None, Result, Ok, Err}

-- a piece of a text: a line or a field
abbrev pub Bytes : Type 0
Bytes = List ℕ

-- what is read and what is left, or what is left from the first piece that is out of the form
abbrev pub Read : Type 0 → Type 0
Read X = List Bytes → Result (X × List Bytes) (List Bytes)

-- what was read is handed on, and an error stays
infixl 10 ◌>>=◌
abbrev pub ◌>>=◌ : {A B : Type 0} → Result A (List Bytes) → (A → Result B (List Bytes)) → Result B (List Bytes)
(Ok x) >>= f = f x
(Err e) >>= f = Err e

-- one after the other, made into one thing
abbrev pub join_read : {X Y Z : Type 0} → (X → Y → Z) → Read X → (X → Read Y) → Read Z
join_read make first second ls = first ls >>= λ x. second x.0 x.1 >>= λ y. Ok (make x.0 y.0, y.1)

-- read if it is there, else the reading stops before it
abbrev pub or_stop : {X : Type 0} → Option X → Bytes → List Bytes → Result (X × List Bytes) (List Bytes)
or_stop (Some x) l ls = Ok (x, ls)
or_stop None l ls = Err (l ∷ ls)

-- the first of the list
unfoldable pub one_read : {X : Type 0} → (Bytes → Option X) → Read X
one_read one [] = Err []
one_read one (l ∷ ls) = or_stop (one l) l ls

-- items until none is due; each closes one and opens as many as `more` says of it
unfoldable pub items_read : {X : Type 0} → (Bytes → Option X) → (X → ℕ) → List Bytes → ℕ → Result (List X × List Bytes) (List Bytes)
items_read one more [] zero = Ok ([], [])
items_read one more [] (suc due) = Err []
items_read one more (l ∷ ls) zero = Ok ([], l ∷ ls)
items_read one more (l ∷ ls) (suc due) = or_stop (one l) l ls >>= λ x. items_read one more ls (more x.0 + due) >>= λ xs. Ok (x.0 ∷ xs.0, xs.1)

-- so many items, numbered from i on
unfoldable pub many_read : {X : Type 0} → (ℕ → Read X) → ℕ → ℕ → Read (List X)
many_read item zero i ls = Ok ([], ls)
many_read item (suc count) i ls = join_read (λ x xs. x ∷ xs) (item i) (λ x. many_read item count (suc i)) ls

-- with so many due, these items close them all, and the last of them closes the last
abbrev pub Closes : {X : Type 0} → (X → ℕ) → List X → ℕ → Type 0
Closes more [] zero = Unit {0}
Closes more [] (suc due) = ⊥
Closes more (x ∷ xs) zero = ⊥
Closes more (x ∷ xs) (suc due) = Closes more xs (more x + due)

-- each of the items, numbered from i on
abbrev pub EachFrom : {X : Type 0} → (ℕ → X → Type 0) → ℕ → List X → Type 0
EachFrom P i [] = Unit {0}
EachFrom P i (x ∷ xs) = P i x × EachFrom P (suc i) xs

-- the pieces of the items, numbered from i on
abbrev pub spell_from : {X : Type 0} → (ℕ → X → List Bytes) → ℕ → List X → List Bytes
spell_from spell i [] = []
spell_from spell i (x ∷ xs) = spell i x ++ spell_from spell (suc i) xs
