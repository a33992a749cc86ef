-- Lists of node numbers.
use Rattle.std.specs.Prelude.{◌≡◌, ℕ, zero, suc, ◌+◌, ◌==◌, ◌⊎◌, List, [], ◌∷◌, ◌++◌, Option, Some, None, if◌then◌else◌, ⊤}

-- so many numbers from this one on
abbrev pub numbers : ℕ → ℕ → List ℕ
numbers from zero = []
numbers from (suc count) = from ∷ numbers (from + 1) count

-- the first number, or this where there is none
abbrev pub first_or : List ℕ → Option ℕ → Option ℕ
first_or [] end = end
first_or (x ∷ xs) end = Some x

-- the first number, if there is one
abbrev pub first : List ℕ → Option ℕ
first xs = first_or xs None

-- the number after x in the list, if there is one
abbrev pub after : ℕ → List ℕ → Option ℕ
after x [] = None
after x (y ∷ ys) = if x == y then first ys else after x ys

-- the list with these numbers in the place of x
abbrev pub replaced : ℕ → List ℕ → List ℕ → List ℕ
replaced x by [] = []
replaced x by (y ∷ ys) = if x == y then by ++ ys else y ∷ replaced x by ys

-- the list without x
abbrev pub without : ℕ → List ℕ → List ℕ
without x xs = replaced x [] xs

-- the list has the number
abbrev pub Has : List ℕ → ℕ → Type 0
Has [] x = ⊥
Has (y ∷ ys) x = (x ≡ y) ⊎ Has ys x

-- the list has no number twice
abbrev pub NoRepeats : List ℕ → Type 0
NoRepeats [] = ⊤
NoRepeats (x ∷ xs) = ¬ Has xs x × NoRepeats xs

-- the last number, or this where there is none
abbrev pub last_or : Option ℕ → List ℕ → Option ℕ
last_or start [] = start
last_or start (x ∷ xs) = last_or (Some x) xs

-- the number, if there is one, is in the list
abbrev pub HasSome : List ℕ → Option ℕ → Type 0
HasSome xs None = ⊥
HasSome xs (Some x) = Has xs x
