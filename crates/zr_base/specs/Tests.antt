-- What a test answers: whether a fact holds, or the first step that is too wide.
use Rattle.std.specs.Prelude.{◌≡◌, ◌↔◌, Bool, IsTrue, Option, Some, None, Result, Ok, Err, List, [], ◌∷◌}
use Rattle.zr_base.specs.declared.step.Wide.{Wide}

-- the step at which a computation is too wide
abbrev pub wide_in : {A : Type 0} → Result A Wide → Option Wide
wide_in (Ok a) = None
wide_in (Err w) = Some w

-- the first of two
abbrev pub or_else : Option Wide → Option Wide → Option Wide
or_else None b = b
or_else (Some w) b = Some w

-- the first wide step that f gives along a list
abbrev pub first_wide : {A : Type 0} → (A → Option Wide) → List A → Option Wide
first_wide f [] = None
first_wide f (x ∷ xs) = or_else (f x) (first_wide f xs)

-- no step is wide and the answer tells whether P holds, or the answer is the wide step
abbrev pub Tells : Result Bool Wide → Type 0 → Option Wide → Type 0
Tells (Ok passes) P wide = (wide ≡ None) × (IsTrue passes ↔ P)
Tells (Err w) P wide = wide ≡ Some w
