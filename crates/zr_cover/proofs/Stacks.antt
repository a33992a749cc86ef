-- The branches that are due, as a stack.
use Rattle.std.proofs.Common.{◌≡◌, refl, List, [], ◌∷◌, ◌++◌}
use Rattle.std.specs.Prelude.{Vec, Option, Some, None, MatchOption, option_to_list}
use Rattle.std.specs.declared.alloc.Global.{Global}
use Rattle.zr_asked.specs.declared.question.Move.{Move}
use Rattle.zr_cover.specs.Fates.{due_paths, due_on}

pub due_push : (done : List (List Move)) (paths : List (Vec Move Global))
    (path : Vec Move Global) → due_on done (paths ++ path ∷ []) ≡ path.items ∷ due_on done paths
due_push done [] path = refl
due_push done (first ∷ paths) path = due_push (first.items ∷ done) paths path

pub due_pop : (old new : List (Vec Move Global)) (taken : Option (Vec Move Global))
    → old ≡ new ++ option_to_list taken → (taken ≡ None → new ≡ [])
    → MatchOption taken (due_paths old ≡ []) (λ path. due_paths old ≡ path.items ∷ due_paths new)
due_pop old new None e none = rw (e, none refl) refl
due_pop old new (Some path) e none = rw e (due_push [] new path)
