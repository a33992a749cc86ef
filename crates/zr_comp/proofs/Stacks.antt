-- The paths that are due, as a stack.
use Rattle.std.proofs.Common.{◌≡◌, refl, List, [], ◌∷◌, ◌++◌}
use Rattle.std.specs.Prelude.{Vec, Option, Some, None, MatchOption, option_to_list}
use Rattle.std.specs.declared.alloc.Global.{Global}
use Rattle.zr_game.specs.declared.choice.Choice.{Choice}
use Rattle.zr_comp.specs.Cases.{due_paths, due_paths_on}

pub pending_push : (done : List (List Choice)) (paths : List (Vec Choice Global))
    (path : Vec Choice Global)
    → due_paths_on done (paths ++ path ∷ []) ≡ path.items ∷ due_paths_on done paths
pending_push done [] path = refl
pending_push done (first ∷ paths) path = pending_push (first.items ∷ done) paths path

pub pending_pop : (old new : List (Vec Choice Global)) (taken : Option (Vec Choice Global))
    → old ≡ new ++ option_to_list taken → (taken ≡ None → new ≡ [])
    → MatchOption taken (due_paths old ≡ []) (λ path. due_paths old ≡ path.items ∷ due_paths new)
pending_pop old new None e none = rw (e, none refl) refl
pending_pop old new (Some path) e none = rw e (pending_push [] new path)
