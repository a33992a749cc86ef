-- The branches that are open, as a stack.
use Rattle.std.proofs.Common.{◌≡◌, refl, List, [], ◌∷◌, ◌++◌}
use Rattle.std.specs.Prelude.{Vec, Option, Some, None, MatchOption, option_to_list}
use Rattle.std.specs.declared.alloc.Global.{Global}
use Rattle.zr_asked.specs.declared.question.Move.{Move}
use Rattle.zr_bnb.specs.Found.{pending, pending_on}

pub pending_push : (done : List (List Move)) (paths : List (Vec Move Global)) (path : Vec Move Global) → pending_on done (paths ++ path ∷ []) ≡ path.items ∷ pending_on done paths
pending_push done [] path = refl
pending_push done (first ∷ paths) path = pending_push (first.items ∷ done) paths path

pub pending_pop : (old new : List (Vec Move Global)) (taken : Option (Vec Move Global)) → old ≡ new ++ option_to_list taken → (taken ≡ None → new ≡ []) → MatchOption taken (pending old ≡ []) (λ path. pending old ≡ path.items ∷ pending new)
pending_pop old new None e none =
    rw (e, none refl) refl
pending_pop old new (Some path) e none = rw e (pending_push [] new path)
