-- The items of a JSON list as a list.
use Rattle.std.proofs.Common.{◌≡◌, List, [], ◌∷◌, ap, refl}
use Rattle.serde_json.specs.Data.{Data}
use Rattle.serde_json.specs.View.{items_of}
use Rattle.zr_value.specs.Values.{listed_items}

pub listed_back : (ds : List Data) → listed_items (items_of ds) ≡ ds
listed_back [] = refl
listed_back (d ∷ ds) = ap (λ rest. d ∷ rest) (listed_back ds)
