-- Items of a mapped list.
use Rattle.std.proofs.Common.{◌≡◌, ℕ, ◌<◌, sym, ap, subst, ◌∙◌, List, map, length, get_or}
use Rattle.std.specs.List.{Contains}
use Rattle.std.proofs.lemmas.List.{get_or-map, length-map}

-- the item that was read is one of the mapped list
pub contains_read : {A B : Type 0} (g : A → B) (xs : List A) (i : ℕ) (x : A) → i < length xs
    → x ≡ get_or xs i x → Contains (map g xs) (g x)
contains_read g xs i x below is = (
  i,
  subst (λ (n : ℕ). i < n) (sym (length-map xs g)) below,
  get_or-map g xs i x (g x) below ∙ ap g (sym is),
)
