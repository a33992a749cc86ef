-- A walk over the items of a list.
use Rattle.std.proofs.Common.{◌≡◌, ℕ, ◌+◌, ◌<◌, ◌≤◌, List, length, drop, get_or, map, refl, sym, ◌∙◌, add-one, drop-cons, decimal}
use Rattle.std.specs.Prelude.{Result, Ok, Err}
use Rattle.std.proofs.lemmas.List.{drop_all}
use Rattle.zr_value.specs.declared.fault.GameError.{GameError}
use Rattle.zr_value.specs.Faults.{Read, Reads, Says, Placed, under, ◌>>=◌}
use Rattle.zr_value.proofs.Places.{placed_reads, says_then}
use Rattle.zr_value.specs.Values.{each}

-- the walk over what is seen of the items has come to item i with s
pub record Walked {S A T : Type 0} (add : S → A → Read S) (see : T → A) (start : S) (vs : List T)
    (i : ℕ) (s : S) : Type 0 where
  pub rest : each add 0 start (map see vs) ≡ each add i s (map see (drop i vs))

module _ {S A T U : Type 0} (add : S → A → Read S) (see : T → A) (start : S) (vs : List T) (v : T)
    (i : ℕ) (s : S) (at : v ≡ get_or vs i v) (below : i < length vs)
    (walked : Walked add see start vs i s) (content : U → S) (result : Result U GameError)
    (read : Reads content result (add s (see v))) where
  step : each add i s (map see (drop i vs)) ≡ (under (decimal i) (add s (see v)) >>= λ more.
      each add (i + 1) more (map see (drop (i + 1) vs)))
  step = rw (drop-cons vs i v below) (rw (sym at, add-one) refl)

  -- one item more was added
  pub walked_more : (x : U) → Placed (decimal i) result (Ok x)
      → Walked add see start vs (i + 1) (content x)
  walked_more x h =
      let e : under (decimal i) (add s (see v)) ≡ Ok (content x) =
      placed_reads content (decimal i) result (Ok x) (add s (see v)) h read in
      record { rest = walked.rest ∙ step ∙ rw e refl }

  -- an item has a fault
  pub walk_stops : (e : GameError) → Placed (decimal i) result (Err e)
      → Says e (each add 0 start (map see vs))
  walk_stops e h = rw (walked.rest ∙ step) (says_then e _ _
      (placed_reads content (decimal i) result (Err e) (add s (see v)) h read))

-- all items were added
pub walk_ends : {S A T : Type 0} (add : S → A → Read S) (see : T → A) (start : S) (vs : List T)
    (i : ℕ) (s : S) → length vs ≤ i → Walked add see start vs i s
    → each add 0 start (map see vs) ≡ Ok s
walk_ends add see start vs i s past walked = walked.rest ∙ rw (drop_all i vs past) refl
