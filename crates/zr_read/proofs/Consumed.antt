-- A walk that takes the items of a list away.
use Rattle.std.proofs.Common.{◌≡◌, ℕ, ◌+◌, List, ◌∷◌, map, refl, ◌∙◌, decimal}
use Rattle.std.specs.Prelude.{Result, Ok, Err}
use Rattle.zr_value.specs.declared.fault.GameError.{GameError}
use Rattle.zr_value.specs.Faults.{Read, Reads, Says, Placed, under}
use Rattle.zr_value.specs.Values.{each}
use Rattle.zr_value.proofs.Places.{placed_reads, says_then}

module _ {S A T U : Type 0} (add : S → A → Read S) (see : T → A) (all : Read S) (n i m : ℕ) (s : S)
    (ws : List T) (w : T) (vs : List T) (taken : ws ≡ w ∷ vs) (here : i ≡ n) (next : m ≡ n + 1)
    (walked : all ≡ each add n s (map see ws)) (content : U → S) (result : Result U GameError)
    (read : Reads content result (add s (see w))) where
  -- one item more was added
  pub consumed_more : (x : U) → Placed (decimal i) result (Ok x)
      → all ≡ each add m (content x) (map see vs)
  consumed_more x h =
      let e : under (decimal i) (add s (see w)) ≡ Ok (content x) =
      placed_reads content (decimal i) result (Ok x) (add s (see w)) h read in
      walked ∙ rw taken (rw (← here) (rw e (rw next (rw here refl))))

  -- an item has a fault
  pub consumed_stops : (e : GameError) → Placed (decimal i) result (Err e) → Says e all
  consumed_stops e h =
      rw walked (rw taken (rw (← here) (says_then e _ _
      (placed_reads content (decimal i) result (Err e) (add s (see w)) h read))))
