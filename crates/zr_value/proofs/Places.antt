-- How an answer, its content and its place go together.
use Rattle.std.proofs.Common.{◌≡◌, ℕ, List, [], refl, Result, Ok, Err, OnOk, string_bytes}
use Rattle.zr_value.specs.declared.fault.GameFault.{GameFault}
use Rattle.zr_value.specs.declared.fault.GameError.{GameError}
use Rattle.zr_value.specs.declared.fault.GameError.TheVariants.{At, NoMemory}
use Rattle.zr_value.specs.Faults.{Read, Reads, Says, Placed, Longer, fault, under, ◌>>=◌}

-- the error of a value, one step up
pub says_longer : {A : Type 0} (step : List ℕ) (e f : GameError) (r : Read A) → Longer step e f → Says e r → Says f (under step r)
says_longer step (At k p) (At j q) r h s = rw s (rw (h.0, h.1) refl)
says_longer step (At k p) NoMemory r h s = tt
says_longer step NoMemory f r h s = rw h tt

pub placed_reads : {T A : Type 0} (see : T → A) (step : List ℕ) (read result : Result T GameError) (r : Read A) → Placed step read result → Reads see read r → Reads see result (under step r)
placed_reads see step (Ok x) result r h s = rw (h, s) refl
placed_reads see step (Err e) (Ok x) r h s = absurd h
placed_reads see step (Err e) (Err f) r h s = says_longer step e f r h s

-- a fault of the value itself
pub says_fault : (A : Type 0) (what : GameFault) (e : GameError) → ((path : _) × (e ≡ At what path) × (string_bytes path ≡ [])) → Says e (fault {A = A} what)
says_fault A what e h = rw (h.1) (rw (h.2) refl)

-- a fault ends what follows
pub says_then : {A B : Type 0} (e : GameError) (r : Read A) (f : A → Read B) → Says e r → Says e (r >>= f)
says_then (At k p) r f h = rw h refl
says_then NoMemory r f h = tt

-- what holds where the call succeeded
pub on_placed : {T : Type 0} (P : Type 0) (step : List ℕ) (read : Result T GameError) (x : T) → Placed step read (Ok x) → OnOk read P → P
on_placed P step (Ok y) x h p = p
on_placed P step (Err e) x h p = absurd h
