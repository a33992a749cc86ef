-- Lists that are made item by item, by steps each of which may be too wide.
use Rattle.std.specs.Prelude.{◌≡◌, ℕ, zero, suc, ◌+◌, List, [], ◌∷◌, Result, Ok, Err, ⊤}
use Rattle.zr_base.specs.declared.step.Wide.{Wide}
use Rattle.zr_base.specs.Steps.{◌>>=◌}

-- what make gives at k, k + 1, .., so many of them, in this order
abbrev pub made_from : {A : Type 0} → (ℕ → Result A Wide) → ℕ → ℕ → Result (List A) Wide
made_from make k zero = Ok []
made_from make k (suc n) = make k >>= λ a. made_from make (k + 1) n >>= λ rest. Ok (a ∷ rest)

-- the list was written, or the step was too wide
abbrev pub Writes : {A : Type 0} → Result (List A) Wide → Result ⊤ Wide → List A → Type 0
Writes (Ok list) result out = (result ≡ Ok tt) × (out ≡ list)
Writes (Err w) result out = result ≡ Err w
