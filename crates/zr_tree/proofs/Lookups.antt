-- Reads of lists.
use Rattle.std.proofs.Common.{◌≡◌, ◌↔◌, ℕ, zero, suc, ◌<◌, ◌≤◌, arith, refl, ap, subst, ◌∙◌, true, Some, None, List, [], ◌∷◌, length, map, get_or, slice_get, IsTrue}
use Rattle.std.proofs.lemmas.List.{length-map}
use Rattle.std.proofs.lemmas.Option.{slice_get_within}
use Rattle.zr_game.specs.declared.player.Var.{Var}
use Rattle.zr_game.specs.Players.{VarOf, var_of}
use Rattle.zr_game.specs.Leaves.{low_of, up_of}
use Rattle.zr_game.proofs.Items.{found, one}

-- a list whose items are all the default
pub beyond : {A : Type 0} (xs : List A) (d : A) (v : ℕ) → (v < length xs → get_or xs v d ≡ d) → get_or xs v d ≡ d
beyond [] d v h = refl
beyond (x ∷ xs) d zero h = h (omega arith)
beyond (x ∷ xs) d (suc v) h = beyond xs d v (λ p. h (omega (arith, p)))

-- an item of a mapped list is within the list
pub within : {A B : Type 0} (g : A → B) (xs : List A) (v : ℕ) (y : B) → slice_get (map g xs) v ≡ Some y → v < length xs
within g xs v y e = subst (λ n. v < n) (length-map xs g) (slice_get_within (map g xs) v y e)

-- the variable that was read is whole, and so the player has a whole variable there
pub whole_here : (vars : List Var) (v : ℕ) (x : Var) → v < length vars → x ≡ get_or vars v x → IsTrue x.whole ↔ ((var : VarOf) × (slice_get (map var_of vars) v ≡ Some var) × (var.whole ≡ true))
whole_here vars v x below is =
    let here = found var_of vars v x below is in
    (λ h. (var_of x, here, h), λ w. ap (λ (u : VarOf). u.whole) (one (map var_of vars) v (var_of x) w.0 here w.1) ∙ w.2)

pub none_whole : (vars : List Var) (v : ℕ) → length vars ≤ v → ((var : VarOf) × (slice_get (map var_of vars) v ≡ Some var) × (var.whole ≡ true)) → ⊥
none_whole vars v h w = let b = within var_of vars v w.0 w.1 in omega (arith, b, h)

pub up_here : (vars : List Var) (v : ℕ) (x : Var) → v < length vars → (get_or vars v x).up ≡ up_of (map var_of vars) v
up_here [] v x h = absurd (omega arith)
up_here (var ∷ vars) zero x h = refl
up_here (var ∷ vars) (suc v) x h = up_here vars v x (omega arith)

pub no_up : (vars : List Var) (v : ℕ) → length vars ≤ v → None ≡ up_of (map var_of vars) v
no_up [] v h = refl
no_up (var ∷ vars) zero h = absurd (omega arith)
no_up (var ∷ vars) (suc v) h = no_up vars v (omega arith)

pub low_here : (vars : List Var) (v : ℕ) (x : Var) → v < length vars → (get_or vars v x).low ≡ low_of (map var_of vars) v
low_here [] v x h = absurd (omega arith)
low_here (var ∷ vars) zero x h = refl
low_here (var ∷ vars) (suc v) x h = low_here vars v x (omega arith)

pub no_low : (vars : List Var) (v : ℕ) → length vars ≤ v → None ≡ low_of (map var_of vars) v
no_low [] v h = refl
no_low (var ∷ vars) zero h = absurd (omega arith)
no_low (var ∷ vars) (suc v) h = no_low vars v (omega arith)

-- a list that goes by f, and whose default does beyond its end
pub all_by : {A : Type 0} (xs : List A) (d : A) (f : ℕ → A) (v : ℕ) → (v < length xs → get_or xs v d ≡ f v) → (length xs ≤ v → d ≡ f v) → get_or xs v d ≡ f v
all_by [] d f v h k = k (omega arith)
all_by (x ∷ xs) d f zero h k = h (omega arith)
all_by (x ∷ xs) d f (suc v) h k = all_by xs d (λ w. f (suc w)) v (λ p. h (omega (arith, p))) (λ p. k (omega (arith, p)))
