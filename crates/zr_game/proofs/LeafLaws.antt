-- Leaves as functions, and when they are settled.
use Rattle.std.proofs.Common.{◌≡◌, ◌↔◌, ℕ, zero, suc, [], ◌∷◌, ◌<◌, refl, Bool, true, ◌&&◌, IsTrue, ℤ, Some, None, List, length, map, replicate, get_or, slice_get}
use Rattle.zr_base.proofs.Telling.{both_true, true_both}
use Rattle.zr_game.specs.declared.player.Var.{Var}
use Rattle.zr_game.specs.declared.leaf.Side.TheVariants.{Undecided}
use Rattle.zr_game.specs.Players.{PlayerOf, VarOf, var_of}
use Rattle.zr_game.specs.Leaves.{IsSettled, LeafOf, low_of, up_of}

-- leaves that agree at each number are the same
pub same_leaf : (a b : LeafOf) → ((v : ℕ) → a.low v ≡ b.low v) → ((v : ℕ) → a.high v ≡ b.high v)
    → ((p : ℕ) → a.side p ≡ b.side p) → a ≡ b
same_leaf a b l h s = λ i. record { low = λ v. l v i; high = λ v. h v i; side = λ p. s p i }

-- a list of one value only, read with that value beyond its end
pub all_same : {A : Type 0} (n : ℕ) (a : A) (k : ℕ) → get_or (replicate n a) k a ≡ a
all_same zero a k = refl
all_same (suc n) a zero = refl
all_same (suc n) a (suc k) = all_same n a k

-- the lists of lower and of upper bounds
pub lows_are : (vars : List Var) (v : ℕ)
    → get_or (map (λ var. var.low) vars) v None ≡ low_of (map var_of vars) v
lows_are [] v = refl
lows_are (var ∷ vars) zero = refl
lows_are (var ∷ vars) (suc v) = lows_are vars v

pub ups_are : (vars : List Var) (v : ℕ)
    → get_or (map (λ var. var.up) vars) v None ≡ up_of (map var_of vars) v
ups_are [] v = refl
ups_are (var ∷ vars) zero = refl
ups_are (var ∷ vars) (suc v) = ups_are vars v

-- the two tests of a settled leaf
pub settled_by : (player : PlayerOf) (leaf : LeafOf) (a b : Bool)
    → (IsTrue a ↔ ((v : ℕ) (var : VarOf) → slice_get player.vars v ≡ Some var → var.whole ≡ true
    → (value : ℤ) × (leaf.low v ≡ Some value) × (leaf.high v ≡ Some value)))
    → (IsTrue b ↔ ((p : ℕ) → p < length player.pairs → leaf.side p ≡ Undecided → ⊥))
    → IsTrue (a && b) ↔ IsSettled player leaf
settled_by player leaf a b fixed decided = (
  λ h. record { vars = fixed.0 (both_true a b h).0; pairs = decided.0 (both_true a b h).1 },
  λ s. true_both a b (fixed.1 s.vars) (decided.1 s.pairs),
)
