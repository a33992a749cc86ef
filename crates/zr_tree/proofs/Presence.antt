-- Whether multiplied slots are present.
use Rattle.std.proofs.Common.{zero, suc, arith, Option, List, [], ◌∷◌, length, IsSome}
use Rattle.zr_base.proofs.Telling.{EachBelow}
use Rattle.zr_game.specs.Leaves.{Bound, slot_of}
use Rattle.zr_tree.specs.Nodes.{Multipliers}
use Rattle.zr_tree.specs.Right.{ArePresent}

pub present_if : (rows : List (Option Bound)) (mult : Multipliers) → EachBelow (length mult) (λ k t. IsSome (slot_of rows t.0)) mult → ArePresent rows mult
present_if rows [] h = tt
present_if rows (t ∷ ts) h =
    (h 0 t (omega arith), present_if rows ts (λ k d below. h (suc k) d (omega (arith, below))))

pub each_present : (rows : List (Option Bound)) (mult : Multipliers) → ArePresent rows mult → EachBelow (length mult) (λ k t. IsSome (slot_of rows t.0)) mult
each_present rows [] h k d below = absurd (omega (arith, below))
each_present rows (t ∷ ts) h zero d below = h.0
each_present rows (t ∷ ts) h (suc k) d below = each_present rows ts h.1 k d (omega (arith, below))
