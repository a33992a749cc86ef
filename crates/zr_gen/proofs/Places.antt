-- Places among a player's draws.
use Rattle.std.proofs.Common.{◌≡◌, ◌≢◌, ℕ, ◌+◌, ◌-◌, ◌*◌, ◌<◌, ◌≤◌, nat_lt, Bool, true, false, if◌then◌else◌, arith, refl}
use Rattle.std.proofs.lemmas.Bool.{ltb-true, ltb-false}
use Rattle.std.proofs.lemmas.Nat.{mul-add-lt}
use Rattle.zr_gen.specs.Draws.{rank}

by_test : (i j players : ℕ) (b : Bool) → nat_lt j i ≡ b → i < players → j < players → j ≢ i
    → (if b then j else j - 1) + 2 ≤ players
by_test i j players true e h l n = let below = ltb-true j i e in omega (arith, below)
by_test i j players false e h l n = let above = ltb-false j i e in omega (arith, above)

pub rank_small : (i j players : ℕ) → i < players → j < players → j ≢ i → rank i j + 2 ≤ players
rank_small i j players h l n = by_test i j players (nat_lt j i) refl h l n

-- the place of an item's number with another player's
pub round_place : (players items round k : ℕ) → round ≤ players → k < items
    → round * items + k < (players + 1) * items
round_place players items round k h l =
    let below = mul-add-lt round items k (players + 1) (omega (arith, h)) l in
    omega (arith, below)
