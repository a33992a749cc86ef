-- Terms in their order.
use Rattle.std.proofs.Common.{ℕ, zero, suc, ◌+◌, ◌<◌, arith, ℤ, [], ◌∷◌, All, unsigned_abs, ◌≤◌, ◌^◌, lit<}
use Rattle.std.proofs.lemmas.Int.{ints}
use Rattle.zr_base.specs.Steps.{IsNarrow}
use Rattle.zr_base.specs.Terms.{Terms, AscendWith, Ascends}
use Rattle.zr_game.specs.Forms.{IsCoefficient, IsNumber}

-- each column is one of the columns
pub columns_exist : (P : ℤ → Type 0) (low columns : ℕ) (ts : Terms) → AscendWith P low columns ts → All (λ t. t.0 < columns) ts
columns_exist P low columns [] a k d h = absurd (omega arith)
columns_exist P low columns (t ∷ ts) a zero d h = a.1
columns_exist P low columns (t ∷ ts) a (suc k) d h = columns_exist P (t.0 + 1) columns ts a.3 k d (omega arith)

pub number_narrow : (z : ℤ) → IsNumber z → IsNarrow z
number_narrow z h =
    let small : unsigned_abs z ≤ 1000000000 = omega (arith, ints, h) in
    let limit : 1000000000 < 2 ^ 127 = lit< tt in
    omega (arith, small, limit)

-- the numbers of terms aren't too wide
pub ascends : (ts : Terms) (low columns : ℕ) → AscendWith IsCoefficient low columns ts → Ascends low columns ts
ascends [] low columns a = tt
ascends (t ∷ ts) low columns a = (a.0, a.1, number_narrow t.1 a.2.0, ascends ts (t.0 + 1) columns a.3)
