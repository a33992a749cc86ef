-- Small numbers are numbers of a game.
use Rattle.std.proofs.Common.{ℕ, zero, suc, ◌≤◌, arith, pos, neg_ℤ}
use Rattle.std.proofs.lemmas.Int.{ints}
use Rattle.zr_game.specs.Forms.{IsCoefficient, IsNumber}

pub number : (n : ℕ) → n ≤ 1000 → IsNumber (pos n)
number n h = (omega (arith, ints), omega (arith, ints))

pub positive : (n : ℕ) → 1 ≤ n → n ≤ 1000 → IsCoefficient (pos n)
positive n l h = (number n h, λ e. omega (arith, ints, e))

pub negative : (n : ℕ) → 1 ≤ n → n ≤ 1000 → IsCoefficient (neg_ℤ (pos n))
negative zero l h = absurd (omega (arith, l))
negative (suc n) l h = ((omega (arith, ints), omega (arith, ints)), λ e. omega (arith, ints, e))
