-- What tests on numbers of 128 bits say of the numbers.
use Rattle.std.proofs.Common.{◌≡◌, ℕ, ◌<◌, ◌^◌, sym, ap, ◌∙◌, ℤ, pos, FitsSigned, to_z, of_z}
use Rattle.std.proofs.lemmas.Int.{to_z_pos, to_z-of_z}
use Rattle.std.specs.Int.{w128}

pub bits_are : (x : ℤ) (n : ℕ) → FitsSigned w128 x → n < 2 ^ 127 → of_z w128 x ≡ n → x ≡ pos n
bits_are x n fits low e = sym (to_z-of_z w128 x fits) ∙ ap (to_z w128) e ∙ to_z_pos w128 n low
