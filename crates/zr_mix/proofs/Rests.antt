-- A term in the others' variables at the means of a list, step by step.
use Rattle.std.proofs.Common.{◌≡◌, ℕ, refl, pos, Some, Ok, Err, IfOk, Result, List}
use Rattle.zr_base.specs.declared.step.Wide.{Wide}
use Rattle.zr_base.specs.Fractions.{Fraction, whole}
use Rattle.zr_base.specs.Lowest.{mul_of}
use Rattle.zr_game.specs.declared.player.Other.{Other}
use Rattle.zr_game.specs.Players.{GameOf}
use Rattle.zr_mix.specs.Steps.{mean_in, rest_term}

module _ (game : GameOf) (means : List Fraction) (t : Other) where
  -- the first product is too wide
  pub first_wide : (w : Wide) → mul_of (whole t.coef) (mean_in game means t.first) ≡ Err w
      → Err w ≡ rest_term game means t
  first_wide w e = rw e refl

  -- the second product, where there is one
  pub second_made : (at : ℕ × ℕ) → t.second ≡ Some at → (first : Fraction)
      → mul_of (whole t.coef) (mean_in game means t.first) ≡ Ok first
      → mul_of first (mean_in game means at) ≡ rest_term game means t
  second_made at two first e = rw (e, two) refl
