-- What the sums of a part's line give.
use Rattle.std.specs.Prelude.{◌≡◌, ◌↔◌, ℕ, ℤ, pos, Bool, IsTrue, Result, Ok, map, take}
use Rattle.zr_base.specs.declared.step.Wide.{Wide}
use Rattle.zr_base.specs.Sums.{sum_steps}
use Rattle.zr_game.specs.Players.{PlayerOf}
use Rattle.zr_game.specs.Feasible.{IsFeasible}
use Rattle.zr_game.specs.Profiles.{Part, Strategy}
use Rattle.zr_cert.specs.Certs.{MixtureOf}
use Rattle.zr_check.specs.Parts.{IsWidePart, weight_steps}

-- the weights of the first k parts, summed from the left
abbrev pub weights_before : Strategy → ℕ → Result ℤ Wide
weights_before parts k = sum_steps (pos 0) (map (λ part. (part.weight, pos 1)) (take k parts))

-- no step of the line is too wide; the weights up to the part, and whether its point is feasible
pub record IsPartMade (player : PlayerOf) (m : MixtureOf) (k : ℕ) (part : Part) (sum : ℤ) (feasible : Bool) : Type 0 where
  pub narrow : IsWidePart player m k part → ⊥
  pub weights : weight_steps m.parts k ≡ Ok sum
  pub tells : IsTrue feasible ↔ IsFeasible player part.point
