-- Equilibria: nobody gains by changing its own strategy alone.
use Rattle.std.specs.Prelude.{◌≡◌, ℕ, List, slice_get, Some}
use Rattle.zr_base.specs.Fractions.{Fraction, IsAtMost}
use Rattle.zr_base.specs.Points.{PointOf}
use Rattle.zr_game.specs.Players.{GameOf}
use Rattle.zr_game.specs.Feasible.{IsFeasible}
use Rattle.zr_game.specs.Costs.{cost_of}
use Rattle.zr_game.specs.Profiles.{Profile, IsOfKind, IsProfileAmong, deviation, expected}
use Rattle.zr_game.specs.declared.kind.Kind.{Kind}

-- among those who choose, each of the points that are feasible for it, none has a deviation of
-- smaller expected cost
pub record IsEquilibriumAmong {A : Type 0} (feasible : A → PointOf → Type 0)
    (cost : A → ℕ → List PointOf → Fraction) (choosers : List A) (profile : Profile) : Type 0 where
  pub valid : IsProfileAmong feasible choosers profile
  pub stable : (i : ℕ) (a : A) → slice_get choosers i ≡ Some a → (x : PointOf) → feasible a x
      → IsAtMost (expected (cost a i) profile) (expected (cost a i) (deviation profile i x))

-- no profile of the kind is an equilibrium among them
abbrev pub HasNoneAmong : {A : Type 0} → (A → PointOf → Type 0) → (A → ℕ → List PointOf → Fraction)
    → List A → Kind → Type 0
HasNoneAmong feasible cost choosers kind =
    (profile : Profile) → IsOfKind kind profile
    → IsEquilibriumAmong feasible cost choosers profile → ⊥

-- no player has a feasible deviation of smaller expected cost
abbrev pub IsEquilibrium : GameOf → Profile → Type 0
IsEquilibrium game profile = IsEquilibriumAmong IsFeasible cost_of game profile

-- no profile of the kind is an equilibrium
abbrev pub HasNoEquilibrium : GameOf → Kind → Type 0
HasNoEquilibrium game kind = HasNoneAmong IsFeasible cost_of game kind
