-- What is tested at the lines of the players and their parts.
use Rattle.std.specs.Prelude.{◌≡◌, ℕ, suc, ◌+◌, ℤ, pos, Some, IsErr, IsSome, Result, List, length, map, slice_get, take, ◌⊎◌}
use Rattle.zr_base.specs.declared.step.Wide.{Wide}
use Rattle.zr_base.specs.Fractions.{Fraction}
use Rattle.zr_base.specs.Made.{made_from}
use Rattle.zr_base.specs.Sums.{sum_steps}
use Rattle.zr_game.specs.Players.{GameOf, PlayerOf}
use Rattle.zr_game.specs.Feasible.{IsFeasible}
use Rattle.zr_game.specs.FeasibleSteps.{feasible_wide}
use Rattle.zr_game.specs.Profiles.{Part, Strategy, total}
use Rattle.zr_game.specs.declared.kind.Kind.{Kind}
use Rattle.zr_game.specs.declared.kind.Kind.TheVariants.{Pure}
use Rattle.zr_mix.specs.Steps.{mean_steps}
use Rattle.zr_cert.specs.declared.fault.CertFault.{CertFault}
use Rattle.zr_cert.specs.declared.fault.CertFault.TheVariants.{Bad, Wide as TooWide}
use Rattle.zr_cert.specs.Certs.{MixtureOf}
use Rattle.zr_cert.specs.Places.{player_line_number}
use Rattle.zr_check.specs.Firsts.{AllPass, FirstRefused}

-- the point has as many numbers as the player has variables
abbrev pub IsOfLength : PlayerOf → Part → Type 0
IsOfLength player part = length part.point.num ≡ length player.vars

-- the weights of the parts up to number k, summed from the left
abbrev pub weight_steps : Strategy → ℕ → Result ℤ Wide
weight_steps parts k = sum_steps (pos 0) (map (λ part. (part.weight, pos 1)) (take (suc k) parts))

-- the means of a strategy, over the printed total
abbrev pub mean_list : PlayerOf → MixtureOf → Result (List Fraction) Wide
mean_list player m = made_from (mean_steps m.total m.parts) 0 (length player.vars)

abbrev pub IsLastPart : MixtureOf → ℕ → Type 0
IsLastPart m k = suc k ≡ length m.parts

-- a step of the line is too wide: of the weights so far, of the point's test, or, at the last part, of the means
abbrev pub IsWidePart : PlayerOf → MixtureOf → ℕ → Part → Type 0
IsWidePart player m k part =
    IsErr (weight_steps m.parts k)
    ⊎ IsSome (feasible_wide player part.point)
    ⊎ (IsLastPart m k × IsErr (mean_list player m))

-- the rules of the line: the point is feasible, a pure strategy has no second part, and the weights make up the total
pub record IsPartRight (kind : Kind) (player : PlayerOf) (m : MixtureOf) (k : ℕ) (part : Part) : Type 0 where
  pub feasible : IsFeasible player part.point
  pub alone : kind ≡ Pure → k ≡ 0
  pub whole : IsLastPart m k → m.total ≡ total m.parts

abbrev pub PartPasses : Kind → PlayerOf → MixtureOf → ℕ → Part → Type 0
PartPasses kind player m k part =
    IsOfLength player part × (IsWidePart player m k part → ⊥) × IsPartRight kind player m k part

-- a point of another length is wrong, and no sum is made; else a step that is too wide comes before a rule that is broken
abbrev pub PartRefused : Kind → PlayerOf → MixtureOf → ℕ → ℕ → Part → CertFault → Type 0
PartRefused kind player m line k part fault =
    ((IsOfLength player part → ⊥) × (fault ≡ Bad line))
    ⊎ (IsOfLength player part × IsWidePart player m k part × (fault ≡ TooWide line))
    ⊎ (IsOfLength player part × (IsWidePart player m k part → ⊥) × (IsPartRight kind player m k part → ⊥) × (fault ≡ Bad line))

abbrev pub MixturePasses : Kind → PlayerOf → MixtureOf → Type 0
MixturePasses kind player m = AllPass (PartPasses kind player m) m.parts

-- part k stands k + 1 lines after the player's line
abbrev pub MixtureRefused : Kind → PlayerOf → MixtureOf → ℕ → CertFault → Type 0
MixtureRefused kind player m line fault =
    FirstRefused (PartPasses kind player m) (λ k. PartRefused kind player m (line + 1 + k) k) m.parts fault

-- the strategy of player i passes
abbrev pub PlayerPasses : Kind → List MixtureOf → ℕ → PlayerOf → Type 0
PlayerPasses kind mixtures i player = (m : MixtureOf) → slice_get mixtures i ≡ Some m → MixturePasses kind player m

abbrev pub PlayerRefused : Kind → List MixtureOf → ℕ → PlayerOf → CertFault → Type 0
PlayerRefused kind mixtures i player fault =
    (m : MixtureOf) × (slice_get mixtures i ≡ Some m) × MixtureRefused kind player m (player_line_number mixtures i) fault

abbrev pub StrategiesPass : GameOf → Kind → List MixtureOf → Type 0
StrategiesPass game kind mixtures = AllPass (PlayerPasses kind mixtures) game

abbrev pub StrategiesRefused : GameOf → Kind → List MixtureOf → CertFault → Type 0
StrategiesRefused game kind mixtures fault = FirstRefused (PlayerPasses kind mixtures) (PlayerRefused kind mixtures) game fault
