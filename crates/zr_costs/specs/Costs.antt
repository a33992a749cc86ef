-- Bounds of what the players pay in an equilibrium.
use Rattle.std.specs.Prelude.{◌≡◌, ℕ, ◌+◌, ◌-◌, ◌*◌, ◌≤◌, Ok, Some, List, length, slice_get}
use Rattle.std.specs.List.{All}
use Rattle.zr_base.specs.Fractions.{Fraction}
use Rattle.zr_io.specs.declared.purse.Purse.{Purse}
use Rattle.zr_game.specs.Equilibria.{IsEquilibrium}
use Rattle.zr_game.specs.Forms.{IsPlayer}
use Rattle.zr_game.specs.Players.{GameOf, PlayerOf}
use Rattle.zr_game.specs.Profiles.{Profile}
use Rattle.zr_cert.specs.Certs.{BoundOf, MixtureOf, profile_with}
use Rattle.zr_cert.specs.Forms.{IsBoundForm}
use Rattle.zr_cert.specs.Lines.{sum_lines}
use Rattle.zr_check.specs.Bounds.{all_means}
use Rattle.zr_check.specs.Right.{IsRightBound}
use Rattle.zr_best.specs.Best.{ArePlayed}

-- a bound for each player, that is right and keeps the rules of certificates
pub record AreRightBounds (game : GameOf) (profile : Profile) (bounds : List BoundOf)
    : Type 0 where
  pub len : length bounds ≡ length game
  pub forms : All IsBoundForm bounds
  pub bounds_of : (i : ℕ) (player : PlayerOf) → IsPlayer game i player
      → (bound : BoundOf) × (slice_get bounds i ≡ Some bound) × IsRightBound player i profile bound

-- how many nodes all trees have together
abbrev pub node_count : List BoundOf → ℕ
node_count bounds = sum_lines (λ b. length b.tree) bounds

-- at most one for each player, and two for each branch that was spent
abbrev pub HaveFewNodes : GameOf → Purse → Purse → List BoundOf → Type 0
HaveFewNodes game old new bounds =
    node_count bounds ≤ length game + 2 * (new.branches - old.branches)

-- the means of the strategies of an equilibrium
pub record AreStableMeans (game : GameOf) (mixtures : List MixtureOf) (means : List Fraction)
    : Type 0 where
  pub played : ArePlayed game mixtures
  pub equilibrium : IsEquilibrium game (profile_with mixtures)
  pub are_means : all_means game mixtures ≡ Ok means
