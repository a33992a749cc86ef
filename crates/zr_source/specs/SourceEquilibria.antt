-- Equilibria of leaders whose followers answer optimally.
use Rattle.std.specs.Prelude.{◌≡◌, ℕ, List, []}
use Rattle.zr_base.specs.Fractions.{Fraction}
use Rattle.zr_base.specs.Points.{PointOf}
use Rattle.zr_game.specs.Costs.{cost_of}
use Rattle.zr_game.specs.Equilibria.{HasNoneAmong, IsEquilibriumAmong}
use Rattle.zr_game.specs.Profiles.{IsProfileAmong, IsStrategyOver, Profile, Strategy}
use Rattle.zr_game.specs.declared.kind.Kind.{Kind}
use Rattle.zr_source.specs.Sources.{IsLeader, LeaderOf, SourceOf}
use Rattle.zr_source.specs.Optimal.{IsLeaderFeasible}

-- the cost of leader i at one point per leader
abbrev pub leader_cost : LeaderOf → ℕ → List PointOf → Fraction
leader_cost leader i points = cost_of leader.base i points

abbrev pub IsLeaderStrategy : LeaderOf → Strategy → Type 0
IsLeaderStrategy leader parts = IsStrategyOver (IsLeaderFeasible leader) parts

abbrev pub IsSourceProfile : SourceOf → Profile → Type 0
IsSourceProfile source profile = IsProfileAmong IsLeaderFeasible source profile

-- no leader has a feasible deviation of smaller expected cost
abbrev pub IsSourceEquilibrium : SourceOf → Profile → Type 0
IsSourceEquilibrium source profile = IsEquilibriumAmong IsLeaderFeasible leader_cost source profile

-- no profile of the kind is an equilibrium
abbrev pub HasNoSourceEquilibrium : SourceOf → Kind → Type 0
HasNoSourceEquilibrium source kind = HasNoneAmong IsLeaderFeasible leader_cost source kind

-- no leader has a follower
abbrev pub HasNoFollowers : SourceOf → Type 0
HasNoFollowers source = (i : ℕ) (leader : LeaderOf) → IsLeader source i leader
    → leader.followers ≡ []
