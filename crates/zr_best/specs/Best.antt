-- What a player can get at best against the others' strategies.
use Rattle.std.specs.Prelude.{◌≡◌, ℕ, ℤ, List, length, slice_get, Some}
use Rattle.std.specs.List.{All}
use Rattle.zr_base.specs.Fractions.{Fraction, IsAtMost, IsLess, whole}
use Rattle.zr_base.specs.Points.{PointOf, value_of}
use Rattle.zr_game.specs.Players.{GameOf, PlayerOf}
use Rattle.zr_game.specs.Feasible.{IsFeasible}
use Rattle.zr_game.specs.Forms.{IsPlayer}
use Rattle.zr_game.specs.Leaves.{bound_with}
use Rattle.zr_game.specs.Means.{along_slope, slope}
use Rattle.zr_game.specs.Profiles.{IsProfile, Profile, deviation, expected_cost, total}
use Rattle.zr_game.specs.Rays.{Direction, IsRay, StaysFeasible, moved}
use Rattle.zr_tree.specs.Nodes.{NodeOf}
use Rattle.zr_mix.specs.Claims.{IsClaim}
use Rattle.zr_mix.specs.Values.{AreInLowestTerms, IsInLowestTerms, IsReduced}
use Rattle.zr_cert.specs.Certs.{MixtureOf, nodes_of, profile_with}
use Rattle.zr_cert.specs.Forms.{IsMixtureForm}
use Rattle.zr_check.specs.Right.{IsRowTree}
use Rattle.zr_report.specs.declared.answer.Answer.{Answer}
use Rattle.zr_report.specs.declared.answer.Answer.TheVariants.{Least, Below}

-- what player i's deviation to x costs it
abbrev pub deviation_cost : PlayerOf → ℕ → Profile → PointOf → Fraction
deviation_cost player i profile x = expected_cost player i (deviation profile i x)

-- x is feasible, the cost, in lowest terms, is that of the deviation to x, and no deviation to a
-- feasible point costs less
pub record IsLeastCostAt (player : PlayerOf) (i : ℕ) (profile : Profile) (cost : Fraction)
    (x : PointOf) : Type 0 where
  pub feasible : IsFeasible player x
  pub cost_is : IsReduced cost (deviation_cost player i profile x)
  pub least : (y : PointOf) → IsFeasible player y
      → IsAtMost cost (deviation_cost player i profile y)

-- the claim that along the player's slope no feasible point is below x
pub record IsClaimAt (player : PlayerOf) (profile : Profile) (x : PointOf) (left : List ℤ)
    (right : ℤ) : Type 0 where
  pub slopes : List Fraction
  pub value : Fraction
  pub by : ℤ
  pub are_slopes : AreInLowestTerms slopes (length player.vars) (slope player profile)
  pub is_value : IsInLowestTerms value (along_slope player profile (value_of x))
  pub claim : IsClaim slopes value by left right

-- the nodes are those of a tree that proves it
pub record ProvesLeast (player : PlayerOf) (profile : Profile) (x : PointOf)
    (nodes : List NodeOf) : Type 0 where
  pub left : List ℤ
  pub right : ℤ
  pub claim : IsClaimAt player profile x left right
  pub proof : IsRowTree player (bound_with left right) nodes

-- from the base, a feasible point, whole steps along the direction lead to feasible points whose
-- deviation's cost falls below each number
pub record FallsWithoutEnd (player : PlayerOf) (i : ℕ) (profile : Profile) (base : PointOf)
    (dir : Direction) : Type 0 where
  pub ray : IsRay player base dir
  pub stays : StaysFeasible player base dir
  pub falls : (bound : ℤ) → (t : ℕ)
      × IsLess (deviation_cost player i profile (moved base dir t)) (whole bound)

-- the least cost of a deviation, which one of them has, with a tree that proves it; or a ray along
-- which it falls without end
abbrev pub IsBestAnswer : PlayerOf → ℕ → Profile → Answer → Type 0
IsBestAnswer player i profile (Least cost tree) =
    (x : PointOf) × IsLeastCostAt player i profile cost x
    × ProvesLeast player profile x (nodes_of tree)
IsBestAnswer player i profile (Below base dir) =
    FallsWithoutEnd player i profile base dir.items

-- strategies of all players, with the printed totals
pub record ArePlayed (game : GameOf) (mixtures : List MixtureOf) : Type 0 where
  pub forms : All IsMixtureForm mixtures
  pub totals : All (λ m. m.total ≡ total m.parts) mixtures
  pub valid : IsProfile game (profile_with mixtures)

-- each player's answer to the others' strategies in the profile
pub record AreBestAnswers (game : GameOf) (profile : Profile) (answers : List Answer)
    : Type 0 where
  pub valid : IsProfile game profile
  pub len : length answers ≡ length game
  pub each : (i : ℕ) (player : PlayerOf) (answer : Answer) → IsPlayer game i player
      → slice_get answers i ≡ Some answer → IsBestAnswer player i profile answer
