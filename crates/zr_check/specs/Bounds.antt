-- What is tested at the lines of the costs and their trees.
use Rattle.std.specs.Prelude.{◌≡◌, ℕ, ◌+◌, ℤ, pos, negsuc, Some, IsErr, Result, Ok, List, [], ◌∷◌, ◌++◌, length, slice_get, take, drop, replicate, ◌⊎◌}
use Rattle.zr_base.specs.declared.step.Wide.{Wide}
use Rattle.zr_base.specs.Steps.{◌>>=◌}
use Rattle.zr_base.specs.Fractions.{Fraction}
use Rattle.zr_base.specs.Lowest.{add_of}
use Rattle.zr_base.specs.Made.{made_from}
use Rattle.zr_game.specs.Players.{GameOf, PlayerOf}
use Rattle.zr_game.specs.Leaves.{Bound, bound_with, root_leaf}
use Rattle.zr_tree.specs.Nodes.{NodeOf}
use Rattle.zr_tree.specs.Trees.{TreeOf, preorder}
use Rattle.zr_tree.specs.Steps.{IsRefusedAt, Passes}
use Rattle.zr_tree.specs.declared.fault.Fault.{Fault}
use Rattle.zr_tree.specs.declared.fault.Fault.TheVariants as nodes
use Rattle.zr_mix.specs.Steps.{claim_steps, place_of, rest_steps, slope_steps, value_steps}
use Rattle.zr_cert.specs.declared.fault.CertFault.{CertFault}
use Rattle.zr_cert.specs.declared.fault.CertFault.TheVariants.{Bad, Wide as TooWide}
use Rattle.zr_cert.specs.Certs.{BoundOf, MixtureOf}
use Rattle.zr_cert.specs.Places.{cost_line_number}
use Rattle.zr_check.specs.Firsts.{AllPass, FirstRefused}
use Rattle.zr_check.specs.Parts.{mean_list}

-- the means of all players, one after another
abbrev pub all_means : GameOf → List MixtureOf → Result (List Fraction) Wide
all_means [] mixtures = Ok []
all_means (player ∷ players) [] = Ok []
all_means (player ∷ players) (m ∷ mixtures) = do
  first ← mean_list player m
  rest ← all_means players mixtures
  Ok (first ++ rest)

-- those of player i
abbrev pub own_means : GameOf → PlayerOf → ℕ → List Fraction → List Fraction
own_means game player i means = take (length player.vars) (drop (place_of game i 0) means)

-- the cost and the claim of player i at these means: the cost is the value along the slope and the rest, and the claim is
-- that of the slope and the value
abbrev pub cost_steps : GameOf → PlayerOf → ℕ → List Fraction → Result (Fraction × (List ℤ × ℤ)) Wide
cost_steps game player i means = do
  slope ← made_from (slope_steps game player means) 0 (length player.vars)
  value ← value_steps slope (own_means game player i means)
  rest ← rest_steps game player means
  cost ← add_of value rest
  claim ← claim_steps slope value
  Ok (cost, claim)

-- the line's sums: the cost, and the two sides of the claim
pub record IsCostMade (game : GameOf) (mixtures : List MixtureOf) (i : ℕ) (player : PlayerOf) (cost : Fraction) (left : List ℤ) (right : ℤ) : Type 0 where
  pub means : List Fraction
  pub are_means : all_means game mixtures ≡ Ok means
  pub made : cost_steps game player i means ≡ Ok (cost, (left, right))

-- a step of the line is too wide
abbrev pub IsWideCost : GameOf → List MixtureOf → ℕ → PlayerOf → Type 0
IsWideCost game mixtures i player =
    (means : List Fraction) × (all_means game mixtures ≡ Ok means) × IsErr (cost_steps game player i means)

-- the tree of these nodes passes for the row on all points of the player
abbrev pub TreePasses : PlayerOf → Bound → List NodeOf → Type 0
TreePasses player row nodes = (t : TreeOf) × (preorder t ≡ nodes) × Passes player row (root_leaf player) t

-- a node's fault at its line, the tree's first node standing at `line`
abbrev pub at_line : ℕ → Fault → CertFault
at_line line (nodes.Bad k) = Bad (line + k)
at_line line (nodes.Wide k) = TooWide (line + k)

abbrev pub TreeRefused : PlayerOf → Bound → List NodeOf → ℕ → CertFault → Type 0
TreeRefused player row nodes line fault =
    (t : TreeOf) × (first : Fault) × (preorder t ≡ nodes) × IsRefusedAt player row 0 (root_leaf player) t first × (fault ≡ at_line line first)

-- the cost is the printed one, and the tree passes for the claim
abbrev pub BoundPasses : GameOf → List MixtureOf → ℕ → PlayerOf → BoundOf → Type 0
BoundPasses game mixtures i player bound =
    (left : List ℤ) × (right : ℤ) × IsCostMade game mixtures i player bound.cost left right × TreePasses player (bound_with left right) bound.tree

-- a step of the cost line is too wide, its cost isn't the printed one, or the tree is refused
abbrev pub BoundRefused : GameOf → List MixtureOf → ℕ → ℕ → PlayerOf → BoundOf → CertFault → Type 0
BoundRefused game mixtures line i player bound fault =
    (IsWideCost game mixtures i player × (fault ≡ TooWide line))
    ⊎ ((value : Fraction) × (left : List ℤ) × (right : ℤ) × IsCostMade game mixtures i player value left right × (value ≡ bound.cost → ⊥) × (fault ≡ Bad line))
    ⊎ ((left : List ℤ) × (right : ℤ) × IsCostMade game mixtures i player bound.cost left right × TreeRefused player (bound_with left right) bound.tree (line + 1) fault)

-- the bound of player i passes
abbrev pub CostPasses : GameOf → List MixtureOf → List BoundOf → ℕ → PlayerOf → Type 0
CostPasses game mixtures bounds i player =
    (bound : BoundOf) → slice_get bounds i ≡ Some bound → BoundPasses game mixtures i player bound

abbrev pub CostRefused : GameOf → List MixtureOf → List BoundOf → ℕ → PlayerOf → CertFault → Type 0
CostRefused game mixtures bounds i player fault =
    (bound : BoundOf) × (slice_get bounds i ≡ Some bound) × BoundRefused game mixtures (cost_line_number mixtures bounds i) i player bound fault

abbrev pub BoundsPass : GameOf → List MixtureOf → List BoundOf → Type 0
BoundsPass game mixtures bounds = AllPass (CostPasses game mixtures bounds) game

abbrev pub BoundsRefused : GameOf → List MixtureOf → List BoundOf → CertFault → Type 0
BoundsRefused game mixtures bounds fault = FirstRefused (CostPasses game mixtures bounds) (CostRefused game mixtures bounds) game fault

-- the row `0 <= -1`, which no point meets
abbrev pub no_point : PlayerOf → Bound
no_point player = bound_with (replicate (length player.vars) (pos 0)) (negsuc 0)
