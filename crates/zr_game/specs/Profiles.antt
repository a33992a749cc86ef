-- Strategies, profiles, and expected costs over all tuples of their parts.
use Rattle.std.specs.Prelude.{◌≡◌, ℕ, ◌<◌, ℤ, pos, ◌+ℤ◌, ◌*ℤ◌, ◌≤ℤ◌, List, [], ◌∷◌, length, slice_get, slice_index_or, slice_set, Some}
use Rattle.std.specs.List.{All}
use Rattle.zr_base.specs.Fractions.{Fraction, whole, times, over, sum_over}
use Rattle.zr_base.specs.Points.{PointOf}
use Rattle.zr_game.specs.Players.{GameOf, PlayerOf}
use Rattle.zr_game.specs.Feasible.{IsFeasible}
use Rattle.zr_game.specs.Costs.{cost_of}
use Rattle.zr_game.specs.declared.kind.Kind.{Kind}
use Rattle.zr_game.specs.declared.kind.Kind.TheVariants.{Pure, Mixed}

-- a weight and a point: its probability is the weight over the strategy's total
pub record Part : Type 0 where
  pub weight : ℤ
  pub point : PointOf

abbrev pub Strategy : Type 0
Strategy = List Part

-- one strategy per player
abbrev pub Profile : Type 0
Profile = List Strategy

-- the sum of the weights
abbrev pub total : Strategy → ℤ
total [] = pos 0
total (part ∷ parts) = part.weight +ℤ total parts

-- the product of the players' totals
abbrev pub totals : Profile → ℤ
totals [] = pos 1
totals (parts ∷ rest) = total parts *ℤ totals rest

-- the sum over the parts of weight times f at the point
abbrev pub weighted : Strategy → (PointOf → Fraction) → Fraction
weighted parts f = sum_over parts (λ part. times (whole part.weight) (f part.point))

-- the sum over all tuples that take one part from each player of the product of the weights times f
-- at the points
abbrev pub tuple_sum : Profile → (List PointOf → Fraction) → Fraction
tuple_sum [] f = f []
tuple_sum (parts ∷ rest) f = weighted parts (λ x. tuple_sum rest (λ points. f (x ∷ points)))

-- that sum of a cost, divided by the product of the totals
abbrev pub expected : (List PointOf → Fraction) → Profile → Fraction
expected cost profile = over (tuple_sum profile cost) (totals profile)

-- the strategy of one point
abbrev pub surely : PointOf → Strategy
surely x = record { weight = pos 1; point = x } ∷ []

-- player i plays x in place of its strategy
abbrev pub deviation : Profile → ℕ → PointOf → Profile
deviation profile i x = slice_set profile i (surely x)

-- the strategy of player i
abbrev pub strategy_of : Profile → ℕ → Strategy
strategy_of profile i = slice_index_or profile i []

-- at least one part, weights of at least 1, and points that may be chosen
pub record IsStrategyOver (feasible : PointOf → Type 0) (parts : Strategy) : Type 0 where
  pub some : 0 < length parts
  pub weights : All (λ part. (pos 1) ≤ℤ part.weight) parts
  pub points : All (λ part. feasible part.point) parts

-- each of those who choose has a strategy over the points that it may choose
pub record IsProfileAmong {A : Type 0} (feasible : A → PointOf → Type 0) (choosers : List A)
    (profile : Profile) : Type 0 where
  pub len : length profile ≡ length choosers
  pub strategies : (i : ℕ) (a : A) → slice_get choosers i ≡ Some a
      → IsStrategyOver (feasible a) (strategy_of profile i)

-- pure: each strategy has one part; mixed: any
abbrev pub IsOfKind : Kind → Profile → Type 0
IsOfKind Pure profile = All (λ parts. length parts ≡ 1) profile
IsOfKind Mixed profile = Unit {0}

-- ---- in a game

abbrev pub expected_cost : PlayerOf → ℕ → Profile → Fraction
expected_cost player i profile = expected (cost_of player i) profile

abbrev pub IsStrategy : PlayerOf → Strategy → Type 0
IsStrategy player parts = IsStrategyOver (IsFeasible player) parts

abbrev pub IsProfile : GameOf → Profile → Type 0
IsProfile game profile = IsProfileAmong IsFeasible game profile
