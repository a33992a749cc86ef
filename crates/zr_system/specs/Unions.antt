-- Means of mixtures of points of leaves, and the rows of the leaves' shares and weights.
use Rattle.std.specs.Prelude.{ℕ, ◌<◌, ℤ, true, false, List, [], ◌∷◌, ◌++◌, map, ◌⊎◌}
use Rattle.std.specs.List.{All}
use Rattle.zr_base.specs.Fractions.{IsSame, ratio}
use Rattle.zr_base.specs.Points.{PointOf, value_of}
use Rattle.zr_base.specs.Sums.{sum_to}
use Rattle.zr_game.specs.Means.{mean}
use Rattle.zr_game.specs.Players.{GameOf}
use Rattle.zr_game.specs.Profiles.{IsStrategyOver, Strategy}
use Rattle.zr_system.specs.declared.line.Line.{Line}
use Rattle.zr_system.specs.declared.line.Line.TheVariants.{Positive, Weight, Weights}
use Rattle.zr_system.specs.declared.unknown.Unknown.{Unknown}
use Rattle.zr_system.specs.declared.unknown.Unknown.TheVariants.{One, Share}
use Rattle.zr_system.specs.Covers.{LiesIn}
use Rattle.zr_system.specs.Forms.{FormHolds, SolvesForms}
use Rattle.zr_system.specs.Lines.{off_lines, row_of_line, slot_lines}
use Rattle.zr_system.specs.Regions.{LeavesOf, leaf_count, var_count}
use Rattle.zr_system.specs.Unknowns.{list_to}

-- the point lies in one of player i's leaves
abbrev pub LiesInSome : GameOf → LeavesOf → ℕ → PointOf → Type 0
LiesInSome game leaves i x = (k : ℕ) × (k < leaf_count leaves i) × LiesIn game leaves i k x

-- the point is the mean of finitely many weighted points of leaves
abbrev pub IsMixture : GameOf → LeavesOf → ℕ → PointOf → Type 0
IsMixture game leaves i m =
    (parts : Strategy) × IsStrategyOver (LiesInSome game leaves i) parts
    × ((v : ℕ) → v < var_count game i → IsSame (mean parts v) (value_of m v))

-- the weights sum to 1; each slot holds at a leaf's share and weight, which is at least 0
abbrev pub union_lines : GameOf → LeavesOf → ℕ → List Line
union_lines game leaves i =
    Weights i false ∷ Weights i true
    ∷ list_to (leaf_count leaves i) (λ k. slot_lines game leaves i k ++ (Weight i k false ∷ []))

-- the fractions `x u / x One` meet the rows
abbrev pub MeetsLines : GameOf → LeavesOf → (Unknown → ℤ) → List Line → Type 0
MeetsLines game leaves x lines = All (FormHolds x) (map (row_of_line game leaves) lines)

-- leaf k has weight, or it has neither weight nor share
abbrev pub IsOnOrOff : GameOf → LeavesOf → (Unknown → ℤ) → ℕ → ℕ → Type 0
IsOnOrOff game leaves x i k =
    FormHolds x (row_of_line game leaves (Positive i k))
    ⊎ MeetsLines game leaves x (off_lines game i k)

-- the sum of the leaves' shares in variable v
abbrev pub share_sum : LeavesOf → (Unknown → ℤ) → ℕ → ℕ → ℤ
share_sum leaves x i v = sum_to (leaf_count leaves i) (λ k. x (Share i k v))

-- the point is the sum of the shares of a solution of these rows in which each leaf is On or Off
abbrev pub IsSumOfShares : GameOf → LeavesOf → ℕ → PointOf → Type 0
IsSumOfShares game leaves i m =
    (x : Unknown → ℤ)
    × SolvesForms (map (row_of_line game leaves) (union_lines game leaves i)) x
    × ((k : ℕ) → k < leaf_count leaves i → IsOnOrOff game leaves x i k)
    × ((v : ℕ) → v < var_count game i → IsSame (ratio (share_sum leaves x i v) (x One))
    (value_of m v))
