-- Parts that are put among others, and parts whose weights are divided.
use Rattle.std.specs.Prelude.{◌≡◌, ℤ, ◌+ℤ◌, ◌*ℤ◌, [], ◌∷◌}
use Rattle.zr_base.specs.Points.{IsSamePoint, PointOf}
use Rattle.zr_game.specs.Profiles.{Part, Strategy}
use Rattle.zr_tidy.specs.Points.{IsBefore, IsLowestPoint}

-- the old parts with one more, before the first whose point it doesn't come after; where its point
-- stands there already, its weight is added to that one
pub data HasPut (part : Part) : Strategy → Strategy → Type 0 where
  alone : HasPut part [] (part ∷ [])
  before : (q : Part) (rest : Strategy) → IsBefore part.point q.point
      → HasPut part (q ∷ rest) (part ∷ q ∷ rest)
  met : (q : Part) (rest : Strategy) → IsSamePoint q.point part.point
      → HasPut part (q ∷ rest) (record { weight = q.weight +ℤ part.weight; point = q.point } ∷ rest)
  after : (q : Part) (rest new : Strategy) → IsBefore q.point part.point → HasPut part rest new
      → HasPut part (q ∷ rest) (q ∷ new)

-- the part is put among the old ones, with its point in lowest terms
pub record HasPutLowest (raw : Part) (old new : Strategy) : Type 0 where
  pub point : PointOf
  pub same : IsSamePoint point raw.point
  pub lowest : IsLowestPoint point
  pub put : HasPut (record { weight = raw.weight; point = point }) old new

-- part by part, with its point in lowest terms, all are put among the old parts
abbrev pub AreMerged : Strategy → Strategy → Strategy → Type 0
AreMerged old [] new = old ≡ new
AreMerged old (raw ∷ parts) new =
    (next : Strategy) × HasPutLowest raw old next × AreMerged next parts new

-- the same points, with weights that are the old ones over the divisor
pub data AreDivided (by : ℤ) : Strategy → Strategy → Type 0 where
  done : AreDivided by [] []
  more : (p q : Part) (old new : Strategy) → q.point ≡ p.point → q.weight *ℤ by ≡ p.weight
      → AreDivided by old new → AreDivided by (p ∷ old) (q ∷ new)
