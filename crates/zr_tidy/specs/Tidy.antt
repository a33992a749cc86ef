-- Strategies in the form in which they are printed.
use Rattle.std.specs.Prelude.{◌≡◌, ℕ, suc, ◌<◌, ◌≤◌, ℤ, pos, ◌<ℤ◌, ◌≤ℤ◌, unsigned_abs, Some, [], ◌∷◌, length, slice_get}
use Rattle.std.specs.Int.{◌∣◌}
use Rattle.std.specs.List.{All, Contains}
use Rattle.zr_base.specs.Points.{IsSamePoint, PointOf}
use Rattle.zr_base.specs.Steps.{IsNarrow}
use Rattle.zr_game.specs.Profiles.{Part, Strategy, surely, total}
use Rattle.zr_cert.specs.Certs.{MixtureOf}
use Rattle.zr_cert.specs.Forms.{IsMixtureForm}
use Rattle.zr_system.specs.Alike.{IsAlike}
use Rattle.zr_tidy.specs.Points.{IsBefore, IsLowestPoint}

-- the number divides all weights
abbrev pub DividesWeights : ℕ → Strategy → Type 0
DividesWeights d parts = All (λ part. d ∣ unsigned_abs part.weight) parts

-- the greatest number that divides all weights: a multiple of every other
pub record IsGreatestWeight (z : ℤ) (parts : Strategy) : Type 0 where
  pub positive : (pos 0) <ℤ z
  pub divides : DividesWeights (unsigned_abs z) parts
  pub greatest : (d : ℕ) → DividesWeights d parts → d ∣ unsigned_abs z

-- points in lowest terms that ascend, and weights of at least 1 without a common divisor above 1
pub record IsTidy (parts : Strategy) : Type 0 where
  pub points : All (λ part. IsLowestPoint part.point) parts
  pub weights : All (λ part. (pos 1) ≤ℤ part.weight) parts
  pub ascend : (k : ℕ) (a b : Part) → slice_get parts k ≡ Some a → slice_get parts (suc k) ≡ Some b
      → IsBefore a.point b.point
  pub coprime : (d : ℕ) → DividesWeights d parts → d ≡ 1

-- how many numbers the first part's point has
abbrev pub width : Strategy → ℕ
width [] = 0
width (part ∷ parts) = length part.point.num

-- one part or more, with weights of at least 1 whose sum is narrow, at points of one or more
-- numbers, of which each has as many
pub record AreParts (parts : Strategy) : Type 0 where
  pub some : 0 < length parts
  pub weights : All (λ part. (pos 1) ≤ℤ part.weight) parts
  pub narrow : IsNarrow (total parts)
  pub numbers : 0 < width parts
  pub lengths : All (λ part. length part.point.num ≡ width parts) parts

-- the point is that of one of the parts
abbrev pub IsPointOf : Strategy → PointOf → Type 0
IsPointOf parts x = (part : Part) × Contains parts part × IsSamePoint x part.point

-- the strategy of these parts as it is printed: tidy, with no more parts, at the same points, and
-- each quantity of points has the same expected value; one part stays one, of weight 1
pub record IsTidied (raw : Strategy) (m : MixtureOf) : Type 0 where
  pub form : IsMixtureForm m
  pub total_is : m.total ≡ total m.parts
  pub tidy : IsTidy m.parts
  pub alike : IsAlike raw m.parts
  pub few : length m.parts ≤ length raw
  pub points : All (λ part. IsPointOf raw part.point) m.parts
  pub lengths : All (λ part. length part.point.num ≡ width raw) m.parts
  pub pure : length raw ≡ 1 → (x : PointOf) × (m.parts ≡ surely x)
