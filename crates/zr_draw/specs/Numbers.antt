-- The numbers of the unknowns at a point that lists them in the order of the columns.
use Rattle.std.specs.Prelude.{◌≡◌, ℕ, suc, ◌<◌, ℤ, List, [], ◌∷◌, length, if◌then◌else◌}
use Rattle.zr_base.specs.Points.{PointOf, num_of}
use Rattle.zr_game.specs.Players.{GameOf}
use Rattle.zr_system.specs.declared.unknown.Unknown.{Unknown}
use Rattle.zr_system.specs.Forms.{is_same}
use Rattle.zr_system.specs.Regions.{LeavesOf}
use Rattle.zr_system.specs.Unknowns.{columns}

-- the point's number at the first place of the list where the unknown stands, the places being
-- counted from j on; the point's denominator where it stands nowhere
abbrev pub number_from : ℕ → List Unknown → PointOf → Unknown → ℤ
number_from j [] x u = x.den
number_from j (w ∷ ws) x u = if is_same w u then num_of x j else number_from (suc j) ws x u

-- the number at the unknown's column; of the common denominator, which has none, the denominator
abbrev pub numbers_of : GameOf → LeavesOf → PointOf → Unknown → ℤ
numbers_of game leaves x = number_from 0 (columns game leaves) x

-- the point has a number for each column, of which there are fewer than 2^32
pub record HasColumns (game : GameOf) (leaves : LeavesOf) (x : PointOf) : Type 0 where
  pub len : length x.num ≡ length (columns game leaves)
  pub few : length (columns game leaves) < 4294967296
