-- The place of a point among parts whose points ascend.
use Rattle.std.specs.Prelude.{◌≡◌, ℕ, ◌<◌, ◌≤◌, Some, length, slice_get}
use Rattle.zr_base.specs.Points.{IsSamePoint, PointOf}
use Rattle.zr_game.specs.Profiles.{Part, Strategy}
use Rattle.zr_tidy.specs.declared.merge.Place.{Place}
use Rattle.zr_tidy.specs.declared.merge.Place.TheVariants.{Met, Before}
use Rattle.zr_tidy.specs.Points.{IsBefore}

-- the first k parts are before the point
abbrev pub AreBefore : ℕ → Strategy → PointOf → Type 0
AreBefore k parts x =
    (j : ℕ) (part : Part) → j < k → slice_get parts j ≡ Some part → IsBefore part.point x

-- the part at place k has the point, or the point is before it where there is one, and after all
-- parts before
abbrev pub IsPlace : Strategy → PointOf → Place → Type 0
IsPlace parts x (Met k) =
    (part : Part) × (slice_get parts k ≡ Some part) × IsSamePoint part.point x × AreBefore k parts x
IsPlace parts x (Before k) =
    (k ≤ length parts) × ((part : Part) → slice_get parts k ≡ Some part → IsBefore x part.point)
    × AreBefore k parts x
