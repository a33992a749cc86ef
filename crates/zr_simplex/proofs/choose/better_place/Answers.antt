use Rattle.std.proofs.Common.{refl, inl, inr}
use Rattle.zr_simplex.proofs.choose.better_place.Goals as goal

pub returns-then-is_lower_direction : goal.returns-then-is_lower_direction
returns-then-is_lower_direction c =
    rw (c.in-Some.is, ← c.free-column.ensures, ← c.free-other.ensures) (inl (refl, c.is_lower_direction.ensures.yes c.if-is_lower_direction.true))

pub returns-else-is_lower_direction : goal.returns-else-is_lower_direction
returns-else-is_lower_direction c =
    rw (c.in-Some.is, ← c.free-column.ensures, ← c.free-other.ensures) (inr (refl, c.is_lower_direction.ensures.no c.if-is_lower_direction.false))
