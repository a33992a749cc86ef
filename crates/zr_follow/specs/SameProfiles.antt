-- Profiles of the same weights at the same points.
use Rattle.std.specs.Prelude.{◌≡◌}
use Rattle.std.specs.List.{AllZip}
use Rattle.zr_base.specs.Points.{IsSamePoint}
use Rattle.zr_game.specs.Profiles.{Part, Profile, Strategy}

-- the same weight at the same point
pub record IsSamePart (p q : Part) : Type 0 where
  pub weight : p.weight ≡ q.weight
  pub point : IsSamePoint p.point q.point

-- part by part
abbrev pub IsSameStrategy : Strategy → Strategy → Type 0
IsSameStrategy ps qs = AllZip IsSamePart ps qs

-- strategy by strategy
abbrev pub IsSameProfile : Profile → Profile → Type 0
IsSameProfile ss ts = AllZip IsSameStrategy ss ts
