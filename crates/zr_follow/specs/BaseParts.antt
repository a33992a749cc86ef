-- Points and profiles of expanded leaders without the multipliers.
use Rattle.std.specs.Prelude.{List, [], ◌∷◌, map, length, take}
use Rattle.zr_base.specs.Points.{PointOf}
use Rattle.zr_game.specs.Profiles.{Part, Profile, Strategy}
use Rattle.zr_source.specs.Sources.{LeaderOf, SourceOf}

-- the values of the leader's and its followers' variables, without the multipliers
abbrev pub base_part : LeaderOf → PointOf → PointOf
base_part leader x = record { num = take (length leader.base.vars) x.num; den = x.den }

abbrev pub base_of_part : LeaderOf → Part → Part
base_of_part leader part = record {
  weight = part.weight;
  point = base_part leader part.point;
}

abbrev pub base_strategy : LeaderOf → Strategy → Strategy
base_strategy leader parts = map (base_of_part leader) parts

-- the profile without the multipliers
abbrev pub base_profile : SourceOf → Profile → Profile
base_profile (leader ∷ source) (parts ∷ profile) =
    base_strategy leader parts ∷ base_profile source profile
base_profile [] profile = []
base_profile source [] = []

-- one point per leader, without the multipliers
abbrev pub base_points : SourceOf → List PointOf → List PointOf
base_points (leader ∷ source) (x ∷ points) = base_part leader x ∷ base_points source points
base_points [] points = []
base_points source [] = []
