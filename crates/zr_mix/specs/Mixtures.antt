-- Strategies and profiles as they are kept, and what they are.
use Rattle.std.specs.Prelude.{map}
use Rattle.zr_game.specs.Profiles.{Part as PartOf, Strategy as StrategyOf, Profile as ProfileOf}
use Rattle.zr_mix.specs.declared.mixture.Part.{Part}
use Rattle.zr_mix.specs.declared.mixture.Strategy.{Strategy}
use Rattle.zr_mix.specs.declared.mixture.Profile.{Profile}

abbrev pub part_of : Part → PartOf
part_of part = record { weight = part.weight; point = part.point }

abbrev pub parts_of : Strategy → StrategyOf
parts_of strategy = map part_of strategy.parts.items

abbrev pub profile_of : Profile → ProfileOf
profile_of profile = map parts_of profile.strategies.items
