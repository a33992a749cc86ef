-- The profile that a solution draws: of each leaf with weight its shares over its weight.
use Rattle.std.specs.Prelude.{ℕ, zero, suc, ℤ, pos, int_lt, [], ◌∷◌, ◌++◌, length, if◌then◌else◌}
use Rattle.zr_base.specs.Points.{PointOf}
use Rattle.zr_game.specs.Players.{GameOf}
use Rattle.zr_game.specs.Profiles.{Part, Profile, Strategy}
use Rattle.zr_system.specs.declared.unknown.Unknown.{Unknown}
use Rattle.zr_system.specs.declared.unknown.Unknown.TheVariants.{Share, Weight}
use Rattle.zr_system.specs.Asked.{firsts}
use Rattle.zr_system.specs.Regions.{LeavesOf, leaf_count, var_count}

-- leaf k's shares over its weight
abbrev pub drawn_point : GameOf → (Unknown → ℤ) → ℕ → ℕ → PointOf
drawn_point game x i k = record {
  num = firsts (var_count game i) (λ v. x (Share i k v));
  den = x (Weight i k);
}

-- that point, with the leaf's weight
abbrev pub drawn_part : GameOf → (Unknown → ℤ) → ℕ → ℕ → Part
drawn_part game x i k = record { weight = x (Weight i k); point = drawn_point game x i k }

-- one part for each of the first n leaves that has weight
abbrev pub drawn_to : GameOf → (Unknown → ℤ) → ℕ → ℕ → Strategy
drawn_to game x i zero = []
drawn_to game x i (suc n) =
    drawn_to game x i n
    ++ (if int_lt (pos 0) (x (Weight i n)) then drawn_part game x i n ∷ [] else [])

-- one part for each leaf that has weight
abbrev pub drawn_strategy : GameOf → LeavesOf → (Unknown → ℤ) → ℕ → Strategy
drawn_strategy game leaves x i = drawn_to game x i (leaf_count leaves i)

abbrev pub drawn_profile : GameOf → LeavesOf → (Unknown → ℤ) → Profile
drawn_profile game leaves x = firsts (length game) (drawn_strategy game leaves x)
