-- The families of games, and the game of a number in each.
use Rattle.std.specs.Prelude.{ℕ, ◌+◌, ◌%◌, codes}
use Rattle.zr_game.specs.Players.{Name}
use Rattle.zr_source.specs.Sources.{SourceOf}
use Rattle.zr_gen.specs.Following.{leaders_of_number}
use Rattle.zr_gen.specs.Packing.{knapsack_of}
use Rattle.zr_gen.specs.declared.family.Family.{Family}
use Rattle.zr_gen.specs.declared.family.Family.TheVariants.{Knapsack, Leaders}

abbrev pub family_name : Family → Name
family_name Knapsack = codes "knapsack"
family_name Leaders = codes "leaders"

-- the size of a game is made of the number too
abbrev pub game_of_number : Family → ℕ → SourceOf
game_of_number Knapsack number = knapsack_of (2 + number % 3) (4 + number % 9) number
game_of_number Leaders number = leaders_of_number (2 + number % 4) number
