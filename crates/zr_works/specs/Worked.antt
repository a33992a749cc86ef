-- Matching pennies.
use Rattle.std.specs.Prelude.{pos, negsuc, [], ◌∷◌}
use Rattle.zr_game.specs.Players.{GameOf, PlayerOf}
use Rattle.zr_sizes.specs.Worked.{binary}

-- -2x + 4xy for the first player
abbrev pub first_player : PlayerOf
first_player = record {
  name = [];
  vars = binary ∷ [];
  rows = [];
  pairs = [];
  cost = (0, negsuc 1) ∷ [];
  cross = record { own = 0; player = 1; var = 0; coef = pos 4 } ∷ [];
  others = [];
}

-- 2y - 4xy for the second
abbrev pub second_player : PlayerOf
second_player = record {
  name = [];
  vars = binary ∷ [];
  rows = [];
  pairs = [];
  cost = (0, pos 2) ∷ [];
  cross = record { own = 0; player = 0; var = 0; coef = negsuc 3 } ∷ [];
  others = [];
}

abbrev pub matching_pennies : GameOf
matching_pennies = first_player ∷ second_player ∷ []
