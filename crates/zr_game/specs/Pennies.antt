-- Matching pennies, and the profile in which each player plays 0 and 1 alike.
use Rattle.std.specs.Prelude.{ℤ, pos, negsuc, true, Some, [], ◌∷◌}
use Rattle.zr_base.specs.Points.{PointOf}
use Rattle.zr_game.specs.declared.player.CrossTerm.{CrossTerm}
use Rattle.zr_game.specs.Players.{GameOf, PlayerOf}
use Rattle.zr_game.specs.Profiles.{Strategy}

-- a player with one variable that is 0 or 1, this own number and this cross term
abbrev pub penny_player : ℤ → CrossTerm → PlayerOf
penny_player number term = record {
  name = [];
  vars = record { name = []; whole = true; low = Some (pos 0); up = Some (pos 1) } ∷ [];
  rows = [];
  pairs = [];
  cost = (0, number) ∷ [];
  cross = term ∷ [];
  others = [];
}

-- A's cost is `-2x + 4xy`, and B's `2y - 4xy`
abbrev pub pennies : GameOf
pennies =
    penny_player (negsuc 1) (record { own = 0; player = 1; var = 0; coef = pos 4 })
    ∷ penny_player (pos 2) (record { own = 0; player = 0; var = 0; coef = negsuc 3 })
    ∷ []

abbrev pub penny : ℤ → PointOf
penny z = record { num = z ∷ []; den = pos 1 }

abbrev pub half_half : Strategy
half_half =
    record { weight = pos 1; point = penny (pos 0) }
    ∷ record { weight = pos 1; point = penny (pos 1) }
    ∷ []
