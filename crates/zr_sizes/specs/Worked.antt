-- A player of two binary variables and one pair.
use Rattle.std.specs.Prelude.{pos, true, Some, [], ◌∷◌}
use Rattle.zr_game.specs.Players.{PairOf, PlayerOf, VarOf}

abbrev pub binary : VarOf
binary = record { name = []; whole = true; low = Some (pos 0); up = Some (pos 1) }

-- one of the variables is 0, or the other one is
abbrev pub pair : PairOf
pair = record { var = 0; coef = (1, pos 1) ∷ []; add = pos 0 }

abbrev pub paired_binaries : PlayerOf
paired_binaries = record {
  name = [];
  vars = binary ∷ binary ∷ [];
  rows = [];
  pairs = pair ∷ [];
  cost = [];
  cross = [];
  others = [];
}
