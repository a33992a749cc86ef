-- Two players of binary variables, over all settled leaves.
use Rattle.std.specs.Prelude.{ℕ, ◌^◌, ◌/◌, ◌%◌, pos, true, Some, List, [], ◌∷◌, replicate}
use Rattle.zr_game.specs.Players.{GameOf, PlayerOf, VarOf}
use Rattle.zr_game.specs.declared.leaf.Side.TheVariants.{Undecided}
use Rattle.zr_system.specs.Asked.{firsts}
use Rattle.zr_system.specs.Regions.{LeavesOf, RegionOf}

abbrev pub binary : VarOf
binary = record { name = []; whole = true; low = Some (pos 0); up = Some (pos 1) }

abbrev pub binary_player : ℕ → PlayerOf
binary_player n = record {
  name = [];
  vars = replicate n binary;
  rows = [];
  pairs = [];
  cost = [];
  cross = [];
  others = [];
}

-- two players with n binary variables each
abbrev pub two_binary : ℕ → GameOf
two_binary n = binary_player n ∷ binary_player n ∷ []

-- the leaf at which variable v has the v-th binary digit of k
abbrev pub corner : ℕ → RegionOf
corner k = record {
  leaf = record {
    low = λ v. Some (pos (k / 2 ^ v % 2));
    high = λ v. Some (pos (k / 2 ^ v % 2));
    side = λ p. Undecided;
  };
  exact = true;
}

abbrev pub corners : ℕ → List RegionOf
corners n = firsts (2 ^ n) corner

-- all of their leaves, with nothing named and no cuts
abbrev pub all_corners : ℕ → LeavesOf
all_corners n = record {
  regions = corners n ∷ corners n ∷ [];
  named = [] ∷ [] ∷ [];
  cuts = [] ∷ [] ∷ [];
}
