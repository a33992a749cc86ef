-- The rule for names, and names that differ.
use Rattle.std.specs.Prelude.{◌≢◌, ℕ, Bool, ◌&&◌, ◌||◌, ◌==◌, nat_le, IsTrue, List, length}
use Rattle.std.specs.List.{All, AllPairs, list_all}
use Rattle.zr_game.specs.Players.{Name, VarOf}
use Rattle.zr_source.specs.Sources.{LeaderOf}

-- a letter, a digit or `_`
abbrev pub is_name_byte : ℕ → Bool
is_name_byte b =
    (nat_le 97 b && nat_le b 122) || (nat_le 65 b && nat_le b 90) || (nat_le 48 b && nat_le b 57) ||
    b == 95

-- 1 to 32 of these
abbrev pub is_name : Name → Bool
is_name s = nat_le 1 (length s) && nat_le (length s) 32 && list_all is_name_byte s

-- each name has 1 to 32 letters, digits and `_`, and they differ
pub record AreNames (names : List Name) : Type 0 where
  pub rule : All (λ s. IsTrue (is_name s)) names
  pub differ : AllPairs (λ s t. s ≢ t) names

abbrev pub var_name : VarOf → Name
var_name var = var.name

abbrev pub leader_name : LeaderOf → Name
leader_name leader = leader.base.name
