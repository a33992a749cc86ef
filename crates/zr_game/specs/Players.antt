-- What a player is: the content of the code's types, without their containers.
use Rattle.std.specs.Prelude.{ℕ, ℤ, Bool, List, map, Option, string_bytes}
use Rattle.zr_base.specs.Terms.{Terms}
use Rattle.zr_base.specs.Rows.{RowOf, row_of}
use Rattle.zr_game.specs.declared.player.Var.{Var}
use Rattle.zr_game.specs.declared.player.Pair.{Pair}
use Rattle.zr_game.specs.declared.player.CrossTerm.{CrossTerm}
use Rattle.zr_game.specs.declared.player.Other.{Other}
use Rattle.zr_game.specs.declared.player.Player.{Player}

-- the bytes of a name
abbrev pub Name : Type 0
Name = List ℕ

-- a variable: whether it is whole, and its lower and its upper bound, where it has them
pub record VarOf : Type 0 where
  pub name : Name
  pub whole : Bool
  pub low : Option ℤ
  pub up : Option ℤ

-- a complementarity pair: `0 <= var`, `coef * x + add >= 0`, and one of the two is 0
pub record PairOf : Type 0 where
  pub var : ℕ
  pub coef : Terms
  pub add : ℤ

-- a player's variables, rows, pairs and costs: the terms of its own variables, those with another
-- player's, and those in the others' variables alone
pub record PlayerOf : Type 0 where
  pub name : Name
  pub vars : List VarOf
  pub rows : List RowOf
  pub pairs : List PairOf
  pub cost : Terms
  pub cross : List CrossTerm
  pub others : List Other

-- a game is the list of its players
abbrev pub GameOf : Type 0
GameOf = List PlayerOf

abbrev pub var_of : Var → VarOf
var_of v = record { name = string_bytes v.name; whole = v.whole; low = v.low; up = v.up }

abbrev pub pair_of : Pair → PairOf
pair_of p = record { var = p.var; coef = p.coef.items; add = p.add }

abbrev pub player_of : Player → PlayerOf
player_of p = record {
  name = string_bytes p.name;
  vars = map var_of p.vars.items;
  rows = map row_of p.rows.items;
  pairs = map pair_of p.pairs.items;
  cost = p.cost.items;
  cross = p.cross.items;
  others = p.others.items;
}

abbrev pub players_of : List Player → GameOf
players_of ps = map player_of ps
