-- What a scratch for box trees has room for.
use Rattle.std.specs.Prelude.{◌≡◌, ℕ, List, length, map}
use Rattle.zr_game.specs.declared.leaf.Leaf.{Leaf}
use Rattle.zr_game.specs.Players.{GameOf, PlayerOf}

-- how many lows, highs and sides a leaf has
pub record LeafSize : Type 0 where
  pub lows : ℕ
  pub highs : ℕ
  pub sides : ℕ

abbrev pub leaf_size : Leaf → LeafSize
leaf_size leaf = record {
  lows = length leaf.low.items;
  highs = length leaf.high.items;
  sides = length leaf.sides.items;
}

-- that of a leaf of the player
abbrev pub player_size : PlayerOf → LeafSize
player_size player = record {
  lows = length player.vars;
  highs = length player.vars;
  sides = length player.pairs;
}

-- the nodes of a tree, and a leaf of this size for each player
pub record BoxPlaces : Type 0 where
  pub nodes : ℕ
  pub leaves : List LeafSize

-- the sizes are those of the game's players
abbrev pub FitsGame : GameOf → BoxPlaces → Type 0
FitsGame game places = places.leaves ≡ map player_size game
