-- What a scratch has room for.
use Rattle.std.specs.Prelude.{ℕ, [], ◌∷◌, length, max}
use Rattle.zr_game.specs.Players.{GameOf, PlayerOf}

-- the nodes of a tree, the columns of a row, and the variables and pairs of a player
pub record Places : Type 0 where
  pub nodes : ℕ
  pub columns : ℕ
  pub vars : ℕ
  pub pairs : ℕ

-- the greatest size of a player
abbrev pub greatest : (PlayerOf → ℕ) → GameOf → ℕ
greatest size [] = 0
greatest size (player ∷ players) = max (size player) (greatest size players)

-- the greatest number of variables among the players
abbrev pub most_vars : GameOf → ℕ
most_vars game = greatest (λ player. length player.vars) game

-- the greatest number of pairs among the players
abbrev pub most_pairs : GameOf → ℕ
most_pairs game = greatest (λ player. length player.pairs) game
