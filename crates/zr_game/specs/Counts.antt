-- How much of each thing a player may have.
use Rattle.std.specs.Prelude.{ℕ, ◌≤◌, length}
use Rattle.zr_game.specs.Players.{PlayerOf}

pub record AreCounts (player : PlayerOf) : Type 0 where
  pub some_var : 1 ≤ length player.vars
  pub vars : length player.vars ≤ 64
  pub rows : length player.rows ≤ 256
  pub pairs : length player.pairs ≤ 32
  pub cross : length player.cross ≤ 65536
  pub others : length player.others ≤ 65536

-- how many variables a player has
abbrev pub var_count : PlayerOf → ℕ
var_count player = length player.vars
