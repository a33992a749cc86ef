-- A game as the list of its players.
use Rattle.zr_game.specs.declared.game.Game.{Game}
use Rattle.zr_game.specs.Players.{GameOf, players_of}

abbrev pub game_of : Game → GameOf
game_of game = players_of game.players.items
