use Rattle.std.proofs.Common.{map}
use Rattle.zr_game.specs.Games.{game_of}
use Rattle.zr_game.specs.Named.{named_of}
use Rattle.zr_game.specs.Players.{player_of}
use Rattle.zr_branch.specs.Replies.{CountsPivotsAlone}
use Rattle.zr_naming.specs.Offers.{AreNamedBelow}
use Rattle.zr_naming.proofs.items.from_start.Given as goal

abbrev pub invariant-loop-v : goal.invariant-loop-v
invariant-loop-v l = record {
  items : AreNamedBelow (game_of l.fn.game) l.fn.i (player_of l.fn.player) l.v
      (map named_of l.items.items);
  purse : CountsPivotsAlone l.fn.purse l.purse;
}
