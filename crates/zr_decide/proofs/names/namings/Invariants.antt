use Rattle.std.proofs.Common.{map}
use Rattle.zr_branch.specs.Replies.{CountsPivotsAlone}
use Rattle.zr_game.specs.Games.{game_of}
use Rattle.zr_cert.specs.Certs.{named_list, nodes_of}
use Rattle.zr_decide.specs.Naming.{AreNamingsTo}
use Rattle.zr_decide.proofs.names.namings.Given as goal

abbrev pub invariant-loop-i : goal.invariant-loop-i
invariant-loop-i l = record {
  named : AreNamingsTo (game_of l.game) (map nodes_of l.covers) l.i l.room l.left
      (map named_list l.lists.items);
  pivots : CountsPivotsAlone l.fn.purse l.purse;
}
