use Rattle.std.proofs.Common.{◌≡◌, map}
use Rattle.zr_game.specs.Games.{game_of}
use Rattle.zr_cert.specs.Certs.{named_list, nodes_of}
use Rattle.zr_check.proofs.CoverWalks.{CoversTo}
use Rattle.zr_check.proofs.covers.check_players.Given as goal

abbrev pub invariant-loop-i : goal.invariant-loop-i
invariant-loop-i l =
    CoversTo (game_of l.game) (map nodes_of l.covers) (map named_list l.named) l.i l.line
    × (l.scratch ≡ l.fn.scratch)
