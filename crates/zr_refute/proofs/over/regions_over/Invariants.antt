use Rattle.zr_game.specs.Games.{game_of}
use Rattle.zr_refute.proofs.Covering.{CoversTo}
use Rattle.zr_refute.proofs.over.regions_over.Given as goal

abbrev pub invariant-loop-i : goal.invariant-loop-i
invariant-loop-i l = CoversTo (game_of l.game) l.covers l.i l.lists.items
