use Rattle.zr_game.specs.Games.{game_of}
use Rattle.zr_game.specs.declared.kind.Kind.TheVariants.{Pure}
use Rattle.zr_system.specs.Regions.{leaves_of}
use Rattle.zr_comp.specs.Cases.{IsChoiceList}
use Rattle.zr_comp.proofs.meeting.settle_players.Given as goal

abbrev pub invariant-loop-j : goal.invariant-loop-j
invariant-loop-j l = IsChoiceList (game_of l.game) (leaves_of l.leaves) Pure l.list.items
