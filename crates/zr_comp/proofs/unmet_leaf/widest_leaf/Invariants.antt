use Rattle.std.proofs.Common.{IfSome}
use Rattle.zr_game.specs.Games.{game_of}
use Rattle.zr_game.specs.declared.kind.Kind.TheVariants.{Mixed}
use Rattle.zr_system.specs.Regions.{leaves_of}
use Rattle.zr_comp.specs.Cases.{IsCase}
use Rattle.zr_comp.proofs.unmet_leaf.widest_leaf.Given as goal

abbrev pub invariant-loop-j : goal.invariant-loop-j
invariant-loop-j l =
    IfSome l.found (IsCase (game_of l.game) (leaves_of l.leaves) Mixed l.path)
