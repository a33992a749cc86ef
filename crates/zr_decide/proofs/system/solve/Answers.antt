use Rattle.std.proofs.Common.{subst}
use Rattle.zr_game.specs.Games.{game_of}
use Rattle.zr_comp.specs.Causes.{IsCompCause}
use Rattle.zr_system.specs.Regions.{leaves_of}
use Rattle.zr_decide.proofs.system.solve.Goals as goal

pub unreachable-requires : goal.unreachable-requires
unreachable-requires c =
    c.requires.narrow c.in-Err-WideRow.field-0-0
    (subst (IsCompCause (game_of c.args.game.now) (leaves_of c.args.leaves.now) c.args.kind
    c.args.purse.now c.search.new.purse) c.in-Err-WideRow.field-0-is
    c.in-Err-WideRow.ensures.cause)
