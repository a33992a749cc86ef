use Rattle.std.proofs.Common.{map, subst}
use Rattle.zr_game.specs.Games.{game_of}
use Rattle.zr_game.specs.Named.{named_of}
use Rattle.zr_game.proofs.Items.{at_number}
use Rattle.zr_tree.specs.Nodes.{node_of}
use Rattle.zr_naming.specs.Causes.{IsNamingCause}
use Rattle.zr_naming.specs.declared.stop.NamingStop.{NamingStop}
use Rattle.zr_decide.proofs.Naming.{all_named}
use Rattle.zr_decide.proofs.names.naming.Goals as goal

pub returns-in-Ok-clause-named : goal.returns-in-Ok-clause-named
returns-in-Ok-clause-named c player is =
    all_named (game_of c.args.game.now) c.args.i player (map node_of c.args.nodes.now)
    (c.is_loose.ensures.yes c.if-not-is_loose.false) (map named_of c.in-Ok.items.items)
    (c.in-Ok.ensures.items player is)

pub returns-in-Err-Wide-clause-cause : goal.returns-in-Err-Wide-clause-cause
returns-in-Err-Wide-clause-cause c =
    let p = at_number (game_of c.args.game.now) c.args.i c.requires.number in (
      c.args.i,
      p.0,
      p.1,
      subst (λ (s : NamingStop). IsNamingCause c.args.i p.0 s) c.in-Err-Wide.field-0-is
          (c.in-Err-Wide.ensures.cause p.0 p.1),
    )
