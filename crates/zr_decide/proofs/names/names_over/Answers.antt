use Rattle.std.proofs.Common.{map}
use Rattle.zr_game.specs.Games.{game_of}
use Rattle.zr_cert.specs.Certs.{nodes_of}
use Rattle.zr_system.specs.Regions.{leaves_of}
use Rattle.zr_decide.proofs.Naming.{namings_over}
use Rattle.zr_decide.proofs.names.names_over.Goals as goal

pub returns-clause-named : goal.returns-clause-named
returns-clause-named c =
    namings_over (game_of c.args.game.now) (map nodes_of c.args.covers.now) (leaves_of c.args.leaves.now)
    c.in-Ok.room c.in-Ok.ensures.within c.in-Ok.ensures.most c.namings.result
    c.namings.ensures.named
