use Rattle.std.proofs.Common.{rules, option_map, FitsSigned}
use Rattle.std.specs.Int.{w128}
use Rattle.std.proofs.lemmas.Int.{to_z-of_z}
use Rattle.zr_base.specs.Fractions.{whole}
use Rattle.zr_game.specs.Players.{player_of}
use Rattle.zr_asked.specs.Paths.{branch}
use Rattle.zr_bnb.proofs.Proving.{best_end, empty_end, whole_above}
use Rattle.zr_bnb.proofs.Visiting.{not_closed}
use Rattle.zr_bnb.proofs.prove.asked_end.Goals as goal

pub returns-in-Err-clause-cause : goal.returns-in-Err-clause-cause
returns-in-Err-clause-cause c main may old new =
    c.stop_of.ensures c.args.i (player_of c.args.player.now) c.args.path.now c.args.aim.now main may
    c.in-Err.ensures.cause old new

pub returns-in-Ok-Best-clause-node : goal.returns-in-Ok-Best-clause-node
returns-in-Ok-Best-clause-node c =
    let player = player_of c.args.player.now in
    let s : FitsSigned w128 c.in-Ok-Best.scale = search rules in
    simp to_z-of_z (best_end player c.args.aim.now (branch player c.args.path.now) c.args.least
    c.in-Ok-Best.field-0-0 c.in-Ok-Best.field-0-1 c.in-Ok-Best.scale c.in-Ok-Best.mult.items
    (rw c.in-Ok-Best.field-0-is at c.in-Ok-Best.ensures.reply) c.requires.closed)

pub returns-in-Ok-Empty-clause-node : goal.returns-in-Ok-Empty-clause-node
returns-in-Ok-Empty-clause-node c =
    let player = player_of c.args.player.now in
    empty_end player c.args.aim.now (branch player c.args.path.now) c.args.least c.in-Ok-Empty.mult.items
    (rw c.in-Ok-Empty.field-0-is at c.in-Ok-Empty.ensures.reply)

pub unreachable-requires : goal.unreachable-requires
unreachable-requires c =
    let player = player_of c.args.player.now in
    not_closed player c.args.aim.now (branch player c.args.path.now) (option_map whole c.args.least)
    c.in-Ok-Unbounded.field-0-0 c.in-Ok-Unbounded.field-0-1.items (whole_above c.args.least)
    (rw c.in-Ok-Unbounded.field-0-is at c.in-Ok-Unbounded.ensures.reply) c.requires.closed
