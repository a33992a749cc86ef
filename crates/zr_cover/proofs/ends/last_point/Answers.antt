use Rattle.std.proofs.Common.{◌≡◌, arith, length, subst, None, FitsSigned}
use Rattle.std.specs.Int.{w128}
use Rattle.std.proofs.lemmas.Int.{to_z-of_z}
use Rattle.std.proofs.lemmas.List.{length-map}
use Rattle.zr_game.specs.Players.{player_of, var_of}
use Rattle.zr_game.specs.Leaves.{LeafOf, MeetsLeaf}
use Rattle.zr_asked.specs.Paths.{branch}
use Rattle.zr_asked.specs.Stuck.{IsVariableAim}
use Rattle.zr_bnb.proofs.Visiting.{closed_if_empty}
use Rattle.zr_cover.proofs.Rays.{changes_whole, plain_variable}
use Rattle.zr_cover.proofs.ends.last_point.Goals as goal
use Rattle.zr_cover.proofs.ends.last_point.Goals.{After-deref}

aim_is : (c : After-deref)
    → IsVariableAim (player_of c.args.player.now) c.args.v c.args.z c.in-Ok.aim.items
aim_is c =
    let player = player_of c.args.player.now in
    let z : FitsSigned w128 c.args.z = c.ranges.z in
    let count : length player.vars ≡ c.len.result =
    omega (
      arith,
      c.len.ensures,
      c.args.player.now.vars.ok.0,
      length-map c.args.player.now.vars.items var_of,
    ) in
    simp to_z-of_z at (c.in-Ok.ensures.aim player count)

pub ask-requires-clause-aim : goal.ask-requires-clause-aim
ask-requires-clause-aim c =
    let at = (goal.at.ask-requires-clause-aim c).After-deref in
    rw c.deref.ensures.value (aim_is at).1

pub returns-in-Ok-Best-clause-len : goal.returns-in-Ok-Best-clause-len
returns-in-Ok-Best-clause-len c =
    (rw (c.in-Ok-Best.field-0-is, c.deref.ensures.value) at c.in-Ok-Best.ensures.reply).meets.len

pub unreachable-requires : goal.unreachable-requires
unreachable-requires c =
    let player = player_of c.args.player.now in
    let reply = rw (c.in-Ok-Empty.field-0-is, c.deref.ensures.value) at
    c.in-Ok-Empty.ensures.reply in
    closed_if_empty player c.in-Ok.aim.items (branch player c.args.path.now) None
    c.in-Ok-Empty.field-0-0.items reply c.requires.point.0
    (subst (λ (l : LeafOf). MeetsLeaf player l c.requires.point.0) c.requires.leaf
    c.requires.point.1)

pub returns-in-Ok-Unbounded-clause-cause : goal.returns-in-Ok-Unbounded-clause-cause
returns-in-Ok-Unbounded-clause-cause c old new =
    let at = (goal.at.returns-in-Ok-Unbounded-clause-cause c).After-deref in
    let player = player_of c.args.player.now in
    let aim = c.in-Ok.aim.items in
    let reply = rw (c.in-Ok-Unbounded.field-0-is, c.deref.ensures.value) at
    c.in-Ok-Unbounded.ensures.reply in (
      changes_whole player (c.args.i, c.requires.player) c.args.path.now c.requires.path aim
          c.in-Ok-Unbounded.field-0-0 c.in-Ok-Unbounded.ray.items reply c.args.v c.args.z
          c.requires.whole (aim_is at),
      record {
        path = c.args.path.now;
        path_is = c.requires.path;
        aim = aim;
        asked = plain_variable player c.args.v c.args.z aim c.requires.sign (aim_is at);
        direction = reply.direction;
      },
    )

pub returns-clause-cause : goal.returns-clause-cause
returns-clause-cause c old new =
    let at = (goal.at.returns-clause-cause c).After-deref in
    let player = player_of c.args.player.now in
    let cause = rw c.deref.ensures.value at c.in-Err.ensures.cause in
    c.stop_of.ensures c.args.i player c.args.path.now c.in-Ok.aim.items
    (plain_variable player c.args.v c.args.z c.in-Ok.aim.items c.requires.sign (aim_is at)) cause
    old new
