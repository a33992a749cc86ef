use Rattle.std.proofs.Common.{◌≡◌, arith, length, FitsSigned, []}
use Rattle.std.specs.Int.{w128}
use Rattle.std.proofs.lemmas.Int.{to_z-of_z}
use Rattle.std.proofs.lemmas.List.{length-map}
use Rattle.zr_game.specs.Games.{game_of}
use Rattle.zr_game.specs.Players.{player_of, var_of}
use Rattle.zr_asked.specs.Stuck.{IsPlainAim, IsVariableAim}
use Rattle.zr_naming.proofs.Rays.{found_by, not_best, not_empty, plain_variable}
use Rattle.zr_naming.proofs.ray.ray_along.Goals as goal
use Rattle.zr_naming.proofs.ray.ray_along.Goals.{After-deref}

aim_is : (c : After-deref)
    → IsVariableAim (player_of c.args.player.now) c.args.v c.args.z c.in-Ok.aim.items
aim_is c =
    let player = player_of c.args.player.now in
    let z : FitsSigned w128 c.args.z = c.ranges.z in
    let count : length player.vars ≡ c.len.result =
    omega (
      arith,
      c.len.ensures,
      c.args.player.now.vars.ok.0,
      length-map c.args.player.now.vars.items var_of,
    ) in
    simp to_z-of_z at (c.in-Ok.ensures.aim player count)

pub ask-requires-clause-aim : goal.ask-requires-clause-aim
ask-requires-clause-aim c =
    let at = (goal.at.ask-requires-clause-aim c).After-deref in
    rw c.deref.ensures.value (aim_is at).1

drawn : (c : After-deref) → IsPlainAim (player_of c.args.player.now) c.in-Ok.aim.items
drawn c =
    plain_variable (player_of c.args.player.now) c.args.v c.args.z c.in-Ok.aim.items
    c.requires.sign (aim_is c)

pub offered_ray-requires-clause-drawn : goal.offered_ray-requires-clause-drawn
offered_ray-requires-clause-drawn c =
    let at = (goal.at.offered_ray-requires-clause-drawn c).After-deref in
    let reply = rw (c.in-Ok-Unbounded.field-0-is, c.deref.ensures.value) at
    c.in-Ok-Unbounded.ensures.reply in
    record {
      path = [];
      path_is = tt;
      aim = c.in-Ok.aim.items;
      asked = drawn at;
      direction = reply.direction;
    }

pub returns-in-Ok-offered_ray-clause-found : goal.returns-in-Ok-offered_ray-clause-found
returns-in-Ok-offered_ray-clause-found c =
    let at = (goal.at.returns-in-Ok-offered_ray-clause-found c).After-deref in
    let reply = rw (c.in-Ok-Unbounded.field-0-is, c.deref.ensures.value) at
    c.in-Ok-Unbounded.ensures.reply in
    found_by (game_of c.args.game.now) c.args.i (player_of c.args.player.now)
    (c.args.i, c.requires.some) c.args.v c.args.z c.in-Ok.aim.items (aim_is at) _
    c.in-Ok-Unbounded.ray.items reply (record {
      path = [];
      path_is = tt;
      aim = c.in-Ok.aim.items;
      asked = drawn at;
      direction = reply.direction;
    })
    c.in-Ok-offered_ray.item c.in-Ok-offered_ray.ensures

pub returns-in-Ok-Best-clause-found : goal.returns-in-Ok-Best-clause-found
returns-in-Ok-Best-clause-found c start dir ray falls =
    let at = (goal.at.returns-in-Ok-Best-clause-found c).After-deref in
    let reply = rw (c.in-Ok-Best.field-0-is, c.deref.ensures.value) at
    c.in-Ok-Best.ensures.reply in
    absurd (not_best (player_of c.args.player.now) (c.args.i, c.requires.some) c.args.v c.args.z
    c.in-Ok.aim.items (aim_is at) start dir ray falls _ _ _ _ reply)

pub returns-in-Ok-Empty-clause-found : goal.returns-in-Ok-Empty-clause-found
returns-in-Ok-Empty-clause-found c start dir ray falls =
    let at = (goal.at.returns-in-Ok-Empty-clause-found c).After-deref in
    let reply = rw (c.in-Ok-Empty.field-0-is, c.deref.ensures.value) at
    c.in-Ok-Empty.ensures.reply in
    absurd (not_empty (player_of c.args.player.now) (c.args.i, c.requires.some) c.args.v c.args.z
    c.in-Ok.aim.items (aim_is at) start dir ray falls _ reply)

pub returns-clause-cause : goal.returns-clause-cause
returns-clause-cause c =
    let at = (goal.at.returns-clause-cause c).After-deref in
    let cause = rw c.deref.ensures.value at c.in-Err.ensures.cause in
    c.stop_of.ensures c.args.i (player_of c.args.player.now) _ c.in-Ok.aim.items (drawn at) cause
