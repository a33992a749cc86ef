use Rattle.std.proofs.Common.{◌≡◌, sym, ◌∙◌}
use Rattle.zr_game.proofs.Items.{found, read_below}
use Rattle.zr_game.specs.Games.{game_of}
use Rattle.zr_game.specs.Players.{player_of, var_of}
use Rattle.zr_naming.proofs.Rays.{none_found_above, second_found}
use Rattle.zr_naming.proofs.ray.changing_ray.Goals as goal

pub returns-then-is_some-clause-found : goal.returns-then-is_some-clause-found
returns-then-is_some-clause-found c =
    let vars = c.args.player.now.vars.items in
    none_found_above (game_of c.args.game.now) c.args.i (player_of c.args.player.now) c.args.v
    (var_of c.index.result.now)
    (found var_of vars c.args.v c.index.result.now
    (read_below var_of vars c.args.v c.requires.below) c.index.ensures) (sym c.is_some.ensures ∙ c.if-is_some.true)
    (rw c.in-Ok-None.field-0-is at c.in-Ok-None.ensures.found)
