use Rattle.std.proofs.Common.{length, subst, OnOk}
use Rattle.zr_game.specs.Forms.{IsPlayer}
use Rattle.zr_game.specs.Games.{game_of}
use Rattle.zr_game.specs.Players.{PlayerOf, player_of}
use Rattle.zr_game.proofs.Items.{found, one, read_below}
use Rattle.zr_base.specs.Made.{Writes, made_from}
use Rattle.zr_mix.specs.Steps.{slope_steps}
use Rattle.zr_mix.specs.Values.{AreReduced, slope_at}
use Rattle.zr_mix.proofs.Places.{all_at_means, mean_there}
use Rattle.zr_mix.proofs.slopes.slope.Goals as goal
use Rattle.zr_mix.proofs.slopes.slope.Goals.{After-index}

is_player : (c : After-index)
    → IsPlayer (game_of c.args.game.now) c.args.i (player_of c.index.result.now)
is_player c = found player_of c.args.game.now.players.items c.args.i c.index.result.now
    (read_below player_of c.args.game.now.players.items c.args.i c.requires.number) c.index.ensures

pub write_slope-requires : goal.write_slope-requires
write_slope-requires c =
    mean_there (game_of c.args.game.now) c.args.game.now.sound c.args.i
    (player_of c.index.result.now) (is_player ((goal.at.write_slope-requires c).After-index))
    c.args.means.now c.requires.means

pub returns-clause-steps : goal.returns-clause-steps
returns-clause-steps c player is =
    let s = one (game_of c.args.game.now) c.args.i (player_of c.index.result.now) player
    (is_player ((goal.at.returns-clause-steps c).After-index)) is in
    subst (λ (p : PlayerOf). Writes
    (made_from (slope_steps (game_of c.args.game.now) p c.args.means.now) 0
    (length c.args.out.now)) c.write_slope.result c.write_slope.new.out) s
    c.write_slope.ensures.steps

pub returns-clause-at : goal.returns-clause-at
returns-clause-at c player is =
    let s = one (game_of c.args.game.now) c.args.i (player_of c.index.result.now) player
    (is_player ((goal.at.returns-clause-at c).After-index)) is in
    subst (λ (p : PlayerOf). OnOk c.write_slope.result
    (AreReduced c.write_slope.new.out (length c.args.out.now)
    (slope_at (game_of c.args.game.now) p c.args.means.now))) s c.write_slope.ensures.at

pub returns-clause-exact : goal.returns-clause-exact
returns-clause-exact c player is profile are =
    let s = one (game_of c.args.game.now) c.args.i (player_of c.index.result.now) player
    (is_player ((goal.at.returns-clause-exact c).After-index)) is in
    let at = subst (λ (p : PlayerOf). OnOk c.write_slope.result
    (AreReduced c.write_slope.new.out (length c.args.out.now)
    (slope_at (game_of c.args.game.now) p c.args.means.now))) s c.write_slope.ensures.at in
    all_at_means (game_of c.args.game.now) c.args.game.now.sound c.args.i player is profile
    c.args.means.now are c.write_slope.result c.write_slope.new.out (length c.args.out.now) at
