use Rattle.std.proofs.Common.{arith, pos, length, sym}
use Rattle.std.proofs.lemmas.Result.{err_from_is_err_and}
use Rattle.zr_base.specs.Fractions.{whole}
use Rattle.zr_game.specs.Games.{game_of}
use Rattle.zr_game.specs.Players.{player_of}
use Rattle.zr_mix.specs.Steps.{slope_steps}
use Rattle.zr_mix.specs.Values.{IsReduced, slope_at}
use Rattle.zr_base.proofs.Made.{more_made, wide_made, writes_err}
use Rattle.zr_mix.proofs.slopes.write_slope.Goals as goal

pub returns-in_err-out-clause-steps : goal.returns-in_err-out-clause-steps
returns-in_err-out-clause-steps c =
    let p = err_from_is_err_and c.from_residual.result c.from_residual.ensures.1 in
    rw (p.1, p.2) (writes_err _ _ c.loop-v.out
    (wide_made (whole (pos 0))
    (slope_steps (game_of c.args.game.now) (player_of c.args.player.now) c.args.means.now)
    (λ v f. IsReduced f
    (slope_at (game_of c.args.game.now) (player_of c.args.player.now) c.args.means.now v))
    c.loop-v.out c.loop-v.v (length c.args.out.now) _ c.loop-v-test.true c.loop-v.invariant
    (sym c.in_err-out.ensures.steps)))

pub loop-v-preserved : goal.loop-v-preserved
loop-v-preserved c =
    more_made (whole (pos 0)) (slope_steps (game_of c.args.game.now) (player_of c.args.player.now)
    c.args.means.now) (λ v f. IsReduced f
    (slope_at (game_of c.args.game.now) (player_of c.args.player.now) c.args.means.now v))
    c.loop-v.out c.loop-v.v c.in_ok-out.field-0
    (omega (arith, c.loop-v.auto.out, c.loop-v-test.true)) c.loop-v.invariant
    (sym c.in_ok-out.ensures.steps) c.in_ok-out.ensures.at
