use Rattle.std.proofs.Common.{pos}
use Rattle.zr_base.specs.Fractions.{whole}
use Rattle.zr_game.specs.Games.{game_of}
use Rattle.zr_game.specs.Players.{player_of}
use Rattle.zr_mix.specs.Steps.{slope_steps}
use Rattle.zr_mix.specs.Values.{IsReduced, slope_at}
use Rattle.zr_base.proofs.Made.{Made}
use Rattle.zr_mix.proofs.slopes.write_slope.Given as goal

abbrev pub invariant-loop-v : goal.invariant-loop-v
invariant-loop-v l =
    Made (whole (pos 0)) (slope_steps (game_of l.game) (player_of l.player) l.means)
    (λ v f. IsReduced f (slope_at (game_of l.game) (player_of l.player) l.means v)) l.v l.out
