use Rattle.std.proofs.Common.{pos, take}
use Rattle.zr_base.specs.Fractions.{whole}
use Rattle.zr_game.specs.Costs.{other_at}
use Rattle.zr_game.specs.Games.{game_of}
use Rattle.zr_game.proofs.CostSums.{Summed}
use Rattle.zr_mix.specs.Steps.{mean_in, rest_term}
use Rattle.zr_mix.proofs.others.rest_sum.Given as goal

abbrev pub invariant-loop-t : goal.invariant-loop-t
invariant-loop-t l =
    let game = game_of l.game in
    Summed (rest_term game l.means) (other_at (mean_in game l.means)) (whole (pos 0))
    (take l.t-index l.others) l.sum
