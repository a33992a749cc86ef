use Rattle.std.proofs.Common.{◌==◌}
use Rattle.zr_game.specs.Games.{game_of}
use Rattle.zr_mix.specs.Steps.{slope_term}
use Rattle.zr_mix.specs.Values.{term_at}
use Rattle.zr_mix.proofs.Filtered.{Onward}
use Rattle.zr_mix.proofs.slopes.with_terms.Given as goal

abbrev pub invariant-loop-t : goal.invariant-loop-t
invariant-loop-t l =
    Onward (slope_term (game_of l.game) l.means) (term_at (game_of l.game) l.means)
    (λ t. t.own == l.v) l.fn.start l.cross l.t-index l.sum
