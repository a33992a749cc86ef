use Rattle.std.proofs.Common.{◌≡◌, drop, map}
use Rattle.zr_game.specs.Games.{game_of}
use Rattle.zr_cert.specs.Certs.{mixture_of}
use Rattle.zr_check.specs.Bounds.{all_means}
use Rattle.zr_costs.proofs.MeansLists.{after}
use Rattle.zr_costs.proofs.means.means_of.Given as goal

abbrev pub invariant-loop-i : goal.invariant-loop-i
invariant-loop-i l =
    all_means (game_of l.game) (map mixture_of l.strategies) ≡ after l.all.items
    (all_means (drop l.i (game_of l.game)) (drop l.i (map mixture_of l.strategies)))
