use Rattle.std.proofs.Common.{◌≡◌, pos}
use Rattle.zr_base.specs.Fractions.{whole}
use Rattle.zr_game.specs.Means.{mean}
use Rattle.zr_game.specs.Profiles.{total}
use Rattle.zr_mix.specs.Mixtures.{parts_of}
use Rattle.zr_mix.specs.Steps.{mean_steps}
use Rattle.zr_mix.specs.Values.{IsReduced}
use Rattle.zr_base.proofs.Made.{Made}
use Rattle.zr_mix.proofs.mean.means.Given as goal

abbrev pub invariant-loop-v : goal.invariant-loop-v
invariant-loop-v l =
    Made (whole (pos 0)) (mean_steps l.strategy.total (parts_of l.strategy))
    (λ v f. l.strategy.total ≡ total (parts_of l.strategy)
    → IsReduced f (mean (parts_of l.strategy) v)) l.v l.out
