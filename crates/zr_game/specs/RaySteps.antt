-- The steps by which a ray is tested, each of which may be too wide.
use Rattle.std.specs.Prelude.{pos, Option}
use Rattle.zr_base.specs.declared.step.Wide.{Wide}
use Rattle.zr_base.specs.Sums.{sum_steps}
use Rattle.zr_base.specs.Terms.{Terms}
use Rattle.zr_base.specs.Tests.{wide_in, or_else, first_wide}
use Rattle.zr_base.specs.Points.{PointOf}
use Rattle.zr_base.specs.Rows.{products}
use Rattle.zr_game.specs.Players.{PlayerOf}
use Rattle.zr_game.specs.FeasibleSteps.{feasible_wide}
use Rattle.zr_game.specs.Rays.{Direction}

-- the steps of a sum along the direction, from the left
abbrev pub along_wide : Direction → Terms → Option Wide
along_wide dir coef = wide_in (sum_steps (pos 0) (products coef dir))

-- the first wide step of the base's test, then of the rows along the direction, and then of the
-- pairs
abbrev pub ray_wide : PlayerOf → PointOf → Direction → Option Wide
ray_wide player base dir =
    or_else (feasible_wide player base)
    (or_else (first_wide (λ row. along_wide dir row.coef) player.rows)
    (first_wide (λ pair. along_wide dir pair.coef) player.pairs))
