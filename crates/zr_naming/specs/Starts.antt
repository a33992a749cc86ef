-- The point at which each variable has its start value.
use Rattle.std.specs.Prelude.{ℤ, pos, Option, Some, None, map}
use Rattle.zr_base.specs.Points.{PointOf}
use Rattle.zr_game.specs.Leaves.{lesser}
use Rattle.zr_game.specs.Players.{PlayerOf, VarOf}

-- the lower bound; without one the smaller of 0 and the upper bound; without both 0
abbrev pub start_between : Option ℤ → Option ℤ → ℤ
start_between (Some low) up = low
start_between None up = lesser up (pos 0)

abbrev pub start_value : VarOf → ℤ
start_value var = start_between var.low var.up

-- each variable at its start value
abbrev pub start_point : PlayerOf → PointOf
start_point player = record { num = map start_value player.vars; den = pos 1 }
