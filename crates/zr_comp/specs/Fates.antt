-- What becomes of a path.
use Rattle.std.specs.Prelude.{List}
use Rattle.zr_lin.specs.Ineqs.{HasSolution}
use Rattle.zr_game.specs.Players.{GameOf}
use Rattle.zr_game.specs.declared.choice.Choice.{Choice}
use Rattle.zr_game.specs.declared.kind.Kind.{Kind}
use Rattle.zr_system.specs.Regions.{LeavesOf}
use Rattle.zr_system.specs.System.{system_rows}
use Rattle.zr_comp.specs.declared.visit.Fate.{Fate}
use Rattle.zr_comp.specs.declared.visit.Fate.TheVariants as AFate
use Rattle.zr_comp.specs.Answers.{IsSolution}
use Rattle.zr_comp.specs.Cases.{IsCase}
use Rattle.zr_choices.specs.Replies.{IsRefutedBy}

-- it is closed by multipliers; or its rows have a solution, and a case of it is made; or there is
-- a solution under a complete list
abbrev pub IsFate : GameOf → LeavesOf → Kind → List Choice → Fate → Type 0
IsFate game leaves kind path (AFate.Closed mult) = IsRefutedBy game leaves path mult.items
IsFate game leaves kind path (AFate.Divided case) =
    HasSolution (system_rows game leaves path) × IsCase game leaves kind path case
IsFate game leaves kind path (AFate.Solved x) = IsSolution game leaves kind x
