use Rattle.std.proofs.Common.{◌≡◌, ◌+◌, ◌++◌, drop, length, map}
use Rattle.std.specs.List.{All}
use Rattle.zr_base.specs.Steps.{IsNarrow}
use Rattle.zr_game.specs.Players.{var_of}
use Rattle.zr_simplex.specs.Programs.{numbers}
use Rattle.zr_asked.specs.Parts.{parts_from}
use Rattle.zr_branch.specs.Columns.{values_from}
use Rattle.zr_branch.proofs.value.values_by.Given as goal

abbrev pub invariant-loop-var : goal.invariant-loop-var
invariant-loop-var l = record {
  values : l.values.items ++ values_from l.c (map var_of (drop l.var-index l.vars)) (numbers l.list)
      ≡ values_from 0 (map var_of l.vars) (numbers l.list);
  columns : l.c + length (parts_from l.var-index (map var_of (drop l.var-index l.vars)))
      ≡ length l.list;
  narrow : All IsNarrow l.values.items;
}
