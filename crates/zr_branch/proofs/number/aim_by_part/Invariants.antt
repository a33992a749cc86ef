use Rattle.std.proofs.Common.{◌≡◌, ◌++◌, drop}
use Rattle.std.specs.List.{All}
use Rattle.zr_base.specs.Steps.{IsNarrow}
use Rattle.zr_simplex.specs.Programs.{numbers}
use Rattle.zr_branch.specs.Columns.{part_numbers}
use Rattle.zr_branch.proofs.number.aim_by_part.Given as goal

abbrev pub invariant-loop-part : goal.invariant-loop-part
invariant-loop-part l = record {
  values : l.list.items ++ part_numbers (numbers l.aim) (drop l.part-index l.parts) ≡ part_numbers (numbers l.aim) l.parts;
  narrow : All IsNarrow l.list.items;
}
