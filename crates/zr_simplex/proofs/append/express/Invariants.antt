use Rattle.std.proofs.Common.{◌≡◌, ◌+◌, length}
use Rattle.std.specs.List.{All}
use Rattle.zr_base.specs.Steps.{IsNarrow}
use Rattle.zr_simplex.specs.Programs.{numbers, program_of}
use Rattle.zr_simplex.specs.Tableaus.{basis_of, form_of}
use Rattle.zr_simplex.specs.Appends.{IsExpressed}
use Rattle.zr_simplex.proofs.append.express.Given as goal

abbrev pub invariant-loop-row : goal.invariant-loop-row
invariant-loop-row l = record {
  len : length l.made.items ≡ l.lp.columns + l.rows + 3;
  narrow : All IsNarrow l.made.items;
  expressed : IsExpressed (program_of l.lp) l.rows l.row (basis_of l.tableau) (form_of l.tableau) (numbers l.made.items);
}
