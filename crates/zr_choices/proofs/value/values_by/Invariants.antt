use Rattle.std.proofs.Common.{◌≡◌, ◌≤◌, ◌*◌}
use Rattle.std.specs.List.{All}
use Rattle.zr_base.specs.Points.{num_of}
use Rattle.zr_base.specs.Steps.{IsNarrow}
use Rattle.zr_system.specs.Asked.{firsts}
use Rattle.zr_choices.specs.Parted.{joined, place}
use Rattle.zr_choices.specs.Programs.{free_in}
use Rattle.zr_choices.proofs.value.values_by.Given as goal

abbrev pub invariant-loop-u : goal.invariant-loop-u
invariant-loop-u l = record {
  values : l.values.items ≡ firsts l.u-index (joined (free_in l.order) (num_of l.point));
  columns : l.c ≡ place (free_in l.order) l.u-index;
  few : l.c ≤ 2 * l.u-index;
  narrow : All IsNarrow l.values.items;
}
