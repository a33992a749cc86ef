use Rattle.std.proofs.Common.{◌≡◌, ◌≤◌, ◌*◌}
use Rattle.zr_system.specs.Asked.{firsts}
use Rattle.zr_choices.specs.Parted.{place}
use Rattle.zr_choices.specs.Programs.{free_in}
use Rattle.zr_choices.proofs.part.places.Given as goal

abbrev pub invariant-loop-u : goal.invariant-loop-u
invariant-loop-u l = record {
  list : l.list.items ≡ firsts l.u-index (place (free_in l.order));
  next : l.next ≡ place (free_in l.order) l.u-index;
  few : l.next ≤ 2 * l.u-index;
}
