use Rattle.std.proofs.Common.{◌≡◌, [], length, map}
use Rattle.serde_json.specs.View.{view}
use Rattle.zr_value.proofs.Walks.{Walked}
use Rattle.zr_read.specs.Passes.{add_heading, heading_name, variable_names}
use Rattle.zr_read.specs.Seen.{heading_of}
use Rattle.zr_read.proofs.headings.read_each_heading.Given as goal

abbrev pub invariant-loop-i : goal.invariant-loop-i
invariant-loop-i l = record {
  walked : Walked (add_heading l.format l.taken) view [] l.items l.i (map heading_of l.list.items);
  count : length l.list.items ≡ l.i;
  players : l.players ≡ map heading_name (map heading_of l.list.items);
  variables : l.variables.items ≡ map variable_names (map heading_of l.list.items);
}
