use Rattle.std.proofs.Common.{◌≡◌, ◌≤◌, length, map}
use Rattle.serde_json.specs.View.{view}
use Rattle.zr_game.specs.Players.{var_of}
use Rattle.zr_source.specs.Names.{var_name}
use Rattle.zr_value.proofs.Walks.{Walked}
use Rattle.zr_read.specs.Followers.{add_free}
use Rattle.zr_read.proofs.headings.read_each_free.Given as goal

abbrev pub invariant-loop-i : goal.invariant-loop-i
invariant-loop-i l = record {
  walked : Walked add_free view (map var_of l.fn.before.list.items) l.items l.i (map var_of l.list.items);
  names : l.names ≡ map var_name (map var_of l.list.items);
  longer : length l.fn.before.names ≤ length l.names;
}
