use Rattle.std.proofs.Common.{◌≡◌, ◌+◌, [], length, map}
use Rattle.zr_source.specs.Sources.{leader_of}
use Rattle.zr_value.specs.Values.{each}
use Rattle.zr_read.specs.Passes.{add_leader}
use Rattle.zr_read.specs.Seen.{heading_of}
use Rattle.zr_read.proofs.players.read_each_leader.Given as goal

abbrev pub invariant-loop-i : goal.invariant-loop-i
invariant-loop-i l = record {
  walked : each (add_leader l.format l.most l.known.players l.known.variables.items) 0 []
      (map heading_of l.fn.headings.items)
      ≡ each (add_leader l.format l.most l.known.players l.known.variables.items)
      l.i-iterator.count (map leader_of l.list.items) (map heading_of l.i-iterator.iter.rest.items);
  whole : l.i-iterator.iter.rest.len ≡ length l.i-iterator.iter.rest.items;
  left : length l.list.items + length l.i-iterator.iter.rest.items ≡ length l.fn.headings.items;
}
