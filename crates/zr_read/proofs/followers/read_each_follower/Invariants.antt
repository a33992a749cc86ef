use Rattle.std.proofs.Common.{[], map}
use Rattle.zr_source.specs.Sources.{follower_of}
use Rattle.zr_read.specs.Followers.{add_follower}
use Rattle.zr_read.specs.Seen.{follower_heading_of}
use Rattle.zr_value.proofs.Walks.{Walked}
use Rattle.zr_read.proofs.followers.read_each_follower.Given as goal

abbrev pub invariant-loop-i : goal.invariant-loop-i
invariant-loop-i l = record {
  walked : Walked (add_follower l.format l.names) follower_heading_of [] l.headings l.i (map follower_of l.list.items);
}
