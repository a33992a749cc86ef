use Rattle.std.proofs.Common.{[]}
use Rattle.zr_read.specs.Followers.{add_follower_cross}
use Rattle.zr_read.specs.Seen.{follower_heading_of}
use Rattle.serde_json.specs.View.{view}
use Rattle.zr_value.proofs.Walks.{Walked}
use Rattle.zr_read.proofs.followers.read_each_follower_cross.Given as goal

abbrev pub invariant-loop-i : goal.invariant-loop-i
invariant-loop-i l = record {
  walked : Walked (add_follower_cross l.names (follower_heading_of l.heading) l.aim) view [] l.items l.i l.all.entries;
}
