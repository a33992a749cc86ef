use Rattle.std.proofs.Common.{map}
use Rattle.serde_json.specs.View.{view}
use Rattle.zr_game.specs.Players.{var_of}
use Rattle.zr_value.proofs.Walks.{Walked}
use Rattle.zr_read.specs.Followers.{add_follower_heading, alone}
use Rattle.zr_read.specs.Seen.{IsNamedBy, members_of}
use Rattle.zr_read.proofs.headings.read_each_follower_heading.Given as goal

abbrev pub invariant-loop-i : goal.invariant-loop-i
invariant-loop-i l = record {
  walked : Walked add_follower_heading view (alone (map var_of l.fn.own.list.items)) l.items l.i (members_of l.all);
  names : IsNamedBy l.all.vars;
}
