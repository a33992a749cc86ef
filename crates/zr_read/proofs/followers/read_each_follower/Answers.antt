use Rattle.std.proofs.Common.{refl, [], map}
use Rattle.zr_source.specs.Sources.{follower_of}
use Rattle.zr_read.specs.Followers.{add_follower}
use Rattle.zr_read.specs.Seen.{follower_heading_of}
use Rattle.zr_value.proofs.Walks.{walked_more, walk_stops, walk_ends}
use Rattle.zr_read.proofs.followers.read_each_follower.Goals as goal

pub loop-i-init : goal.loop-i-init
loop-i-init c = record { walked = rw (c.new-list.ensures.items) (record { rest = refl }) }

pub loop-i-preserved : goal.loop-i-preserved
loop-i-preserved c = record {
  walked = walked_more (add_follower c.args.format c.args.names.now) follower_heading_of [] c.args.headings.now c.index-headings-i.result c.loop-i.i (map follower_of c.loop-i.list.items) c.index-headings-i.is c.loop-i-test.true c.loop-i.invariant.walked (λ _. (map follower_of c.add_follower-added.new.so_far.items)) c.add_follower-added.result c.add_follower-added.ensures
      c.in_default.field-0 c.in_default.ensures;
}

pub returns-in-Err : goal.returns-in-Err
returns-in-Err c =
    walk_stops (add_follower c.args.format c.args.names.now) follower_heading_of [] c.args.headings.now c.index-headings-i.result c.loop-i.i (map follower_of c.loop-i.list.items) c.index-headings-i.is c.loop-i-test.true c.loop-i.invariant.walked (λ _. (map follower_of c.add_follower-added.new.so_far.items)) c.add_follower-added.result c.add_follower-added.ensures
    c.in-Err.e c.in-Err.ensures

pub returns : goal.returns
returns c =
    walk_ends (add_follower c.args.format c.args.names.now) follower_heading_of [] c.args.headings.now c.loop-i.i (map follower_of c.loop-i.list.items)
    c.loop-i-test.false c.loop-i.invariant.walked
