use Rattle.serde_json.specs.View.{view}
use Rattle.std.proofs.Common.{map}
use Rattle.zr_source.specs.Sources.{leaders_of}
use Rattle.zr_read.proofs.Sound.{leaders_are_right}
use Rattle.zr_read.proofs.game.read_list.Goals as goal

pub invariant_of-result : goal.invariant_of-result
invariant_of-result c = record {
  sound = leaders_are_right c.args.format c.args.most c.args.cross c.args.taken.now
      (view c.args.value.now) (map view c.in_ok-items.items.now)
      (leaders_of c.in_ok-leaders.leaders.items) c.requires.few c.requires.few_cross
      c.in_ok-items.ensures.read c.in_ok-leaders.ensures;
}
