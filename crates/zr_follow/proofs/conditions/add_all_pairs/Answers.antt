use Rattle.zr_game.proofs.Items.{item}
use Rattle.zr_source.specs.SourceForms.{IsFollowerForm}
use Rattle.zr_source.specs.Sources.{follower_of}
use Rattle.zr_follow.proofs.conditions.add_all_pairs.Goals as goal

pub add_follower_pairs-requires-clause-form : goal.add_follower_pairs-requires-clause-form
add_follower_pairs-requires-clause-form c =
    item follower_of (IsFollowerForm c.args.columns) c.args.followers.now c.loop-follower.follower-index c.follower-item.result c.requires.forms c.loop-follower-test.true c.follower-item.is
