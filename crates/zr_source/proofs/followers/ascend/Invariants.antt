use Rattle.zr_game.proofs.Sorted.{InOrder}
use Rattle.zr_source.specs.SourceForms.{follower_cross_order}
use Rattle.zr_source.proofs.followers.ascend.Given as goal

abbrev pub invariant-loop-k : goal.invariant-loop-k
invariant-loop-k l = InOrder follower_cross_order l.cross l.k l.all
