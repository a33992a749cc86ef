use Rattle.zr_game.specs.Forms.{other_order}
use Rattle.zr_game.proofs.Sorted.{InOrder}
use Rattle.zr_game.proofs.form.others_ascend.Given as goal

abbrev pub invariant-loop-k : goal.invariant-loop-k
invariant-loop-k l = InOrder other_order l.others l.k l.all
