use Rattle.zr_game.specs.Forms.{cross_order}
use Rattle.zr_game.proofs.Sorted.{InOrder}
use Rattle.zr_game.proofs.form.ascend.Given as goal

abbrev pub invariant-loop-k : goal.invariant-loop-k
invariant-loop-k l = InOrder cross_order l.cross l.k l.all
