use Rattle.zr_game.specs.declared.choice.Choice.TheVariants.{Which}
use Rattle.zr_refute.proofs.Passed.{passed}
use Rattle.zr_refute.proofs.open.has_which.Goals as goal

pub loop-made-preserved : goal.loop-made-preserved
loop-made-preserved c = λ m k h e.
    passed c.args.path.now c.loop-made.made-index (Which c.args.i k) c.loop-made-test.true
    (λ is. let t = c.is_which.ensures.1 (k, is) in absurd cc)
    (λ n p. c.loop-made.invariant n k p) m h e
