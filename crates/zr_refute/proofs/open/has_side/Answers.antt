use Rattle.std.proofs.Common.{inl, inr}
use Rattle.zr_game.specs.declared.choice.Choice.TheVariants.{Off, On}
use Rattle.zr_refute.proofs.Passed.{passed}
use Rattle.zr_refute.proofs.open.has_side.Goals as goal

pub loop-made-preserved : goal.loop-made-preserved
loop-made-preserved c = record {
  none_on = λ m k h e.
      passed c.args.path.now c.loop-made.made-index (On c.args.i k) c.loop-made-test.true
      (λ is. let t = c.is_side.ensures.1 (k, inl is) in absurd cc)
      (λ n p. c.loop-made.invariant.none_on n k p) m h e;
  none_off = λ m k h e.
      passed c.args.path.now c.loop-made.made-index (Off c.args.i k) c.loop-made-test.true
      (λ is. let t = c.is_side.ensures.1 (k, inr is) in absurd cc)
      (λ n p. c.loop-made.invariant.none_off n k p) m h e;
}
