use Rattle.std.proofs.Common.{arith}
use Rattle.zr_gen.proofs.Lists.{summed}
use Rattle.zr_gen.specs.Packing.{weight}
use Rattle.zr_gen.proofs.packing.capacity.Goals as goal

pub loop-k-preserved : goal.loop-k-preserved
loop-k-preserved c =
    let d = c.args.drawn.now in
    let sum = summed (weight d.players d.items d.draws.number c.args.i) c.loop-k.k in
    record {
      sum = omega (arith, sum, c.loop-k.invariant.sum, c.weight-sum.ensures.value);
      most = omega (arith, c.loop-k.invariant.most, c.weight-sum.ensures.most);
    }
