use Rattle.std.proofs.Common.{arith, None, map}
use Rattle.zr_game.specs.Players.{var_of}
use Rattle.zr_game.specs.Leaves.{low_of}
use Rattle.zr_tree.proofs.Lookups.{all_by, no_low}
use Rattle.zr_boxes.proofs.root.set_lows.Goals as goal

pub returns : goal.returns
returns c v =
    all_by c.loop-v.low None (low_of (map var_of c.args.vars.now)) v (λ h. c.loop-v.invariant v (omega (arith, h))) (λ h. no_low c.args.vars.now v (omega (arith, h, c.requires)))
