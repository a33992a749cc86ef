use Rattle.std.proofs.Common.{arith}
use Rattle.zr_game.specs.declared.leaf.Side.TheVariants.{Undecided}
use Rattle.zr_tree.proofs.Lookups.{beyond}
use Rattle.zr_boxes.proofs.root.clear_sides.Goals as goal

pub returns : goal.returns
returns c v = beyond c.loop-place.sides Undecided v (λ h. c.loop-place.invariant v (omega (arith, h)))
