use Rattle.std.proofs.Common.{pos}
use Rattle.zr_lines.specs.Fits.{ascend}
use Rattle.zr_lines.proofs.NodeSteps.{no_rise, rise, risen}
use Rattle.zr_lines.proofs.multiplier_fields.ascends.Goals as goal

pub returns-then-slot-least : goal.returns-then-slot-least
returns-then-slot-least c = no_rise c.loop-slot.least c.args.mult.now c.loop-slot.slot-index (0, pos 0) (ascend c.args.mult.now) c.loop-slot-test.true c.if-slot-least.true c.loop-slot.invariant

pub loop-slot-preserved : goal.loop-slot-preserved
loop-slot-preserved c = rise c.loop-slot.least c.args.mult.now c.loop-slot.slot-index (0, pos 0) (ascend c.args.mult.now) c.loop-slot-test.true c.if-slot-least.false c.loop-slot.invariant

pub returns : goal.returns
returns c = risen c.loop-slot.least c.args.mult.now c.loop-slot.slot-index (ascend c.args.mult.now) c.loop-slot-test.false c.loop-slot.invariant
