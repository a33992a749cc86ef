use Rattle.std.proofs.Common.{◌≡◌, drop}
use Rattle.zr_lines.specs.Fits.{ascend, ascend_from}
use Rattle.zr_lines.proofs.multiplier_fields.ascends.Given as goal

-- the slots that are left ascend from the least that is allowed where all of them ascend
abbrev pub invariant-loop-slot : goal.invariant-loop-slot
invariant-loop-slot l = ascend_from l.least (drop l.slot-index l.mult) ≡ ascend l.mult
