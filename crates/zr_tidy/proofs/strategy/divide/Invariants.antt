use Rattle.std.proofs.Common.{◌≡◌, ◌++◌, map, take, drop}
use Rattle.zr_tidy.proofs.Kept.{kept_without}
use Rattle.zr_tidy.proofs.strategy.divide.Given as goal

abbrev pub invariant-loop-part : goal.invariant-loop-part
invariant-loop-part l =
    l.parts
    ≡ map (kept_without l.by) (take l.part-index l.initial.parts)
    ++ drop l.part-index l.initial.parts
