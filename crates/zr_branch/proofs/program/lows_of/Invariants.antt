use Rattle.std.proofs.Common.{◌≡◌, ◌+◌, ◌++◌, drop, map}
use Rattle.zr_branch.specs.Columns.{part_of}
use Rattle.zr_branch.proofs.program.lows_of.Given as goal

abbrev pub invariant-loop-part : goal.invariant-loop-part
invariant-loop-part l =
    l.lows.items ++ map (λ part. l.first + part.0 + part.0) (map part_of (drop l.part-index l.parts))
    ≡ map (λ part. l.first + part.0 + part.0) (map part_of l.parts)
