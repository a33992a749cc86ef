use Rattle.std.proofs.Common.{take}
use Rattle.zr_lin.specs.Ineqs.{row_at, rows_of}
use Rattle.zr_lin.specs.Combinations.{Combines}
use Rattle.zr_lin.proofs.combination.combine.Given as goal

abbrev pub invariant-loop-number : goal.invariant-loop-number
invariant-loop-number l =
    Combines (row_at (rows_of l.sys)) (take l.number-index l.mult) l.left (record { le = l.le; strict = l.strict })
