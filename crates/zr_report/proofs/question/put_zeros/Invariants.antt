use Rattle.std.proofs.Common.{◌≡◌, ◌++◌, map, replicate, pos}
use Rattle.zr_form.specs.Lines.{spaced}
use Rattle.zr_form.specs.Numbers.{signed}
use Rattle.zr_report.proofs.question.put_zeros.Given as goal

abbrev pub invariant-loop : goal.invariant-loop
invariant-loop l = l.out.items ≡ l.initial.out.items ++ spaced (map signed (replicate l.counter (pos 0)))
