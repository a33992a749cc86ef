use Rattle.std.proofs.Common.{◌-◌, ◌^◌}
use Rattle.zr_cert.specs.Certs.{mixture_of}
use Rattle.zr_cert.specs.Lines.{mixture_lines}
use Rattle.zr_cert.proofs.Counting.{Counted}
use Rattle.zr_cert.proofs.form.lines_of_strategies.Given as goal

abbrev pub invariant-loop-strategy : goal.invariant-loop-strategy
invariant-loop-strategy l = Counted mixture_of mixture_lines (2 ^ 64 - 1) l.strategies l.strategy-index l.lines
