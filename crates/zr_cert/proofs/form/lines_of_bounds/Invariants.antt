use Rattle.std.proofs.Common.{◌-◌, ◌^◌}
use Rattle.zr_cert.specs.Certs.{bound_of}
use Rattle.zr_cert.specs.Lines.{bound_lines}
use Rattle.zr_cert.proofs.Counting.{Counted}
use Rattle.zr_cert.proofs.form.lines_of_bounds.Given as goal

abbrev pub invariant-loop-bound : goal.invariant-loop-bound
invariant-loop-bound l = Counted bound_of bound_lines (2 ^ 64 - 1) l.bounds l.bound-index l.lines
