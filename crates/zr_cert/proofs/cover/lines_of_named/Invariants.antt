use Rattle.std.proofs.Common.{◌-◌, ◌^◌}
use Rattle.zr_cert.specs.Certs.{named_list}
use Rattle.zr_cert.specs.Lines.{named_lines}
use Rattle.zr_cert.proofs.Counting.{Counted}
use Rattle.zr_cert.proofs.cover.lines_of_named.Given as goal

abbrev pub invariant-loop-items : goal.invariant-loop-items
invariant-loop-items l = Counted named_list named_lines (2 ^ 64 - 1) l.named l.items-index l.lines
