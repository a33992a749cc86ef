use Rattle.std.proofs.Common.{◌-◌, ◌^◌}
use Rattle.zr_cert.specs.Certs.{nodes_of}
use Rattle.zr_cert.specs.Lines.{tree_lines}
use Rattle.zr_cert.proofs.Counting.{Counted}
use Rattle.zr_cert.proofs.cover.lines_of_covers.Given as goal

abbrev pub invariant-loop-cover : goal.invariant-loop-cover
invariant-loop-cover l = Counted nodes_of tree_lines (2 ^ 64 - 1) l.covers l.cover-index l.lines
