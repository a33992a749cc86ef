use Rattle.std.proofs.Common.{◌-◌, ◌≤◌, length, map, true, false}
use Rattle.zr_cert.specs.Certs.{bound_of}
use Rattle.zr_form.specs.Lines.{lines_of}
use Rattle.zr_form.specs.Reading.{many_read}
use Rattle.zr_form.proofs.Composing.{BothSoFar}
use Rattle.zr_text.specs.Reader.{bound_read}
use Rattle.zr_text.proofs.bound.take_bounds.Given as goal

-- the bounds so far, and then the others, are all of them
abbrev pub invariant-loop-i : goal.invariant-loop-i
invariant-loop-i l = record {
  within : length l.rest ≤ length l.bytes;
  so_far : BothSoFar (map bound_of l.all.items) (many_read (bound_read true) (l.players - l.i) l.i (lines_of l.rest)) (many_read (bound_read false) (l.players - l.i) l.i (lines_of l.rest))
      (many_read (bound_read true) l.players 0 (lines_of l.bytes)) (many_read (bound_read false) l.players 0 (lines_of l.bytes));
}
