use Rattle.std.proofs.Common.{◌≤◌, ◌-◌, length, take}
use Rattle.zr_io.specs.Written.{Appends}
use Rattle.zr_io.proofs.sink.put_all.Given as goal

abbrev pub invariant-loop-at : goal.invariant-loop-at
invariant-loop-at g l = record {
  within : l.at ≤ length l.bytes;
  appended : Appends (g.O.Sink.written l.initial.sink) (take l.at l.bytes) (g.O.Sink.written l.sink);
  grows : g.O.Sink.faults_of l.initial.sink ≤ g.O.Sink.faults_of l.sink;
}

abbrev pub decreases-loop-at : goal.decreases-loop-at
decreases-loop-at g l = length l.bytes - l.at
