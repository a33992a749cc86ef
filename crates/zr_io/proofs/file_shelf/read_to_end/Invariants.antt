use Rattle.std.proofs.Common.{◌≤◌, vec_len}
use Rattle.std.specs.Io.KnownBytes.{Consumes}
use Rattle.zr_io.proofs.file_shelf.read_to_end.Given as goal

abbrev pub invariant-loop : goal.invariant-loop
invariant-loop g l = record {
  within : vec_len l.bytes ≤ l.limit;
  read : Consumes (g.I.Read.remaining l.initial.reader) (g.I.Read.remaining l.reader) l.bytes.items;
}
