use Rattle.std.proofs.Common.{◌≡◌, ◌-◌, ◌≤◌, length, map, true, false}
use Rattle.std.specs.List.{zip}
use Rattle.zr_cert.specs.Certs.{named_list, nodes_of}
use Rattle.zr_form.specs.Lines.{lines_of}
use Rattle.zr_form.specs.Reading.{many_read}
use Rattle.zr_form.proofs.Composing.{BothSoFar}
use Rattle.zr_text.specs.Reader.{cover_read}
use Rattle.zr_text.proofs.cover.take_covers.Given as goal

-- the covers so far, and then the others, are all of them
abbrev pub invariant-loop : goal.invariant-loop
invariant-loop l = record {
  within : length l.rest ≤ length l.bytes;
  same : length l.named.items ≡ length l.covers.items;
  so_far : BothSoFar (zip (map nodes_of l.covers.items) (map named_list l.named.items)) (many_read (λ i. cover_read true) (l.players - l.counter) l.counter (lines_of l.rest)) (many_read (λ i. cover_read false) (l.players - l.counter) l.counter (lines_of l.rest))
      (many_read (λ i. cover_read true) l.players 0 (lines_of l.bytes)) (many_read (λ i. cover_read false) l.players 0 (lines_of l.bytes));
}
