use Rattle.std.proofs.Common.{◌-◌, map, true, false}
use Rattle.zr_game.specs.Named.{named_of}
use Rattle.zr_form.specs.Lines.{by_fields, lines_of}
use Rattle.zr_form.specs.Reading.{items_read}
use Rattle.zr_form.proofs.Composing.{BothSoFar}
use Rattle.zr_lines.specs.Reader.{named_at}
use Rattle.zr_lines.proofs.named_lines.take_items.Given as goal

-- the points and rays so far, and then the others, are all of them
abbrev pub invariant-loop : goal.invariant-loop
invariant-loop l =
    BothSoFar (map named_of l.items.items) (items_read (by_fields (named_at true)) (λ item. 0) (lines_of l.rest) (l.count - l.counter)) (items_read (by_fields (named_at false)) (λ item. 0) (lines_of l.rest) (l.count - l.counter))
    (items_read (by_fields (named_at true)) (λ item. 0) (lines_of l.bytes) l.count) (items_read (by_fields (named_at false)) (λ item. 0) (lines_of l.bytes) l.count)
