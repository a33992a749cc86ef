use Rattle.std.proofs.Common.{◌-◌, map, true, false}
use Rattle.zr_mix.specs.Mixtures.{part_of}
use Rattle.zr_form.specs.Lines.{by_fields, lines_of}
use Rattle.zr_form.specs.Reading.{items_read}
use Rattle.zr_form.proofs.Composing.{BothSoFar}
use Rattle.zr_text.specs.Reader.{part_at}
use Rattle.zr_text.proofs.strategy.take_parts.Given as goal

-- the parts so far, and then the others, are all of them
abbrev pub invariant-loop : goal.invariant-loop
invariant-loop l =
    BothSoFar (map part_of l.parts.items) (items_read (by_fields (part_at true)) (λ p. 0) (lines_of l.rest) (l.count - l.counter)) (items_read (by_fields (part_at false)) (λ p. 0) (lines_of l.rest) (l.count - l.counter))
    (items_read (by_fields (part_at true)) (λ p. 0) (lines_of l.bytes) l.count) (items_read (by_fields (part_at false)) (λ p. 0) (lines_of l.bytes) l.count)
