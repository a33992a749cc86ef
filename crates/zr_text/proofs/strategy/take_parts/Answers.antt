use Rattle.std.proofs.Common.{◌≡◌, ◌+◌, ◌-◌, ◌∷◌, ◌++◌, [], arith, map, true, false, length}
use Rattle.std.proofs.lemmas.List.{map_push}
use Rattle.std.proofs.lemmas.Result.{err_from_is_err_and}
use Rattle.zr_mix.specs.Mixtures.{part_of}
use Rattle.zr_form.specs.Lines.{by_fields, fields_of, lines_of}
use Rattle.zr_form.specs.Reading.{items_read}
use Rattle.zr_form.proofs.Composing.{items_end, items_line_on}
use Rattle.zr_form.proofs.Placing.{items_first_stops, items_placed_stops, placed_reads}
use Rattle.zr_form.proofs.Walking.{line_is}
use Rattle.zr_text.specs.Reader.{part_at}
use Rattle.zr_text.proofs.strategy.take_parts.Goals as goal

pub returns-in_err-line : goal.returns-in_err-line
returns-in_err-line c =
    let p = err_from_is_err_and c.from_residual.result c.from_residual.ensures.1 in
    rw (p.1, p.2) (items_first_stops (part_at true) (part_at false) (λ p. 0) (map part_of c.loop.parts.items) c.loop.rest.now (c.args.count - c.loop.counter) c.in_err-line.field-0.0
    (items_read (by_fields (part_at true)) (λ p. 0) (lines_of c.args.bytes.now) c.args.count) (items_read (by_fields (part_at false)) (λ p. 0) (lines_of c.args.bytes.now) c.args.count)
    c.in_err-line.ensures (omega arith) c.loop.invariant)

pub returns-in_err-part : goal.returns-in_err-part
returns-in_err-part c =
    let p = err_from_is_err_and c.from_residual-in_err-part.result
    c.from_residual-in_err-part.ensures.1 in
    rw (p.1, p.2) (items_placed_stops part_of (part_at true) (part_at false) (λ p. 0) (map part_of c.loop.parts.items) c.loop.rest.now c.in_ok-line.line.now c.in_ok-line.after.now (c.args.count - c.loop.counter) c.in_ok-part_line.field-0 c.in_err-part.field-0.0
    (items_read (by_fields (part_at true)) (λ p. 0) (lines_of c.args.bytes.now) c.args.count) (items_read (by_fields (part_at false)) (λ p. 0) (lines_of c.args.bytes.now) c.args.count)
    (line_is c.loop.rest.now c.in_ok-line.line.now c.in_ok-line.after.now c.in_ok-line.ensures) (omega arith) c.in_ok-part_line.ensures c.in_err-part.ensures c.loop.invariant)

pub loop-preserved : goal.loop-preserved
loop-preserved c =
    let fs = fields_of c.in_ok-line.line.now in
    let e =
    placed_reads part_of (part_at true fs) (part_at false fs)
    (length c.loop.rest.now) c.in_ok-part_line.field-0 c.in_ok-part.part
    c.in_ok-part_line.ensures c.in_ok-part.ensures in
    let p : map part_of c.push.new.self.items ≡ map part_of c.loop.parts.items ++ part_of c.in_ok-part.part ∷ [] = rw c.in_ok-push.ensures.items (map_push _ c.loop.parts.items c.in_ok-part.part) in
    rw p (items_line_on (part_at true) (part_at false) (λ p. 0) (map part_of c.loop.parts.items) c.loop.rest.now c.in_ok-line.line.now c.in_ok-line.after.now (c.args.count - c.loop.counter) (c.args.count - (c.loop.counter + 1)) (part_of c.in_ok-part.part)
    (items_read (by_fields (part_at true)) (λ p. 0) (lines_of c.args.bytes.now) c.args.count) (items_read (by_fields (part_at false)) (λ p. 0) (lines_of c.args.bytes.now) c.args.count)
    (line_is c.loop.rest.now c.in_ok-line.line.now c.in_ok-line.after.now c.in_ok-line.ensures) (omega arith) (omega arith) e c.loop.invariant)

pub returns : goal.returns
returns c =
    items_end (by_fields (part_at true)) (by_fields (part_at false)) (λ p. 0) (map part_of c.loop.parts.items) (lines_of c.loop.rest.now) (c.args.count - c.loop.counter)
    (items_read (by_fields (part_at true)) (λ p. 0) (lines_of c.args.bytes.now) c.args.count) (items_read (by_fields (part_at false)) (λ p. 0) (lines_of c.args.bytes.now) c.args.count)
    (omega arith) c.loop.invariant
