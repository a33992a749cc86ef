use Rattle.std.proofs.Common.{◌≡◌, ◌+◌, ◌-◌, ◌∷◌, ◌++◌, [], arith, map, true, false, length}
use Rattle.std.proofs.lemmas.List.{map_push}
use Rattle.std.proofs.lemmas.Result.{err_from_is_err_and}
use Rattle.zr_game.specs.Named.{named_of}
use Rattle.zr_form.specs.Lines.{by_fields, fields_of, lines_of}
use Rattle.zr_form.specs.Reading.{items_read}
use Rattle.zr_form.proofs.Composing.{items_end, items_line_on}
use Rattle.zr_form.proofs.Placing.{items_first_stops, items_placed_stops, placed_reads}
use Rattle.zr_form.proofs.Walking.{line_is}
use Rattle.zr_lines.specs.Reader.{named_at}
use Rattle.zr_lines.proofs.named_lines.take_items.Goals as goal

pub returns-in_err-line : goal.returns-in_err-line
returns-in_err-line c =
    let p = err_from_is_err_and c.from_residual.result c.from_residual.ensures.1 in
    rw (p.1, p.2) (items_first_stops (named_at true) (named_at false) (λ item. 0) (map named_of c.loop.items.items) c.loop.rest.now (c.args.count - c.loop.counter) c.in_err-line.field-0.0
    (items_read (by_fields (named_at true)) (λ item. 0) (lines_of c.args.bytes.now) c.args.count) (items_read (by_fields (named_at false)) (λ item. 0) (lines_of c.args.bytes.now) c.args.count)
    c.in_err-line.ensures (omega arith) c.loop.invariant)

pub returns-in_err-item : goal.returns-in_err-item
returns-in_err-item c =
    let p = err_from_is_err_and c.from_residual-in_err-item.result
    c.from_residual-in_err-item.ensures.1 in
    rw (p.1, p.2) (items_placed_stops named_of (named_at true) (named_at false) (λ item. 0) (map named_of c.loop.items.items) c.loop.rest.now c.in_ok-line.line.now c.in_ok-line.after.now (c.args.count - c.loop.counter) c.in_ok-named_line.field-0 c.in_err-item.field-0.0
    (items_read (by_fields (named_at true)) (λ item. 0) (lines_of c.args.bytes.now) c.args.count) (items_read (by_fields (named_at false)) (λ item. 0) (lines_of c.args.bytes.now) c.args.count)
    (line_is c.loop.rest.now c.in_ok-line.line.now c.in_ok-line.after.now c.in_ok-line.ensures) (omega arith) c.in_ok-named_line.ensures c.in_err-item.ensures c.loop.invariant)

pub loop-preserved : goal.loop-preserved
loop-preserved c =
    let fs = fields_of c.in_ok-line.line.now in
    let e =
    placed_reads named_of (named_at true fs) (named_at false fs)
    (length c.loop.rest.now) c.in_ok-named_line.field-0 c.in_ok-item.item
    c.in_ok-named_line.ensures c.in_ok-item.ensures in
    let p : map named_of c.push.new.self.items ≡ map named_of c.loop.items.items ++ named_of c.in_ok-item.item ∷ [] = rw c.in_ok-push.ensures.items (map_push _ c.loop.items.items c.in_ok-item.item) in
    rw p (items_line_on (named_at true) (named_at false) (λ item. 0) (map named_of c.loop.items.items) c.loop.rest.now c.in_ok-line.line.now c.in_ok-line.after.now (c.args.count - c.loop.counter) (c.args.count - (c.loop.counter + 1)) (named_of c.in_ok-item.item)
    (items_read (by_fields (named_at true)) (λ item. 0) (lines_of c.args.bytes.now) c.args.count) (items_read (by_fields (named_at false)) (λ item. 0) (lines_of c.args.bytes.now) c.args.count)
    (line_is c.loop.rest.now c.in_ok-line.line.now c.in_ok-line.after.now c.in_ok-line.ensures) (omega arith) (omega arith) e c.loop.invariant)

pub returns : goal.returns
returns c =
    items_end (by_fields (named_at true)) (by_fields (named_at false)) (λ item. 0) (map named_of c.loop.items.items) (lines_of c.loop.rest.now) (c.args.count - c.loop.counter)
    (items_read (by_fields (named_at true)) (λ item. 0) (lines_of c.args.bytes.now) c.args.count) (items_read (by_fields (named_at false)) (λ item. 0) (lines_of c.args.bytes.now) c.args.count)
    (omega arith) c.loop.invariant
