use Rattle.std.proofs.Common.{map}
use Rattle.std.proofs.lemmas.Result.{err_from_is_err_and}
use Rattle.zr_game.specs.Named.{named_of}
use Rattle.zr_form.specs.Lines.{lines_of}
use Rattle.zr_lines.proofs.TextSteps.{named_no_count, named_no_items, named_taken}
use Rattle.zr_lines.proofs.named_lines.take_named.Goals as goal

pub returns-in_err-count : goal.returns-in_err-count
returns-in_err-count c =
    let p = err_from_is_err_and c.from_residual.result c.from_residual.ensures.1 in
    rw (p.1, p.2) (named_no_count (lines_of c.args.bytes.now) c.in_err-count.field-0.0 c.in_err-count.ensures)

pub returns-in_err-items : goal.returns-in_err-items
returns-in_err-items c =
    let p = err_from_is_err_and c.from_residual-in_err-items.result c.from_residual-in_err-items.ensures.1 in
    rw (p.1, p.2) (named_no_items (lines_of c.args.bytes.now) (lines_of c.in_ok-count.rest.now) c.in_ok-count.count c.in_err-items.field-0.0 c.in_ok-count.ensures c.in_err-items.ensures)

pub returns : goal.returns
returns c =
    named_taken (lines_of c.args.bytes.now) (lines_of c.in_ok-count.rest.now) (lines_of c.in_ok-items.rest.now) c.in_ok-count.count (map named_of c.in_ok-items.items.items) c.in_ok-count.ensures c.in_ok-items.ensures
