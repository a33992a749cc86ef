use Rattle.std.proofs.Common.{ℕ, ℤ, length, true, false}
use Rattle.std.proofs.lemmas.Result.{err_from_is_err_and}
use Rattle.zr_form.specs.Lines.{fields_of}
use Rattle.zr_form.proofs.Composing.{line_ok}
use Rattle.zr_form.proofs.Placing.{first_stops, placed_reads, placed_stops}
use Rattle.zr_form.proofs.Walking.{line_is}
use Rattle.zr_text.specs.Reader.{player_at}
use Rattle.zr_text.proofs.strategy.take_player.Goals as goal

pub returns-in_err-line : goal.returns-in_err-line
returns-in_err-line c =
    let p = err_from_is_err_and c.from_residual.result c.from_residual.ensures.1 in
    rw (p.1, p.2) (first_stops (player_at true c.args.i) (player_at false c.args.i) c.args.bytes.now
    c.in_err-line.field-0.0 c.in_err-line.ensures)

pub returns-in_err-head : goal.returns-in_err-head
returns-in_err-head c =
    let p = err_from_is_err_and c.from_residual-in_err-head.result
    c.from_residual-in_err-head.ensures.1 in
    let l = line_is c.args.bytes.now c.in_ok-line.line.now c.in_ok-line.rest.now
    c.in_ok-line.ensures in
    rw (p.1, p.2) (placed_stops (λ (h : ℤ × ℕ). (c.args.i, (h.0, h.1))) (player_at true c.args.i) (player_at false c.args.i)
    c.args.bytes.now c.in_ok-line.line.now c.in_ok-line.rest.now c.player_line.result
    c.in_err-head.field-0.0 l c.player_line.ensures c.in_err-head.ensures)

pub returns : goal.returns
returns c =
    let l = line_is c.args.bytes.now c.in_ok-line.line.now c.in_ok-line.rest.now
    c.in_ok-line.ensures in
    let fs = fields_of c.in_ok-line.line.now in
    line_ok (player_at true c.args.i) (player_at false c.args.i) c.args.bytes.now c.in_ok-line.line.now
    c.in_ok-line.rest.now (c.args.i, (c.in_ok-head.head.0, c.in_ok-head.head.1)) l
    (placed_reads (λ (h : ℤ × ℕ). (c.args.i, (h.0, h.1))) (player_at true c.args.i fs) (player_at false c.args.i fs)
    (length c.args.bytes.now) c.player_line.result c.in_ok-head.head
    c.player_line.ensures c.in_ok-head.ensures)
