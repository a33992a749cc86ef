use Rattle.std.proofs.Common.{rules, map, FitsSigned}
use Rattle.std.specs.Int.{w128}
use Rattle.std.proofs.lemmas.Int.{to_z-of_z}
use Rattle.std.proofs.lemmas.Result.{err_from_is_err_and}
use Rattle.zr_mix.specs.Mixtures.{part_of}
use Rattle.zr_form.specs.Lines.{lines_of}
use Rattle.zr_text.proofs.TextSteps.{strategy_no_head, strategy_no_parts, strategy_taken}
use Rattle.zr_text.proofs.strategy.take_strategy.Goals as goal

pub returns-in_err-total : goal.returns-in_err-total
returns-in_err-total c =
    let p = err_from_is_err_and c.from_residual.result c.from_residual.ensures.1 in
    rw (p.1, p.2) (strategy_no_head c.args.i (lines_of c.args.bytes.now) c.in_err-total.field-0.0 c.in_err-total.ensures)

pub returns-in_err-parts : goal.returns-in_err-parts
returns-in_err-parts c =
    let p = err_from_is_err_and c.from_residual-in_err-parts.result c.from_residual-in_err-parts.ensures.1 in
    rw (p.1, p.2) (strategy_no_parts c.args.i (lines_of c.args.bytes.now) (lines_of c.in_ok-total.rest.now) (c.args.i, (c.in_ok-total.total, c.in_ok-total.count)) c.in_err-parts.field-0.0 c.in_ok-total.ensures c.in_err-parts.ensures)

pub returns : goal.returns
returns c =
    let f : FitsSigned w128 c.in_ok-total.total = search rules in
    simp to_z-of_z (strategy_taken c.args.i (lines_of c.args.bytes.now) (lines_of c.in_ok-total.rest.now) (lines_of c.in_ok-parts.rest.now) (c.args.i, (c.in_ok-total.total, c.in_ok-total.count)) (map part_of c.in_ok-parts.parts.items) c.in_ok-total.ensures c.in_ok-parts.ensures)
