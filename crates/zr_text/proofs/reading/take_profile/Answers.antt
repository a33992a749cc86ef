use Rattle.std.proofs.Common.{arith, map, true}
use Rattle.std.proofs.lemmas.Result.{err_from_is_err_and}
use Rattle.zr_cert.specs.Certs.{ProfileVerdict, bound_of, mixture_of}
use Rattle.zr_form.specs.Lines.{lines_of}
use Rattle.zr_form.specs.Reading.{spell_from}
use Rattle.zr_form.proofs.Forms.{ManyFit}
use Rattle.zr_text.specs.Fits.{FitsMixture}
use Rattle.zr_text.specs.Spelling.{strategy_lines}
use Rattle.zr_text.proofs.ReadingSteps.{profile_ended, profile_no_bounds, profile_no_end, profile_no_strategies, profile_taken, strategies_form, strategies_read}
use Rattle.zr_lines.proofs.TextSteps.{left_within}
use Rattle.zr_text.proofs.reading.take_profile.Goals as goal

pub returns-in_err-strategies : goal.returns-in_err-strategies
returns-in_err-strategies c =
    let p = err_from_is_err_and c.from_residual.result c.from_residual.ensures.1 in
    rw (p.1, p.2) (profile_no_strategies c.args.players (lines_of c.args.bytes.now) c.in_err-strategies.field-0.0 c.in_err-strategies.ensures)

pub take_bounds-requires : goal.take_bounds-requires
take_bounds-requires c =
    let less = left_within (ManyFit (λ i. FitsMixture true) c.args.players 0) (spell_from strategy_lines 0) (strategies_read true c.args.players) (strategies_form true c.args.players) c.args.bytes.now c.in_ok-strategies.rest.now (map mixture_of c.in_ok-strategies.strategies.items) c.in_ok-strategies.ensures.0 in
    omega (arith, less, c.requires)

pub returns-in_err-bounds : goal.returns-in_err-bounds
returns-in_err-bounds c =
    let p = err_from_is_err_and c.from_residual-in_err-bounds.result c.from_residual-in_err-bounds.ensures.1 in
    rw (p.1, p.2) (profile_no_bounds c.args.players (lines_of c.args.bytes.now) (lines_of c.in_ok-strategies.rest.now) (map mixture_of c.in_ok-strategies.strategies.items) c.in_err-bounds.field-0.0 c.in_ok-strategies.ensures c.in_err-bounds.ensures)

pub returns-in_err-rest : goal.returns-in_err-rest
returns-in_err-rest c =
    let p = err_from_is_err_and c.from_residual-in_err-rest.result c.from_residual-in_err-rest.ensures.1 in
    let mixtures = map mixture_of c.in_ok-strategies.strategies.items in
    let bounds = map bound_of c.in_ok-bounds.bounds.items in
    let read = profile_taken c.args.players (lines_of c.args.bytes.now) (lines_of c.in_ok-strategies.rest.now) (lines_of c.in_ok-bounds.rest.now) mixtures bounds c.in_ok-strategies.ensures c.in_ok-bounds.ensures in
    rw (p.1, p.2) (profile_no_end c.args.players (lines_of c.args.bytes.now) (lines_of c.in_ok-bounds.rest.now) (ProfileVerdict mixtures bounds) c.in_err-rest.field-0.0 read c.in_err-rest.ensures)

pub returns : goal.returns
returns c =
    let mixtures = map mixture_of c.in_ok-strategies.strategies.items in
    let bounds = map bound_of c.in_ok-bounds.bounds.items in
    let read = profile_taken c.args.players (lines_of c.args.bytes.now) (lines_of c.in_ok-strategies.rest.now) (lines_of c.in_ok-bounds.rest.now) mixtures bounds c.in_ok-strategies.ensures c.in_ok-bounds.ensures in
    profile_ended c.args.players (lines_of c.args.bytes.now) (lines_of c.in_ok-bounds.rest.now) (lines_of c.in_ok-rest.rest.now) (ProfileVerdict mixtures bounds) read c.in_ok-rest.ensures
