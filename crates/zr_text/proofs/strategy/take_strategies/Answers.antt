use Rattle.std.proofs.Common.{◌≡◌, ◌∷◌, ◌++◌, [], map, true, false}
use Rattle.std.proofs.lemmas.List.{map_push}
use Rattle.std.proofs.lemmas.Result.{err_from_is_err_and}
use Rattle.zr_cert.specs.Certs.{mixture_of}
use Rattle.zr_form.specs.Lines.{lines_of}
use Rattle.zr_form.specs.Reading.{many_read}
use Rattle.zr_form.proofs.Composing.{form_shrinks, many_end, many_on, many_stop}
use Rattle.zr_form.proofs.Lines.{IsLine}
use Rattle.zr_text.specs.Fits.{FitsMixture}
use Rattle.zr_text.specs.Reader.{strategy_read}
use Rattle.zr_text.specs.Spelling.{strategy_lines}
use Rattle.zr_text.proofs.Players.{strategy_form}
use Rattle.zr_text.proofs.strategy.take_strategies.Goals as goal

pub returns-in_err-strategy : goal.returns-in_err-strategy
returns-in_err-strategy c =
    let p = err_from_is_err_and c.from_residual.result c.from_residual.ensures.1 in
    rw (p.1, p.2) (many_stop (strategy_read true) (strategy_read false) (map mixture_of c.loop-i.all.items) c.args.players c.loop-i.i (lines_of c.loop-i.rest.now) c.in_err-strategy.field-0.0
    (many_read (strategy_read true) c.args.players 0 (lines_of c.args.bytes.now)) (many_read (strategy_read false) c.args.players 0 (lines_of c.args.bytes.now))
    (λ i. form_shrinks IsLine (FitsMixture false) (strategy_lines i) (strategy_read false i) (strategy_form false i)) c.loop-i-test.true c.in_err-strategy.ensures c.loop-i.invariant)

pub loop-i-preserved : goal.loop-i-preserved
loop-i-preserved c =
    let p : map mixture_of c.push.new.self.items ≡ map mixture_of c.loop-i.all.items ++ mixture_of c.in_ok-strategy.strategy ∷ [] = rw c.in_ok-push.ensures.items (map_push _ c.loop-i.all.items c.in_ok-strategy.strategy) in
    rw p (many_on (strategy_read true) (strategy_read false) (map mixture_of c.loop-i.all.items) c.args.players c.loop-i.i (lines_of c.loop-i.rest.now) (lines_of c.in_ok-strategy.after.now) (mixture_of c.in_ok-strategy.strategy)
    (many_read (strategy_read true) c.args.players 0 (lines_of c.args.bytes.now)) (many_read (strategy_read false) c.args.players 0 (lines_of c.args.bytes.now))
    c.loop-i-test.true c.in_ok-strategy.ensures c.loop-i.invariant)

pub returns : goal.returns
returns c =
    many_end (strategy_read true) (strategy_read false) (map mixture_of c.loop-i.all.items) c.args.players c.loop-i.i (lines_of c.loop-i.rest.now)
    (many_read (strategy_read true) c.args.players 0 (lines_of c.args.bytes.now)) (many_read (strategy_read false) c.args.players 0 (lines_of c.args.bytes.now)) c.loop-i-test.false c.loop-i.invariant
