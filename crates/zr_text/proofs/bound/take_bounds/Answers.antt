use Rattle.std.proofs.Common.{◌≡◌, ◌∷◌, ◌++◌, [], arith, map, true, false}
use Rattle.std.proofs.lemmas.List.{map_push}
use Rattle.std.proofs.lemmas.Result.{err_from_is_err_and}
use Rattle.zr_cert.specs.Certs.{bound_of}
use Rattle.zr_form.specs.Lines.{lines_of}
use Rattle.zr_form.specs.Reading.{many_read}
use Rattle.zr_form.proofs.Composing.{form_shrinks, many_end, many_on, many_stop}
use Rattle.zr_form.proofs.Lines.{IsLine}
use Rattle.zr_text.specs.Fits.{FitsBound}
use Rattle.zr_text.specs.Reader.{bound_read}
use Rattle.zr_text.specs.Spelling.{bound_lines}
use Rattle.zr_text.proofs.Players.{bound_form}
use Rattle.zr_lines.proofs.TextSteps.{left_within}
use Rattle.zr_text.proofs.bound.take_bounds.Goals as goal

pub returns-in_err-bound : goal.returns-in_err-bound
returns-in_err-bound c =
    let p = err_from_is_err_and c.from_residual.result c.from_residual.ensures.1 in
    rw (p.1, p.2) (many_stop (bound_read true) (bound_read false) (map bound_of c.loop-i.all.items) c.args.players c.loop-i.i (lines_of c.loop-i.rest.now) c.in_err-bound.field-0.0
    (many_read (bound_read true) c.args.players 0 (lines_of c.args.bytes.now)) (many_read (bound_read false) c.args.players 0 (lines_of c.args.bytes.now))
    (λ i. form_shrinks IsLine (FitsBound false) (bound_lines i) (bound_read false i) (bound_form false i)) c.loop-i-test.true c.in_err-bound.ensures c.loop-i.invariant.so_far)

pub take_bound-requires : goal.take_bound-requires
take_bound-requires c = let w = c.loop-i.invariant.within in omega (arith, w, c.requires)

pub loop-i-preserved : goal.loop-i-preserved
loop-i-preserved c =
    let p : map bound_of c.push.new.self.items ≡ map bound_of c.loop-i.all.items ++ bound_of c.in_ok-bound.bound ∷ [] = rw c.in_ok-push.ensures.items (map_push _ c.loop-i.all.items c.in_ok-bound.bound) in
    let w = c.loop-i.invariant.within in
    let less = left_within (FitsBound true) (bound_lines c.loop-i.i) (bound_read true c.loop-i.i) (bound_form true c.loop-i.i) c.loop-i.rest.now c.in_ok-bound.after.now (bound_of c.in_ok-bound.bound) c.in_ok-bound.ensures.0 in
    record {
      within = omega (arith, w, less);
      so_far = rw p (many_on (bound_read true) (bound_read false) (map bound_of c.loop-i.all.items) c.args.players c.loop-i.i (lines_of c.loop-i.rest.now) (lines_of c.in_ok-bound.after.now) (bound_of c.in_ok-bound.bound)
          (many_read (bound_read true) c.args.players 0 (lines_of c.args.bytes.now)) (many_read (bound_read false) c.args.players 0 (lines_of c.args.bytes.now))
          c.loop-i-test.true c.in_ok-bound.ensures c.loop-i.invariant.so_far);
    }

pub returns : goal.returns
returns c =
    many_end (bound_read true) (bound_read false) (map bound_of c.loop-i.all.items) c.args.players c.loop-i.i (lines_of c.loop-i.rest.now)
    (many_read (bound_read true) c.args.players 0 (lines_of c.args.bytes.now)) (many_read (bound_read false) c.args.players 0 (lines_of c.args.bytes.now)) c.loop-i-test.false c.loop-i.invariant.so_far
