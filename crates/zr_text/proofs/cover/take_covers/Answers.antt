use Rattle.std.proofs.Common.{◌≡◌, ◌∷◌, ◌++◌, [], ap, arith, length, map, true, false}
use Rattle.std.specs.List.{zip}
use Rattle.std.proofs.lemmas.List.{length-append}
use Rattle.std.proofs.lemmas.Result.{err_from_is_err_and}
use Rattle.zr_cert.specs.Certs.{named_list, nodes_of}
use Rattle.zr_form.specs.Lines.{lines_of}
use Rattle.zr_form.specs.Reading.{many_read}
use Rattle.zr_form.proofs.Composing.{form_shrinks, many_end, many_on, many_stop}
use Rattle.zr_form.proofs.Lines.{IsLine}
use Rattle.zr_lines.proofs.TextSteps.{left_within}
use Rattle.zr_text.specs.Reader.{cover_read}
use Rattle.zr_text.specs.Spelling.{cover_lines}
use Rattle.zr_text.proofs.Covers.{FitsCover, cover_form}
use Rattle.zr_text.proofs.Putting.{covers_pushed}
use Rattle.zr_text.proofs.cover.take_covers.Goals as goal

pub returns-in_err-cover : goal.returns-in_err-cover
returns-in_err-cover c =
    let p = err_from_is_err_and c.from_residual.result c.from_residual.ensures.1 in
    rw (p.1, p.2) (
      many_stop (λ i. cover_read true) (λ i. cover_read false) (zip (map nodes_of c.loop.covers.items) (map named_list c.loop.named.items)) c.args.players c.loop.counter (lines_of c.loop.rest.now) c.in_err-cover.field-0.0
          (many_read (λ i. cover_read true) c.args.players 0 (lines_of c.args.bytes.now)) (many_read (λ i. cover_read false) c.args.players 0 (lines_of c.args.bytes.now))
          (λ i. form_shrinks IsLine (FitsCover false) (cover_lines i) (cover_read false) (cover_form false i)) c.loop-test.true c.in_err-cover.ensures c.loop.invariant.so_far,
      tt,
    )

pub take_cover-requires : goal.take_cover-requires
take_cover-requires c = let w = c.loop.invariant.within in omega (arith, w, c.requires)

pub loop-preserved : goal.loop-preserved
loop-preserved c =
    let w = c.loop.invariant.within in
    let same = c.loop.invariant.same in
    let less = left_within (FitsCover true) (cover_lines 0) (cover_read true) (cover_form true 0) c.loop.rest.now c.in_ok-cover.after.now (nodes_of c.in_ok-cover.cover, named_list c.in_ok-cover.items) c.in_ok-cover.ensures.0 in
    let front = zip (map nodes_of c.loop.covers.items) (map named_list c.loop.named.items) in
    let p : zip (map nodes_of c.push.new.self.items) (map named_list c.push-in-loop.new.self.items) ≡ front ++ (nodes_of c.in_ok-cover.cover, named_list c.in_ok-cover.items) ∷ [] = rw (c.in_ok-push.ensures.items, c.in_ok-push-2.ensures.items) (covers_pushed c.loop.covers.items c.loop.named.items c.in_ok-cover.cover c.in_ok-cover.items same) in
    record {
      within = omega (arith, w, less);
      same = omega (arith, same, ap length c.in_ok-push.ensures.items, ap length c.in_ok-push-2.ensures.items, length-append c.loop.covers.items (c.in_ok-cover.cover ∷ []), length-append c.loop.named.items (c.in_ok-cover.items ∷ []));
      so_far = rw p (many_on (λ i. cover_read true) (λ i. cover_read false) front c.args.players c.loop.counter (lines_of c.loop.rest.now) (lines_of c.in_ok-cover.after.now) (nodes_of c.in_ok-cover.cover, named_list c.in_ok-cover.items)
          (many_read (λ i. cover_read true) c.args.players 0 (lines_of c.args.bytes.now)) (many_read (λ i. cover_read false) c.args.players 0 (lines_of c.args.bytes.now))
          c.loop-test.true c.in_ok-cover.ensures c.loop.invariant.so_far);
    }

pub returns : goal.returns
returns c = (
  many_end (λ i. cover_read true) (λ i. cover_read false) (zip (map nodes_of c.loop.covers.items) (map named_list c.loop.named.items)) c.args.players c.loop.counter (lines_of c.loop.rest.now)
      (many_read (λ i. cover_read true) c.args.players 0 (lines_of c.args.bytes.now)) (many_read (λ i. cover_read false) c.args.players 0 (lines_of c.args.bytes.now)) c.loop-test.false c.loop.invariant.so_far,
  c.loop.invariant.same,
)
