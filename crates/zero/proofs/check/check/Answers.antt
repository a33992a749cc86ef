use Rattle.std.proofs.Common.{rules, inl, inr}
use Rattle.zr_read.specs.Texts.{source_of}
use Rattle.zero.specs.Commands.{for_check}
use Rattle.zero.specs.Answers.{IsAccepted, IsAnswer, IsAskedCert}
use Rattle.zero.proofs.CauseLemmas.{if_ok}
use Rattle.zero.proofs.check.check.Goals as goal

pub returns-in_err-texts-clause-err : goal.returns-in_err-texts-clause-err
returns-in_err-texts-clause-err g c = λ words check.
    let h = c.in_err-texts.ensures.err words for_check check in
    search (rules, h)

pub returns-clause-err : goal.returns-clause-err
returns-clause-err g c = λ words check.
    let contents = g.S.Shelf.contents c.args.shelf.now in
    let h = c.in_ok-texts.ensures.asked words for_check check in
    let asked : IsAskedCert words contents for_check (source_of c.in_ok-texts.texts.reading.source) c.as_slice.result.now = search (rules, h) in
    c.accept.ensures.err words contents asked

pub returns-clause-ok : goal.returns-clause-ok
returns-clause-ok g c = λ words check.
    let contents = g.S.Shelf.contents c.args.shelf.now in
    let source = source_of c.in_ok-texts.texts.reading.source in
    let bytes = c.as_slice.result.now in
    let h = c.in_ok-texts.ensures.asked words for_check check in
    let asked : IsAskedCert words contents for_check source bytes = search (rules, h) in
    if_ok c.accept.result (λ text. IsAccepted source bytes text.items) (λ text. IsAnswer words contents text.items)
    (λ text accepted. inr (inl (record { source = source; bytes = bytes; asked = asked; accepted = accepted }))) c.accept.ensures.ok
