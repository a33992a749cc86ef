use Rattle.std.proofs.Common.{rules, inl, inr}
use Rattle.zr_read.specs.Texts.{source_of}
use Rattle.zr_follow.specs.Expansion.{expansion}
use Rattle.zero.specs.Commands.{for_best}
use Rattle.zero.specs.BestTexts.{IsBestReply}
use Rattle.zero.specs.Answers.{IsAnswer, IsAskedCert}
use Rattle.zero.proofs.CauseLemmas.{if_ok}
use Rattle.zero.proofs.best.best.Goals as goal

pub returns-in_err-texts-clause-err : goal.returns-in_err-texts-clause-err
returns-in_err-texts-clause-err g c = λ words asks.
    let h = c.in_err-texts.ensures.err words (for_best c.args.budget) asks in
    search (rules, h)

pub returns-clause-err : goal.returns-clause-err
returns-clause-err g c = λ words asks.
    let contents = g.S.Shelf.contents c.args.shelf.now in
    let purpose = for_best c.args.budget in
    let h = c.in_ok-texts.ensures.asked words purpose asks in
    let asked : IsAskedCert words contents purpose (source_of c.in_ok-texts.texts.reading.source) c.as_slice.result.now = search (rules, h) in
    c.answers_to.ensures.err words contents asked

pub returns-clause-ok : goal.returns-clause-ok
returns-clause-ok g c = λ words asks.
    let contents = g.S.Shelf.contents c.args.shelf.now in
    let purpose = for_best c.args.budget in
    let source = source_of c.in_ok-texts.texts.reading.source in
    let bytes = c.as_slice.result.now in
    let h = c.in_ok-texts.ensures.asked words purpose asks in
    let asked : IsAskedCert words contents purpose source bytes = search (rules, h) in
    if_ok c.answers_to.result (λ text. IsBestReply source bytes text.items) (λ text. IsAnswer words contents text.items)
    (λ text best. inr (inr (inl (record { budget = c.args.budget; source = source; bytes = bytes; asked = asked; best = best })))) c.answers_to.ensures.ok
