use Rattle.std.proofs.Common.{◌≡◌, ◌⊎◌, refl, sym, ◌∙◌, subst}
use Rattle.zr_io.specs.Written.{AppendsPrefix}
use Rattle.zr_words.specs.Words.{spelled}
use Rattle.zero.specs.Answers.{HasBegun}
use Rattle.zero.specs.Refusals.{IsEndStatus, line_of}
use Rattle.zero.specs.Told.{IsCertStatus, IsGameStatus, IsStatus}
use Rattle.zero.proofs.CauseLemmas.{names_of_answer}
use Rattle.zero.proofs.CommandLemmas.{named_or_faulty}
use Rattle.zero.proofs.StatusLemmas.{faulty_status, usage_of}
use Rattle.zero.proofs.LineLemmas.{ended_of, fault_of, flaw_of, long_of, unread_of}
use Rattle.zero.proofs.ToldLemmas.{answer_status, refusal_status, told_answer, told_refusal}
use Rattle.zero.proofs.WritingLemmas.{line_written}
use Rattle.zero.proofs.run.zero_run.Goals as goal

pub returns-in-Err-clause-line : goal.returns-in-Err-clause-line
returns-in-Err-clause-line g c =
    let refusal = c.in-Err.refusal in
    λ h. (
      line_of refusal,
      record { refusal = refusal; cause = c.in-Err.ensures.err; taken = c.in-Err.ensures.taken; says_status = c.status.ensures; says_line = refl },
      line_written (g.E.Sink.written c.args.err.now) (g.E.Sink.written c.say.new.err) (line_of refusal) c.say.result c.say.ensures.ok c.say.ensures.err,
    )

pub returns-in-Err-clause-unread : goal.returns-in-Err-clause-unread
returns-in-Err-clause-unread g c = λ three.
    let is = sym c.status.ensures ∙ three in
    (unread_of (spelled c.args.words.now) (g.S.Shelf.contents c.args.shelf.now) _ _ c.in-Err.refusal c.in-Err.ensures.err c.in-Err.ensures.taken is, c.in-Err.ensures.keeps.unread is)

pub returns-in-Err-clause-long : goal.returns-in-Err-clause-long
returns-in-Err-clause-long g c = λ four.
    long_of (spelled c.args.words.now) (g.S.Shelf.contents c.args.shelf.now) _ _ c.in-Err.refusal c.in-Err.ensures.err c.in-Err.ensures.taken (sym c.status.ensures ∙ four)

pub returns-in-Err-clause-faulty : goal.returns-in-Err-clause-faulty
returns-in-Err-clause-faulty g c = λ five.
    fault_of (spelled c.args.words.now) (g.S.Shelf.contents c.args.shelf.now) _ _ c.in-Err.refusal c.in-Err.ensures.err c.in-Err.ensures.taken (sym c.status.ensures ∙ five)

pub returns-in-Err-clause-refused : goal.returns-in-Err-clause-refused
returns-in-Err-clause-refused g c = λ six.
    flaw_of (spelled c.args.words.now) (g.S.Shelf.contents c.args.shelf.now) _ _ c.in-Err.refusal c.in-Err.ensures.err c.in-Err.ensures.taken (sym c.status.ensures ∙ six)

pub returns-in-Err-clause-ended : goal.returns-in-Err-clause-ended
returns-in-Err-clause-ended g c = λ ends.
    let is = subst IsEndStatus c.status.ensures ends in
    let h = ended_of (spelled c.args.words.now) (g.S.Shelf.contents c.args.shelf.now) _ _ (g.O.Sink.written c.args.out.now) (g.O.Sink.written c.answer.new.out) c.in-Err.refusal c.in-Err.ensures.err c.in-Err.ensures.taken c.in-Err.ensures.reported is in
    let before = g.E.Sink.written c.args.err.now in
    let after = g.E.Sink.written c.say.new.err in
    let said = line_written before after (line_of c.in-Err.refusal) c.say.result c.say.ensures.ok c.say.ensures.err in
    (h.0, h.1, c.status.ensures ∙ h.2, h.3, h.4, h.5, subst (λ line. AppendsPrefix before line after) h.6 said)

pub returns-in-Err-clause-begun : goal.returns-in-Err-clause-begun
returns-in-Err-clause-begun g c = λ other.
    let before = g.O.Sink.written c.args.out.now in
    let after = g.O.Sink.written c.answer.new.out in
    subst (λ s. (after ≡ before) ⊎ IsEndStatus s ⊎ (((s ≡ 11) ⊎ (s ≡ 12)) × HasBegun (spelled c.args.words.now) (g.S.Shelf.contents c.args.shelf.now) before after)) (sym c.status.ensures) c.in-Err.ensures.begun

pub returns-in-Err-clause-lacks : goal.returns-in-Err-clause-lacks
returns-in-Err-clause-lacks g c = λ name named lacks.
    subst (IsStatus 3) (sym c.status.ensures) (c.in-Err.ensures.lacks name named lacks)

pub returns-in-Err-clause-usage : goal.returns-in-Err-clause-usage
returns-in-Err-clause-usage g c = λ two.
    usage_of (spelled c.args.words.now) (g.S.Shelf.contents c.args.shelf.now) c.in-Err.refusal c.in-Err.ensures.err (sym c.status.ensures ∙ two)

pub returns-in-Err-clause-faulty_words : goal.returns-in-Err-clause-faulty_words
returns-in-Err-clause-faulty_words g c = λ faulty.
    subst (IsStatus 2) (sym c.status.ensures) (faulty_status (spelled c.args.words.now) (g.S.Shelf.contents c.args.shelf.now) c.in-Err.refusal c.in-Err.ensures.err faulty)

pub returns-in-Ok-clause-lacks : goal.returns-in-Ok-clause-lacks
returns-in-Ok-clause-lacks g c = λ name named lacks. absurd (c.in-Ok.ensures.lacks name named lacks)

pub returns-in-Ok-clause-faulty_words : goal.returns-in-Ok-clause-faulty_words
returns-in-Ok-clause-faulty_words g c = λ faulty.
    let words = spelled c.args.words.now in
    let text = c.in-Ok.ensures.ok in
    let names = names_of_answer words (g.S.Shelf.contents c.args.shelf.now) text.0 text.1 in
    absurd (named_or_faulty words names.0 names.1 faulty)

pub returns-in-Ok-clause-told_game : goal.returns-in-Ok-clause-told_game
returns-in-Ok-clause-told_game g c = λ bytes told shelf out.
    let text = c.in-Ok.ensures.ok in
    answer_status (spelled c.args.words.now) (g.S.Shelf.contents c.args.shelf.now) bytes told text.0 text.1

pub returns-in-Err-clause-told_game : goal.returns-in-Err-clause-told_game
returns-in-Err-clause-told_game g c = λ bytes told shelf out.
    let words = spelled c.args.words.now in
    let contents = g.S.Shelf.contents c.args.shelf.now in
    let refusal = c.in-Err.refusal in
    subst (IsGameStatus words bytes) (sym c.status.ensures) (refusal_status words contents bytes told refusal c.in-Err.ensures.err (λ three. shelf (c.in-Err.ensures.keeps.unread three)) (λ twelve. out (c.in-Err.ensures.unwritten twelve).0))

pub returns-in-Ok-clause-told : goal.returns-in-Ok-clause-told
returns-in-Ok-clause-told g c = λ purpose source bytes told shelf out.
    let text = c.in-Ok.ensures.ok in
    told_answer (spelled c.args.words.now) (g.S.Shelf.contents c.args.shelf.now) purpose source bytes told text.0 text.1

pub returns-in-Err-clause-told : goal.returns-in-Err-clause-told
returns-in-Err-clause-told g c = λ purpose source bytes told shelf out.
    let words = spelled c.args.words.now in
    let contents = g.S.Shelf.contents c.args.shelf.now in
    let refusal = c.in-Err.refusal in
    subst (IsCertStatus purpose source bytes) (sym c.status.ensures) (told_refusal words contents purpose source bytes told refusal c.in-Err.ensures.err (λ three. shelf (c.in-Err.ensures.keeps.unread three)) (λ twelve. out (c.in-Err.ensures.unwritten twelve).0))
