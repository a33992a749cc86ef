use Rattle.std.proofs.Common.{rules, inl, inr, sym, subst, ⊎_elim}
use Rattle.zr_game.specs.Games.{game_of}
use Rattle.zr_game.specs.Players.{GameOf}
use Rattle.zr_follow.specs.Expansion.{expansion}
use Rattle.zr_read.specs.Texts.{source_of}
use Rattle.zero.specs.BestTexts.{IsBestReply, IsBestText}
use Rattle.zero.specs.Commands.{for_best}
use Rattle.zero.specs.Refusals.{IsCause, IsStopped}
use Rattle.zero.proofs.CauseLemmas.{if_err, if_ok, stopped_cause}
use Rattle.zero.proofs.ReplyLemmas.{reply_of}
use Rattle.zero.proofs.best.answers_to.Goals as goal

pub returns-in_err-cert-clause-err : goal.returns-in_err-cert-clause-err
returns-in_err-cert-clause-err c = λ words contents asked.
    let h = c.in_err-cert.ensures.err words contents (for_best c.args.budget) (source_of c.args.reading.now.source) asked in
    search (rules, h)

pub returns-in-Ok-check_profile-clause-ok : goal.returns-in-Ok-check_profile-clause-ok
returns-in-Ok-check_profile-clause-ok c =
    let bytes = c.args.bytes.now in
    let source = source_of c.args.reading.now.source in
    if_ok c.answers_of.result (λ text. IsBestText (game_of c.args.reading.now.game) bytes text.items)
    (λ text. IsBestReply source bytes text.items)
    (λ text h. reply_of source c.args.reading.now.source.sound bytes text.items
    (subst (λ (g : GameOf). IsBestText g bytes text.items) c.requires.game h))
    (c.answers_of.ensures.ok bytes c.in_ok-cert.ensures.ok)

pub returns-in-Ok-check_profile-clause-err : goal.returns-in-Ok-check_profile-clause-err
returns-in-Ok-check_profile-clause-err c = λ words contents asked.
    let bytes = c.args.bytes.now in
    let source = source_of c.args.reading.now.source in
    if_err c.answers_of.result (IsStopped (game_of c.args.reading.now.game) bytes c.args.budget) (IsCause words contents)
    (λ refusal h. stopped_cause words contents c.args.budget source bytes refusal asked
    (subst (λ (g : GameOf). IsStopped g bytes c.args.budget refusal) c.requires.game h))
    (c.answers_of.ensures.err bytes c.in_ok-cert.ensures.ok)
