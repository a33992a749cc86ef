use Rattle.std.proofs.Common.{◌≡◌, ◌∙◌, map, ap, inl, subst}
use Rattle.zr_game.specs.Games.{game_of}
use Rattle.zr_cert.specs.Certs.{bound_of, mixtures_of, verdict_of}
use Rattle.zr_cert.specs.Listed.{cert_of}
use Rattle.zr_io.specs.Purses.{StartsAt}
use Rattle.zr_report.specs.Spelling.{best_text}
use Rattle.zero.specs.BestTexts.{IsBestText}
use Rattle.zero.specs.Refusals.{IsStopped}
use Rattle.zero.specs.declared.refusal.Refusal.TheVariants.{NoMemory}
use Rattle.zero.proofs.BestLemmas.{profile_is}
use Rattle.zero.proofs.CauseLemmas.{if_err, if_ok}
use Rattle.zero.proofs.best.answers_of.Goals as goal

pub returns-in-Ok-clause-ok : goal.returns-in-Ok-clause-ok
returns-in-Ok-clause-ok c = λ bytes is_text.
    let game = game_of c.args.game.now in
    let mixtures = mixtures_of c.in-Profile.profile in
    let bounds = map bound_of c.in-Profile.bounds.items in
    let profile = profile_is game (cert_of c.args.cert.now) mixtures bounds c.requires.players (ap verdict_of c.in-Profile.is) c.requires.right c.requires.narrow bytes is_text in
    if_ok c.text_of.result (λ text. text.items ≡ best_text c.deref.result.now) (λ text. IsBestText game bytes text.items)
    (λ text e. record {
      mixtures = mixtures;
      profile = profile;
      answers = c.in-Ok.answers.items;
      best = c.in-Ok.ensures.answers;
      says = e ∙ ap best_text c.deref.ensures.value;
    }) c.text_of.ensures.ok

pub returns-in-Ok-clause-err : goal.returns-in-Ok-clause-err
returns-in-Ok-clause-err c = λ bytes is_text.
    let game = game_of c.args.game.now in
    let mixtures = mixtures_of c.in-Profile.profile in
    let bounds = map bound_of c.in-Profile.bounds.items in
    let profile = profile_is game (cert_of c.args.cert.now) mixtures bounds c.requires.players (ap verdict_of c.in-Profile.is) c.requires.right c.requires.narrow bytes is_text in
    if_err c.text_of.result (λ refusal. refusal ≡ NoMemory) (IsStopped game bytes c.args.budget)
    (λ refusal e. (mixtures, profile, inl e)) c.text_of.ensures.err

pub returns-in-Err-clause-err : goal.returns-in-Err-clause-err
returns-in-Err-clause-err c = λ bytes is_text.
    let game = game_of c.args.game.now in
    let mixtures = mixtures_of c.in-Profile.profile in
    let bounds = map bound_of c.in-Profile.bounds.items in
    let profile = profile_is game (cert_of c.args.cert.now) mixtures bounds c.requires.players (ap verdict_of c.in-Profile.is) c.requires.right c.requires.narrow bytes is_text in
    let starts = subst (StartsAt c.new-purse.result) c.from.ensures c.new-purse.ensures in
    (mixtures, profile, c.ended.ensures.ends game c.args.game.now.sound mixtures c.new-purse.result c.best.new.purse starts c.in-Err.ensures.cause)
