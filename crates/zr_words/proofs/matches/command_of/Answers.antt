use Rattle.std.proofs.Common.{◌≡◌, ◌∙◌, Some, List, subst}
use Rattle.std.specs.Prelude.{IfSome}
use Rattle.zr_words.specs.Words.{Text}
use Rattle.zr_words.specs.Commands.{IsAction}
use Rattle.zr_words.proofs.Numbers.{three_texts, two_texts}
use Rattle.zr_words.proofs.matches.command_of.Goals as goal

pub returns-in-Some-text_at-2-clause-some : goal.returns-in-Some-text_at-2-clause-some
returns-in-Some-text_at-2-clause-some c = λ said rows few.
    let action : Some c.in-Some.action.now ≡ _ = c.in-Some.ensures ∙ rows.action in
    let game : Some c.in-Some-text_at.game.now ≡ _ = c.in-Some-text_at.ensures ∙ rows.game in
    let cert : Some c.in-Some-text_at-2.cert.now ≡ _ = c.in-Some-text_at-2.ensures ∙ rows.cert in
    subst (λ (ts : List Text). IfSome c.with_cert.result (IsAction ts c.args.options)) (three_texts _ _ _ _ action game cert few) c.with_cert.ensures.some

pub returns-in-None-clause-some : goal.returns-in-None-clause-some
returns-in-None-clause-some c = λ said rows few.
    let action : Some c.in-Some.action.now ≡ _ = c.in-Some.ensures ∙ rows.action in
    let game : Some c.in-Some-text_at.game.now ≡ _ = c.in-Some-text_at.ensures ∙ rows.game in
    let cert = c.in-None.ensures ∙ rows.cert in
    subst (λ (ts : List Text). IfSome c.without_cert.result (IsAction ts c.args.options)) (two_texts _ _ _ action game cert) c.without_cert.ensures.some
