use Rattle.std.proofs.Common.{rules, arith, ◌≡◌, IsOk, sym, subst}
use Rattle.zr_game.specs.Games.{game_of}
use Rattle.zr_game.specs.Players.{GameOf}
use Rattle.zr_cert.specs.Listed.{cert_of}
use Rattle.zr_check.specs.Right.{IsRightCert}
use Rattle.zr_check.specs.Truth.{IsTrueVerdict}
use Rattle.zr_check.specs.WideSteps.{HasWideStep}
use Rattle.zr_read.specs.Texts.{source_of}
use Rattle.zero.specs.Commands.{for_check}
use Rattle.zero.specs.Answers.{IsAccepted, accepted_text}
use Rattle.zero.specs.Refusals.{ComesOf, IsCause}
use Rattle.zero.specs.declared.refusal.Refusal.TheVariants.{NoMemory}
use Rattle.zero.specs.declared.text.Text.{Text}
use Rattle.zero.specs.declared.text.Text.TheVariants.{Cert}
use Rattle.zero.proofs.CauseLemmas.{if_err, if_ok}
use Rattle.zero.proofs.TruthLemmas.{true_of}
use Rattle.zero.proofs.check.accept.Goals as goal

pub returns-in-Ok-check_cert-clause-ok : goal.returns-in-Ok-check_cert-clause-ok
returns-in-Ok-check_cert-clause-ok c =
    let source = source_of c.args.reading.now.source in
    let cert = cert_of c.in_ok-cert.cert in
    let passed : IsOk c.check_cert.result = search rules in
    let right = c.check_cert.ensures.exact.0 passed in
    let truth : IsTrueVerdict (game_of c.args.reading.now.game) cert.kind cert.verdict = search rules in
    let here = subst (λ (g : GameOf). IsRightCert g cert) c.requires.game right.0 in
    let narrow = subst (λ (g : GameOf). HasWideStep g cert → ⊥) c.requires.game right.1 in
    let there = subst (λ (g : GameOf). IsTrueVerdict g cert.kind cert.verdict) c.requires.game truth in
    if_ok c.accepted.result (λ text. text.items ≡ accepted_text cert) (λ text. IsAccepted source c.args.bytes.now text.items)
    (λ text e. record {
      cert = cert;
      shown = record { is_text = c.in_ok-cert.ensures.ok; right = here; narrow = narrow };
      truth = true_of source c.args.reading.now.source.sound cert.kind cert.verdict there;
      answer = e;
    }) c.accepted.ensures.ok

pub returns-in_err-cert-clause-err : goal.returns-in_err-cert-clause-err
returns-in_err-cert-clause-err c = λ words contents asked.
    let h = c.in_err-cert.ensures.err words contents for_check (source_of c.args.reading.now.source) asked in
    search (rules, h)

pub returns-in-Ok-check_cert-clause-err : goal.returns-in-Ok-check_cert-clause-err
returns-in-Ok-check_cert-clause-err c = λ words contents asked.
    if_err c.accepted.result (λ refusal. refusal ≡ NoMemory) (IsCause words contents) (λ refusal e. subst (IsCause words contents) (sym e) tt) c.accepted.ensures.err

-- want of memory comes whatever text was taken
no_memory : (text : Text) → ComesOf text NoMemory
no_memory text = record {
  taken = λ before after last. tt;
  read = λ e. let three : 11 ≡ 3 = e in absurd (omega (arith, three));
  unwritten = λ e. let twelve : 11 ≡ 12 = e in absurd (omega (arith, twelve));
}

pub returns-in-Ok-check_cert-clause-comes : goal.returns-in-Ok-check_cert-clause-comes
returns-in-Ok-check_cert-clause-comes c =
    if_err c.accepted.result (λ refusal. refusal ≡ NoMemory) (ComesOf Cert)
    (λ refusal e. subst (ComesOf Cert) (sym e) (no_memory Cert)) c.accepted.ensures.err
