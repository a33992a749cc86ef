use Rattle.std.proofs.Common.{rules, ◌≡◌, refl, inl, inr, ap, subst, ⊎_elim}
use Rattle.zr_io.specs.Contents.{Bytes}
use Rattle.zr_words.specs.Words.{spelled}
use Rattle.zr_words.specs.Commands.{Asks}
use Rattle.zr_words.specs.declared.command.Command.TheVariants.{Solve, Check, Best, Migrate}
use Rattle.zero.specs.Commands.{IsBest, IsCheck, IsMigrate, IsSolve, for_best, for_check}
use Rattle.zero.specs.Reads.{Lacks}
use Rattle.zero.specs.Refusals.{status_of}
use Rattle.zero.specs.Told.{IsStatus}
use Rattle.zero.proofs.CauseLemmas.{err_and}
use Rattle.zero.proofs.StatusLemmas.{faulty_of_help}
use Rattle.zero.proofs.CommandLemmas.{named_or_faulty, one_name}
use Rattle.zero.proofs.answer.answer_to.Goals as goal

pub returns-in_err-game-clause-lacks : goal.returns-in_err-game-clause-lacks
returns-in_err-game-clause-lacks g c = λ name named lacks.
    let words = spelled c.args.words.now in
    let h : IsStatus 3 (status_of c.in_err-game.field-0.0) = ⊎_elim
    (λ e. inr (ap status_of e))
    (λ f. absurd (named_or_faulty words name named
    (faulty_of_help words (g.S.Shelf.contents c.args.shelf.now) f.0 f.2))) c.in_err-game.ensures.err in
    search (rules, h)

-- ---- an equilibrium

pub returns-in-Solve-clause-err : goal.returns-in-Solve-clause-err
returns-in-Solve-clause-err g c =
    let words = spelled c.args.words.now in
    c.solve.ensures.err words (
      Solve c.in-Solve.game c.in-Solve.options,
      subst (Asks words) c.in-Solve.is c.in_ok-game.ensures.ok,
      (refl, refl, refl),
    )

pub returns-in-Solve-clause-lacks : goal.returns-in-Solve-clause-lacks
returns-in-Solve-clause-lacks g c = λ name named lacks.
    let words = spelled c.args.words.now in
    let kind = c.in-Solve.options.kind in
    let budget = c.in-Solve.options.budget in
    let asks : IsSolve words kind budget c.in-Solve.game.now = (
      Solve c.in-Solve.game c.in-Solve.options,
      subst (Asks words) c.in-Solve.is c.in_ok-game.ensures.ok,
      (refl, refl, refl),
    ) in
    let same = one_name words name c.in-Solve.game.now named (inl (kind, budget, asks)) in
    let here = subst (λ (n : Bytes). Lacks (g.S.Shelf.contents c.args.shelf.now) n) same lacks in
    err_and c.solve.result (λ refusal. status_of refusal ≡ 3) (λ refusal. IsStatus 3 (status_of refusal))
    (λ refusal e. inl e) (c.solve.ensures.lacks here)

-- ---- a check

pub returns-in-Check-clause-err : goal.returns-in-Check-clause-err
returns-in-Check-clause-err g c =
    let words = spelled c.args.words.now in
    c.check.ensures.err words (
      Check c.in-Check.game c.in-Check.cert,
      subst (Asks words) c.in-Check.is c.in_ok-game.ensures.ok,
      (refl, refl),
    )

pub returns-in-Check-clause-lacks : goal.returns-in-Check-clause-lacks
returns-in-Check-clause-lacks g c = λ name named lacks.
    let words = spelled c.args.words.now in
    let asks : IsCheck words c.in-Check.game.now c.in-Check.cert.now = (
      Check c.in-Check.game c.in-Check.cert,
      subst (Asks words) c.in-Check.is c.in_ok-game.ensures.ok,
      (refl, refl),
    ) in
    let same = one_name words name c.in-Check.game.now named (inr (inl (for_check, c.in-Check.cert.now, asks))) in
    let here = subst (λ (n : Bytes). Lacks (g.S.Shelf.contents c.args.shelf.now) n) same lacks in
    err_and c.check.result (λ refusal. status_of refusal ≡ 3) (λ refusal. IsStatus 3 (status_of refusal))
    (λ refusal e. inl e) (c.check.ensures.lacks here)

-- ---- best answers

pub returns-in-Best-clause-err : goal.returns-in-Best-clause-err
returns-in-Best-clause-err g c =
    let words = spelled c.args.words.now in
    c.best.ensures.err words (
      Best c.in-Best.game c.in-Best.cert c.in-Best.options,
      subst (Asks words) c.in-Best.is c.in_ok-game.ensures.ok,
      (refl, refl, refl),
    )

pub returns-in-Best-clause-lacks : goal.returns-in-Best-clause-lacks
returns-in-Best-clause-lacks g c = λ name named lacks.
    let words = spelled c.args.words.now in
    let budget = c.in-Best.options.budget in
    let asks : IsBest words budget c.in-Best.game.now c.in-Best.cert.now = (
      Best c.in-Best.game c.in-Best.cert c.in-Best.options,
      subst (Asks words) c.in-Best.is c.in_ok-game.ensures.ok,
      (refl, refl, refl),
    ) in
    let same = one_name words name c.in-Best.game.now named (inr (inl (for_best budget, c.in-Best.cert.now, asks))) in
    let here = subst (λ (n : Bytes). Lacks (g.S.Shelf.contents c.args.shelf.now) n) same lacks in
    err_and c.best.result (λ refusal. status_of refusal ≡ 3) (λ refusal. IsStatus 3 (status_of refusal))
    (λ refusal e. inl e) (c.best.ensures.lacks here)

-- ---- the text in today's form

pub returns-in-Migrate-clause-err : goal.returns-in-Migrate-clause-err
returns-in-Migrate-clause-err g c =
    let words = spelled c.args.words.now in
    c.migrate.ensures.err words (
      Migrate c.in-Migrate.game,
      subst (Asks words) c.in-Migrate.is c.in_ok-game.ensures.ok,
      refl,
    )

pub returns-in-Migrate-clause-lacks : goal.returns-in-Migrate-clause-lacks
returns-in-Migrate-clause-lacks g c = λ name named lacks.
    let words = spelled c.args.words.now in
    let asks : IsMigrate words c.in-Migrate.game.now = (
      Migrate c.in-Migrate.game,
      subst (Asks words) c.in-Migrate.is c.in_ok-game.ensures.ok,
      refl,
    ) in
    let same = one_name words name c.in-Migrate.game.now named (inr (inr asks)) in
    let here = subst (λ (n : Bytes). Lacks (g.S.Shelf.contents c.args.shelf.now) n) same lacks in
    err_and c.migrate.result (λ refusal. status_of refusal ≡ 3) (λ refusal. IsStatus 3 (status_of refusal))
    (λ refusal e. inl e) (c.migrate.ensures.lacks here)
