use Rattle.std.proofs.Common.{rules, inr}
use Rattle.zero.specs.Answers.{IsAnswer, IsSameGame}
use Rattle.zero.proofs.CauseLemmas.{if_ok}
use Rattle.zero.proofs.migrate.migrate.Goals as goal

pub returns-in_err-bytes-clause-err : goal.returns-in_err-bytes-clause-err
returns-in_err-bytes-clause-err g c = λ words asks.
    let h = c.in_err-bytes.ensures.err words (inr (inr asks)) in
    search (rules, h)

pub returns-clause-err : goal.returns-clause-err
returns-clause-err g c = λ words asks.
    c.migrated.ensures.err words (g.S.Shelf.contents c.args.shelf.now) c.args.name.now asks (search rules)

pub returns-clause-ok : goal.returns-clause-ok
returns-clause-ok g c = λ words asks.
    let contents = g.S.Shelf.contents c.args.shelf.now in
    let bytes = c.as_slice.result.now in
    if_ok c.migrated.result (λ text. IsSameGame bytes text.items) (λ text. IsAnswer words contents text.items)
    (λ text same. inr (inr (inr (record {
      name = c.args.name.now;
      bytes = bytes;
      migrate = asks;
      read = search rules;
      same = same;
    })))) c.migrated.ensures.ok
