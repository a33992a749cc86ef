use Rattle.std.proofs.Common.{rules, inl}
use Rattle.zr_follow.specs.Expansion.{expansion}
use Rattle.zr_read.specs.Texts.{source_of}
use Rattle.zero.specs.Answers.{IsAnswer, IsAskedSolve, IsDecided}
use Rattle.zero.specs.Refusals.{ComesOfWork, IsCause}
use Rattle.zero.proofs.CauseLemmas.{if_err, if_ok, worked_cause}
use Rattle.zero.proofs.solve.solve.Goals as goal

pub returns-in_err-bytes-clause-err : goal.returns-in_err-bytes-clause-err
returns-in_err-bytes-clause-err g c = λ words solve.
    let h = c.in_err-bytes.ensures.err words (inl (c.args.kind, c.args.budget, solve)) in
    search (rules, h)

pub returns-in_err-reading-clause-err : goal.returns-in_err-reading-clause-err
returns-in_err-reading-clause-err g c = λ words solve.
    let h = c.in_err-reading.ensures.err words (g.S.Shelf.contents c.args.shelf.now) c.args.name.now (inl (c.args.kind, c.args.budget, solve)) (search rules) in
    search (rules, h)

pub returns-clause-err : goal.returns-clause-err
returns-clause-err g c = λ words solve.
    let contents = g.S.Shelf.contents c.args.shelf.now in
    let source = source_of c.in_ok-reading.reading.source in
    let asked : IsAskedSolve words contents c.args.kind c.args.budget source = record {
      name = c.args.name.now;
      bytes = c.as_slice.result.now;
      solve = solve;
      read = search rules;
      game = c.in_ok-reading.ensures.ok.text;
    } in
    if_err c.decide.result (ComesOfWork (expansion source) c.args.kind c.args.budget) (IsCause words contents)
    (λ refusal h. worked_cause words contents c.args.kind c.args.budget source refusal asked h) c.decide.ensures.err

pub returns-clause-ok : goal.returns-clause-ok
returns-clause-ok g c = λ words solve.
    let contents = g.S.Shelf.contents c.args.shelf.now in
    let source = source_of c.in_ok-reading.reading.source in
    let asked : IsAskedSolve words contents c.args.kind c.args.budget source = record {
      name = c.args.name.now;
      bytes = c.as_slice.result.now;
      solve = solve;
      read = search rules;
      game = c.in_ok-reading.ensures.ok.text;
    } in
    if_ok c.decide.result (λ text. IsDecided source c.args.kind text.items) (λ text. IsAnswer words contents text.items)
    (λ text decided. inl (record { kind = c.args.kind; budget = c.args.budget; source = source; asked = asked; decided = decided })) c.decide.ensures.ok

pub returns-in_err-reading-clause-taken : goal.returns-in_err-reading-clause-taken
returns-in_err-reading-clause-taken g c =
    let h = c.in_err-reading.ensures.comes.taken _ _ c.in_ok-bytes.ensures.counts in
    search (rules, h)
