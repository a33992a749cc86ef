use Rattle.std.proofs.Common.{rules}
use Rattle.zero.proofs.reading.reading_in.Goals as goal

pub returns-in_err-source-clause-err : goal.returns-in_err-source-clause-err
returns-in_err-source-clause-err c = λ words contents name named read.
    let h = c.in_err-source.ensures.err words contents name named read in
    search (rules, h)

pub returns-in_err-game-clause-err : goal.returns-in_err-game-clause-err
returns-in_err-game-clause-err c = λ words contents name named read.
    let h = c.in_err-game.ensures.err words contents name c.args.bytes.now named read c.in_ok-source.ensures.ok in
    search (rules, h)
