use Rattle.zr_words.specs.Words.{spelled}
use Rattle.zr_words.proofs.reading.read_words.Goals as goal

pub returns-clause-err : goal.returns-clause-err
returns-clause-err c = c.refusal_of.ensures (spelled c.args.words.now) c.in-Err.ensures
