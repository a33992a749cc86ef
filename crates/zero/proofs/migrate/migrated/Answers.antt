use Rattle.std.proofs.Common.{rules, inr}
use Rattle.zr_read.specs.Texts.{source_of}
use Rattle.zero.proofs.migrate.migrated.Goals as goal

pub returns-in_err-reading-clause-err : goal.returns-in_err-reading-clause-err
returns-in_err-reading-clause-err c = λ words contents name asks read.
    let h = c.in_err-reading.ensures.err words contents name (inr (inr asks)) read in
    search (rules, h)

pub returns-in-Ok-clause-ok : goal.returns-in-Ok-clause-ok
returns-in-Ok-clause-ok c = record {
  source = source_of c.in_ok-reading.reading.source;
  game = c.in_ok-reading.ensures.ok.text;
  canonical = c.in-Ok.ensures.text;
  stands = c.in-Ok.ensures.stands;
}
