use Rattle.zr_write.proofs.SourceBack.{source_back, written_stands}
use Rattle.zr_write.proofs.laws.law_of_reading_back.Goals as goal

pub returns-clause-value : goal.returns-clause-value
returns-clause-value c = source_back

pub returns-clause-text : goal.returns-clause-text
returns-clause-text c = written_stands
