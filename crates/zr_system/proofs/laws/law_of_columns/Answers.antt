use Rattle.zr_system.proofs.ColumnForms.{by_columns}
use Rattle.zr_system.proofs.laws.law_of_columns.Goals as goal

pub returns : goal.returns
returns c = λ game leaves path exist x. by_columns game leaves x path exist
