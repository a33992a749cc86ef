use Rattle.zr_simplex.proofs.Stands.{partition_of}
use Rattle.zr_simplex.proofs.tableau.Tableau.new.Goals as goal

pub returns-clause-partition : goal.returns-clause-partition
returns-clause-partition c = partition_of c.requires.columns
