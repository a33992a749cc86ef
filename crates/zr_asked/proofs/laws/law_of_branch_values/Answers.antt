use Rattle.zr_asked.proofs.PartSums.{branch_values}
use Rattle.zr_asked.proofs.laws.law_of_branch_values.Goals as goal

pub returns : goal.returns
returns c vars coef y = branch_values vars coef y
