use Rattle.zr_works.proofs.Working.{few_inner}
use Rattle.zr_works.proofs.laws.law_of_all_trees.Goals as goal

pub returns : goal.returns
returns c = few_inner
