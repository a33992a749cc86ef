use Rattle.zr_tree.proofs.Forests.{same_tree, tree_of}
use Rattle.zr_tree.proofs.laws.law_of_nodes.Goals as goal

pub returns-clause-some : goal.returns-clause-some
returns-clause-some c nodes form = tree_of nodes form.whole

pub returns-clause-one : goal.returns-clause-one
returns-clause-one c s t e = same_tree s t e
