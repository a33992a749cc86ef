use Rattle.zr_boxes.proofs.Descent.{no_equilibrium}
use Rattle.zr_boxes.proofs.laws.law_of_box_trees.Goals as goal

pub returns : goal.returns
returns c game form t right = no_equilibrium game form t right
