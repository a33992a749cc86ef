use Rattle.zr_boxes.proofs.Forests.{same_tree}
use Rattle.zr_boxes.proofs.laws.law_of_box_nodes.Goals as goal

pub returns : goal.returns
returns c s t e = same_tree s t e
