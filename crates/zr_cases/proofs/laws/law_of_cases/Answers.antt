use Rattle.zr_cases.proofs.Forests.{boxes_of, cases_of, of_boxes, of_cases}
use Rattle.zr_cases.proofs.laws.law_of_cases.Goals as goal

pub returns-clause-cases : goal.returns-clause-cases
returns-clause-cases c leaves nodes = (cases_of leaves nodes, of_cases leaves nodes)

pub returns-clause-boxes : goal.returns-clause-boxes
returns-clause-boxes c nodes = (boxes_of nodes, of_boxes nodes)
