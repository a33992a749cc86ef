use Rattle.zr_boxes.proofs.PassLaws.{exclusive, one_fault, passes_if, right_if}
use Rattle.zr_boxes.proofs.laws.law_of_passing_boxes.Goals as goal

pub returns-clause-passes : goal.returns-clause-passes
returns-clause-passes c game box t = (right_if game t box, λ h. passes_if game t box h.0 h.1)

pub returns-clause-apart : goal.returns-clause-apart
returns-clause-apart c game k box t fault = exclusive game t k box fault

pub returns-clause-one : goal.returns-clause-one
returns-clause-one c game k box t f g = one_fault game t k box f g
