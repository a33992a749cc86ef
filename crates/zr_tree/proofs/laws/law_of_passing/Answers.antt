use Rattle.zr_tree.specs.Right.{ProvesRow}
use Rattle.zr_tree.specs.Steps.{IsWideForRow}
use Rattle.zr_tree.proofs.PassLaws.{exclusive, one_fault, passes_if, right_if}
use Rattle.zr_tree.proofs.laws.law_of_passing.Goals as goal

pub returns-clause-passes : goal.returns-clause-passes
returns-clause-passes c player bound leaf t =
    let right = ProvesRow player bound in
    let wide = IsWideForRow player bound in
    (right_if right wide player t leaf, λ h. passes_if right wide player t leaf h.0 h.1)

pub returns-clause-apart : goal.returns-clause-apart
returns-clause-apart c player bound k leaf t fault = exclusive (ProvesRow player bound) (IsWideForRow player bound) player t k leaf fault

pub returns-clause-one : goal.returns-clause-one
returns-clause-one c player bound k leaf t f g = one_fault (ProvesRow player bound) (IsWideForRow player bound) player t k leaf f g
