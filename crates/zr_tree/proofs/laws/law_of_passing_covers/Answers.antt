use Rattle.zr_tree.specs.Covers.{KeepsCover}
use Rattle.zr_tree.specs.CoverSteps.{IsWideForCover}
use Rattle.zr_tree.proofs.PassLaws.{exclusive, one_fault, passes_if, right_if}
use Rattle.zr_tree.proofs.laws.law_of_passing_covers.Goals as goal

pub returns-clause-passes : goal.returns-clause-passes
returns-clause-passes c player leaf t =
    let right = KeepsCover player in
    let wide = IsWideForCover player in
    (right_if right wide player t leaf, λ h. passes_if right wide player t leaf h.0 h.1)

pub returns-clause-apart : goal.returns-clause-apart
returns-clause-apart c player k leaf t fault =
    exclusive (KeepsCover player) (IsWideForCover player) player t k leaf fault

pub returns-clause-one : goal.returns-clause-one
returns-clause-one c player k leaf t f g =
    one_fault (KeepsCover player) (IsWideForCover player) player t k leaf f g
