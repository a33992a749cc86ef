use Rattle.zr_refute.specs.Refuting.{Closes}
use Rattle.zr_refute.specs.Steps.{IsWideEnd}
use Rattle.zr_refute.proofs.PassLaws.{not_both, one_fault, passing}
use Rattle.zr_refute.proofs.laws.law_of_passing_cases.Goals as goal

pub returns-clause-passes : goal.returns-clause-passes
returns-clause-passes c = λ game leaves kind path t.
    passing (Closes game leaves) (IsWideEnd game leaves) game leaves kind path t

pub returns-clause-apart : goal.returns-clause-apart
returns-clause-apart c = λ game leaves kind n path t fault.
    not_both (Closes game leaves) (IsWideEnd game leaves) game leaves kind n path t fault

pub returns-clause-one : goal.returns-clause-one
returns-clause-one c = λ game leaves kind n path t f g.
    one_fault (Closes game leaves) (IsWideEnd game leaves) game leaves kind n path t f g
