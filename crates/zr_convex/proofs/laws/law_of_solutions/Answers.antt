use Rattle.zr_refute.specs.Covered.{covered}
use Rattle.zr_refute.proofs.CoveredLeaves.{are_covers}
use Rattle.zr_convex.proofs.Refuted.{has_solution}
use Rattle.zr_convex.proofs.laws.law_of_solutions.Goals as goal

pub returns-clause-leaves : goal.returns-clause-leaves
returns-clause-leaves c = λ game form leaves covers kind profile of_kind e.
    has_solution game form leaves covers kind profile of_kind e

pub returns-clause-covers : goal.returns-clause-covers
returns-clause-covers c = λ game form trees named right kind profile of_kind e.
    has_solution game form (covered game trees named) (are_covers game form trees named right) kind
    profile of_kind e
