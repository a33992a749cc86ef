use Rattle.zr_refute.specs.Covered.{covered}
use Rattle.zr_refute.proofs.CoveredLeaves.{are_covers}
use Rattle.zr_convex.proofs.Refuted.{has_none}
use Rattle.zr_convex.proofs.laws.law_of_none.Goals as goal

pub returns-clause-leaves : goal.returns-clause-leaves
returns-clause-leaves c = λ game form leaves covers kind t r.
    has_none game form leaves covers kind t r

pub returns-clause-covers : goal.returns-clause-covers
returns-clause-covers c = λ game form kind trees named t s.
    has_none game form (covered game trees named) (are_covers game form trees named s.covers) kind t
    s.refutes
