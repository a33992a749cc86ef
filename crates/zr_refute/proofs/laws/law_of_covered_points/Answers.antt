use Rattle.zr_refute.proofs.CoveredLeaves.{are_covers}
use Rattle.zr_refute.proofs.laws.law_of_covered_points.Goals as goal

pub returns : goal.returns
returns c = λ game form trees named right. are_covers game form trees named right
