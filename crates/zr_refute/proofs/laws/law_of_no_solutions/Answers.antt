use Rattle.zr_refute.proofs.NoSolutions.{none_complete}
use Rattle.zr_refute.proofs.laws.law_of_no_solutions.Goals as goal

pub returns : goal.returns
returns c = λ game leaves kind t. none_complete game leaves kind t
