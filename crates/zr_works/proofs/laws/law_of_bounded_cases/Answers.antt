use Rattle.zr_works.proofs.Working.{bounded_cases}
use Rattle.zr_works.proofs.laws.law_of_bounded_cases.Goals as goal

pub returns : goal.returns
returns c = λ game form bounded trees o named kind t cases.
    bounded_cases game form bounded trees o named kind t cases
