use Rattle.zr_works.proofs.Working.{all_work}
use Rattle.zr_works.proofs.laws.law_of_all_work.Goals as goal

pub returns : goal.returns
returns c = λ game form bounded covers trees bounds c o b named kind t cases.
    all_work game form bounded trees o named kind t cases covers bounds c b
