use Rattle.zr_comp.proofs.Few.{few_slots}
use Rattle.zr_comp.proofs.laws.law_of_few_slots.Goals as goal

pub returns : goal.returns
returns c = λ game is leaves few i k there. few_slots game is leaves few i k there
