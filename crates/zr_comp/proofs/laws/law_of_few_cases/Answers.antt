use Rattle.zr_comp.proofs.Units.{few_units}
use Rattle.zr_comp.proofs.laws.law_of_few_cases.Goals as goal

pub returns : goal.returns
returns c = λ game leaves kind t opens. few_units game leaves kind t opens
