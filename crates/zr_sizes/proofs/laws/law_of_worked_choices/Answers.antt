use Rattle.std.proofs.Common.{refl}
use Rattle.zr_sizes.proofs.laws.law_of_worked_choices.Goals as goal

pub returns : goal.returns
returns c = refl
