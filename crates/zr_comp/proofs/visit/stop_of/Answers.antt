use Rattle.std.proofs.Common.{subst}
use Rattle.zr_choices.specs.Replies.{IsChoicesCause}
use Rattle.zr_comp.proofs.Stuck.{stuck_case}
use Rattle.zr_comp.proofs.visit.stop_of.Goals as goal

pub returns-in-Wide : goal.returns-in-Wide
returns-in-Wide c = λ game leaves kind path opens cause old new.
    let k = subst (IsChoicesCause game leaves path) c.in-Wide.is cause in
    stuck_case game leaves kind path c.in-Wide.asked.question c.in-Wide.asked.stuck opens k.0 k.1
