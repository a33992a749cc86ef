use Rattle.zr_bnb.specs.Answers.{MayAsk}
use Rattle.zr_box_search.specs.Causes.{MayAskIn}
use Rattle.zr_box_search.proofs.Ends.{stuck_weaker}
use Rattle.zr_box_search.proofs.better.stop_of.Goals as goal

pub returns-in-Wide : goal.returns-in-Wide
returns-in-Wide c game i player aim is may old new cause = (
  i,
  player,
  is,
  stuck_weaker i player (MayAsk player aim) (MayAskIn game player) may
      c.in-Wide.asked (rw c.in-Wide.is at cause),
)
