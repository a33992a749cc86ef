use Rattle.std.proofs.Common.{sym, subst, All}
use Rattle.zr_game.specs.Leaves.{IsLeafOf}
use Rattle.zr_system.specs.declared.leaves.Region.{Region}
use Rattle.zr_system.proofs.Existence.{all_one}
use Rattle.zr_system.proofs.tests.whole.Goals as goal

pub returns-clause-leaves : goal.returns-clause-leaves
returns-clause-leaves c player is =
    let P = λ (region : Region). IsLeafOf player region.leaf in
    subst (All P) (sym c.in_ok-vec.ensures.items) (all_one P _ (c.in-Ok.ensures.lengths player is))
