use Rattle.std.proofs.Common.{sym, subst, List, [], ◌∷◌, All}
use Rattle.zr_game.specs.Leaves.{IsLeafOf}
use Rattle.zr_system.specs.declared.leaves.Region.{Region}
use Rattle.zr_system.proofs.Existence.{all_cons, all_one}
use Rattle.zr_choices.proofs.tests.points.Goals as goal

pub returns-clause-leaves : goal.returns-clause-leaves
returns-clause-leaves c player is =
    let P = λ (region : Region). IsLeafOf player region.leaf in
    let a = c.in_ok-corner.field-0 in
    let b = c.in_ok-corner-2.field-0 in
    subst (All P) (sym {A = List Region} c.in_ok-vec.ensures.items)
    (all_cons P a (b ∷ []) (c.in_ok-corner.ensures player is)
    (all_one P b (c.in_ok-corner-2.ensures player is)))
