use Rattle.std.proofs.Common.{arith, ap, sym, subst, List, [], ◌∷◌, length, length-append, All}
use Rattle.zr_game.specs.Leaves.{IsLeafOf}
use Rattle.zr_system.specs.declared.leaves.Region.{Region}
use Rattle.zr_system.proofs.Existence.{all_append, all_one}
use Rattle.zr_system.proofs.tests.corners.Goals as goal

pub loop-number-preserved : goal.loop-number-preserved
loop-number-preserved c =
    let e = c.in_ok-push.ensures.items in
    record {
      leaves = λ player is. subst (All (λ (region : Region). IsLeafOf player region.leaf)) (sym {A = List Region} e)
          (all_append (λ (region : Region). IsLeafOf player region.leaf) c.loop-number.list.items
          (c.in_ok-corner.field-0 ∷ []) (c.loop-number.invariant.leaves player is)
          (all_one (λ (region : Region). IsLeafOf player region.leaf) c.in_ok-corner.field-0
          (c.in_ok-corner.ensures player is)));
      few = let l = ap (λ (xs : List Region). length xs) e in
          let a = length-append c.loop-number.list.items (c.in_ok-corner.field-0 ∷ []) in
          let n = c.loop-number.invariant.few in
          omega (arith, l, a, n);
    }
