use Rattle.std.proofs.Common.{◌&&◌}
use Rattle.zr_base.proofs.Telling.{both_true, true_both}
use Rattle.zr_boxes.proofs.bounded.is_bounded.Goals as goal

pub returns : goal.returns
returns c =
    let a = c.are_own_bounded-own.result in
    let b = c.are_cross_bounded-cross.result in
    let d = c.are_others_bounded-others.result in
    let own = rw c.as_slice.ensures at c.are_own_bounded-own.ensures in
    let cross = rw c.deref.ensures.value at c.are_cross_bounded-cross.ensures in
    let others = rw c.deref-2.ensures.value at c.are_others_bounded-others.ensures in (
      λ h. let p = both_true (a && b) d h in let q = both_true a b p.0 in
          record { own = own.0 q.0; cross = cross.0 q.1; others = others.0 p.1 },
      λ h. true_both (a && b) d (true_both a b (own.1 h.own) (cross.1 h.cross)) (others.1 h.others),
    )
