use Rattle.std.proofs.Common.{◌≡◌, ◌+◌, ◌-◌, ap, ◌∙◌, arith, append-nil, vec_len, Some}
use Rattle.zr_nodes.specs.Lists.{numbers, first_or}
use Rattle.zr_nodes.proofs.Rows.{growing_start, growing_step, growing_end, after_last, after_others}
use Rattle.zr_nodes.proofs.leaves.push_row.Goals as goal
use Rattle.zr_nodes.proofs.leaves.push_row.Goals.{then-i-count, else-i-count}

pub loop-i-init : goal.loop-i-init
loop-i-init c = record {
  growing = growing_start _ _ _ _ _ _ (omega arith);
  len = omega arith;
  capacity = omega arith;
}

after_is : (c : goal.After-new-in-loop-i)
    → c.if-i-count.after
    ≡ first_or (numbers (vec_len c.loop-i.places + 1) (c.args.count - (c.loop-i.i + 1))) c.args.next
after_is c =
    elim c.if-i-count.branch [
      | then-i-count w ↦ w.after-is ∙ after_last _ _ _ (omega arith)
      | else-i-count w ↦
          w.after-is ∙ ap Some (w.new.ensures ∙ ap (λ n. n + 1) c.len-number.ensures)
          ∙ after_others _ _ c.args.next (omega arith)
    ]

pub loop-i-preserved : goal.loop-i-preserved
loop-i-preserved c = record {
  growing =
      rw (c.in-Ok.ensures.items, c.in-Ok.ensures.len, c.new-in-loop-i.ensures, c.len-number.ensures)
      (growing_step _ _ _ _ _ _ _ _ _ _ _ (omega arith) (after_is c) c.loop-i.invariant.growing);
  len = omega (arith, c.in-Ok.ensures.len);
  capacity = omega (arith, c.in-Ok.ensures.capacity);
}

pub returns-clause-items : goal.returns-clause-items
returns-clause-items c =
    let ends =
    growing_end _ _ _ _ _ _ _ _ _ (omega arith) c.loop-i.invariant.growing in simp append-nil at
    ends.0

pub returns-clause-last : goal.returns-clause-last
returns-clause-last c = (growing_end _ _ _ _ _ _ _ _ _ (omega arith) c.loop-i.invariant.growing).1
