use Rattle.std.proofs.Common.{◌≡◌, ◌+◌, ◌-◌, ap, ◌∙◌, arith, append-nil, vec_len, Some, None}
use Rattle.zr_nodes.specs.Lists.{numbers, first}
use Rattle.zr_nodes.proofs.Rows.{after_last, after_others}
use Rattle.zr_nodes.proofs.Families.{bearing_start, bearing_step, bearing_end}
use Rattle.zr_nodes.proofs.branches.push_brood.Goals as goal
use Rattle.zr_nodes.proofs.branches.push_brood.Goals.{then-i-count, else-i-count}

pub loop-i-init : goal.loop-i-init
loop-i-init c = record
    { bearing = bearing_start _ _ _ _ _ (omega arith); len = omega arith; capacity = omega arith }

next_is : (c : goal.In-Ok)
    → c.if-i-count.next_sibling
    ≡ first (numbers (vec_len c.loop-i.nodes + 1) (c.args.count - (c.loop-i.i + 1)))
next_is c =
    elim c.if-i-count.branch [
      | then-i-count w ↦ w.next_sibling-is ∙ after_last _ _ _ (omega arith)
      | else-i-count w ↦
          w.next_sibling-is ∙ ap Some (w.new.ensures ∙ ap (λ n. n + 1) w.len.ensures)
          ∙ after_others _ _ None (omega arith)
    ]

pub loop-i-preserved : goal.loop-i-preserved
loop-i-preserved c = record {
  bearing = rw (c.in-Ok.ensures.items, c.in-Ok.ensures.len)
      (bearing_step _ _ _ _ _ _ _ _ _ (omega arith) (next_is c) c.loop-i.invariant.bearing);
  len = omega (arith, c.in-Ok.ensures.len);
  capacity = omega (arith, c.in-Ok.ensures.capacity);
}

pub returns-clause-items : goal.returns-clause-items
returns-clause-items c =
    let ends =
    bearing_end _ _ _ _ _ _ _ (omega arith) c.loop-i.invariant.bearing in simp append-nil at
    ends
