use Rattle.std.proofs.Common.{◌≡◌, ◌+◌, ap, sym, ◌∙◌, subst, length, slice_index}
use Rattle.zr_simplex.specs.Programs.{program_of}
use Rattle.zr_simplex.specs.Causes.{IsStuckAfter}
use Rattle.zr_simplex.specs.Halts.{IsFrom, origin_of}
use Rattle.zr_simplex.proofs.Stops.{stuck_if}
use Rattle.zr_simplex.proofs.solve.solve_from.Goals as goal

pub returns-in-Err-Wide-clause-cause : goal.returns-in-Err-Wide-clause-cause
returns-in-Err-Wide-clause-cause c =
    let p = program_of c.args.lp.now in
    let from = IsFrom p (origin_of c.args.tableau c.args.order.now) in
    let kept = c.into_basis.result.items in
    let step = c.in-Err-Wide.step in
    let wide = c.in-Err-Wide.wide in
    let miss = rw c.in-Err-Wide.field-0-is at c.in-Err-Wide.ensures.miss in
    let long : length kept ≡ p.rows + 1 = ap length c.into_basis.ensures ∙ c.in-Err-Wide.ensures.count in
    let after : IsStuckAfter p from c.args.purse.now c.solve.new.purse (λ i. slice_index kept i) step wide = subst (λ xs. IsStuckAfter p from c.args.purse.now c.solve.new.purse (λ i. slice_index xs i) step wide) (sym c.into_basis.ensures) miss in
    (stuck_if p from from c.args.purse.now c.solve.new.purse kept step wide long after, after)
