use Rattle.std.proofs.Common.{rules, ◌≡◌, arith, length}
use Rattle.zr_simplex.specs.Programs.{program_of}
use Rattle.zr_simplex.proofs.Kept.{falls_nowhere}
use Rattle.zr_simplex.proofs.choose.column_to_raise.Goals as goal

pub returns : goal.returns
returns c =
    let e : c.len-value.result ≡ length c.args.lp.now.rows.items = search rules in
    let reached : c.loop-place.place ≡ c.args.lp.now.columns = omega (arith, c.loop-place-test.false, c.loop-place.auto.place-end) in
    falls_nowhere (program_of c.args.lp.now) c.args.tableau.now c.requires.kept (rw (reached, e) at c.loop-place.invariant)
