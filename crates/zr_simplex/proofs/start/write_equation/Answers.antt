use Rattle.std.proofs.Common.{◌+◌, pos, arith, set, FitsSigned}
use Rattle.std.proofs.lemmas.Int.{ints, to_z-of_z}
use Rattle.std.specs.Int.{w128}
use Rattle.std.proofs.lemmas.List.Elements.{All-set}
use Rattle.zr_base.specs.Steps.{IsNarrow}
use Rattle.zr_lin.proofs.SparseRows.{read_form}
use Rattle.zr_simplex.proofs.start.write_equation.Goals as goal

pub write_row-requires-clause-coef : goal.write_row-requires-clause-coef
write_row-requires-clause-coef c =
    let lp = c.args.lp.now in
    rw c.deref.ensures.value (read_form lp.columns lp.rows.items c.requires.lp.rows c.args.row c.index.result.now c.requires.row c.index.ensures).0

narrow_one : IsNarrow (pos 1)
narrow_one = omega arith

pub returns-clause-narrow : goal.returns-clause-narrow
returns-clause-narrow c =
    let lp = c.args.lp.now in
    let n = lp.columns in
    let made = c.write_row.new.places in
    let value = c.index-2.result.now.le in
    let form = read_form n lp.rows.items c.requires.lp.rows c.args.row c.index-2.result.now c.requires.row c.index-2.ensures in
    let le : IsNarrow value = form.1 in
    let f : FitsSigned w128 value = omega (arith, ints, le) in
    simp to_z-of_z (All-set IsNarrow (set made n value) (n + 1) (pos 1) narrow_one (All-set IsNarrow made n value le c.write_row.ensures.narrow))
