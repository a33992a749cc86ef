use Rattle.std.proofs.Common.{◌≤◌, arith, pos, get_or, length, FitsSigned}
use Rattle.std.proofs.lemmas.Int.{ints, to_z-of_z}
use Rattle.std.specs.Int.{w128}
use Rattle.zr_simplex.proofs.Divide.{narrow_more}
use Rattle.zr_simplex.proofs.Places.{entry_inside, entry_narrow, written_more}
use Rattle.zr_simplex.proofs.start.write_row.Goals as goal

pub bounds-places-column : goal.bounds-places-column
bounds-places-column c =
    entry_inside c.loop-column.places c.args.coef.now c.args.columns c.loop-column.column-index c.requires.coef c.loop-column-test.true (omega (arith, c.loop-column.auto.places, c.requires.columns))

pub loop-column-preserved : goal.loop-column-preserved
loop-column-preserved c =
    let room : c.args.columns ≤ length c.loop-column.places = omega (arith, c.loop-column.auto.places, c.requires.columns) in
    let n = entry_narrow c.loop-column.places c.args.coef.now c.args.columns c.loop-column.column-index c.requires.coef c.loop-column-test.true room in
    let f : FitsSigned w128 (get_or c.args.coef.now c.loop-column.column-index (0, pos 0)).1 = omega (arith, ints, n) in
    let inside = entry_inside c.loop-column.places c.args.coef.now c.args.columns c.loop-column.column-index c.requires.coef c.loop-column-test.true room in
    record {
      numbers = simp to_z-of_z (written_more c.loop-column.places c.args.coef.now c.args.columns c.loop-column.column-index c.requires.coef c.loop-column-test.true room c.loop-column.invariant.numbers);
      narrow = simp to_z-of_z (narrow_more c.loop-column.places (get_or c.args.coef.now c.loop-column.column-index (0, pos 0)).0 (get_or c.args.coef.now c.loop-column.column-index (0, pos 0)).1 inside c.loop-column.invariant.narrow n);
    }
