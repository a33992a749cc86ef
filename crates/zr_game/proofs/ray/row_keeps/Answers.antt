use Rattle.std.proofs.Common.{rules, length, sym, refl, ◌∙◌, FitsSigned}
use Rattle.std.specs.Int.{w128}
use Rattle.std.proofs.lemmas.Int.{to_z-of_z}
use Rattle.zr_game.specs.Forms.{IsCoefficient}
use Rattle.zr_game.proofs.RaySums.{along_is}
use Rattle.zr_game.proofs.TermColumns.{columns_exist}
use Rattle.zr_game.proofs.ray.row_keeps.Goals as goal

pub along-requires : goal.along-requires
along-requires c =
    rw c.as_slice.ensures (columns_exist IsCoefficient 0 (length c.args.dir.now)
    c.args.row.now.coef.items c.requires.coef)

pub returns : goal.returns
returns c =
    let e = sym (rw c.as_slice.ensures at c.along.ensures) ∙ c.in_ok-change.was in
    let s = along_is c.args.row.now.coef.items c.args.dir.now c.in_ok-change.change e in
    let f : FitsSigned w128 c.in_ok-change.change = search rules in
    simp to_z-of_z (rw (e, ← s) (refl, search rules))
