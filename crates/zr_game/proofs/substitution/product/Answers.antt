use Rattle.std.proofs.Common.{rules, FitsSigned}
use Rattle.std.specs.Int.{w64, w128}
use Rattle.std.proofs.lemmas.Int.{to_z-of_z}
use Rattle.zr_game.proofs.substitution.product.Goals as goal

pub returns : goal.returns
returns c =
    let f : FitsSigned w64 c.args.bound = search rules in
    let g : FitsSigned w128 c.args.den = search rules in
    let h : FitsSigned w128 c.from.result = search rules in
    rw (simp to_z-of_z at c.from.ensures) at (simp to_z-of_z at c.cross.ensures)
