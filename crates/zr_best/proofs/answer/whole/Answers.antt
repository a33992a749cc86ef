use Rattle.std.proofs.Common.{rules, FitsSigned}
use Rattle.std.specs.Int.{w128}
use Rattle.std.proofs.lemmas.Int.{to_z-of_z}
use Rattle.zr_base.specs.Fractions.{whole}
use Rattle.zr_base.proofs.Lowest.{lowest_same}
use Rattle.zr_base.proofs.Wholes.{lowest_whole}
use Rattle.zr_best.proofs.answer.whole.Goals as goal

pub returns : goal.returns
returns c =
    let f : FitsSigned w128 c.args.number = c.ranges.number in
    let lowest = rw c.unwrap.ensures at c.new.ensures.lowest in
    let same = simp to_z-of_z at (rw c.unwrap.ensures at c.new.ensures.same) in
    lowest_same c.unwrap.result (whole c.args.number) lowest
    (lowest_whole c.args.number c.requires.narrow) same.cross
