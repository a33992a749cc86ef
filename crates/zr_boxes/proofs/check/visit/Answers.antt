use Rattle.std.proofs.Common.{rules, FitsSigned}
use Rattle.std.specs.Int.{w64}
use Rattle.std.proofs.lemmas.Int.{to_z-of_z}
use Rattle.zr_boxes.proofs.check.visit.Goals as goal

pub returns-in-Split-clause-entered : goal.returns-in-Split-clause-entered
returns-in-Split-clause-entered c =
    let f : FitsSigned w64 c.in-Split.at = search rules in
    rw c.in-Split.is (simp to_z-of_z at c.visit_split.ensures.entered)
