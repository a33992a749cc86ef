use Rattle.std.proofs.Common.{rules, FitsSigned}
use Rattle.std.specs.Int.{w64}
use Rattle.std.proofs.lemmas.Int.{to_z-of_z}
use Rattle.zr_cover.proofs.ends.split_number.Goals as goal

pub returns-in-Ok-clause-near : goal.returns-in-Ok-clause-near
returns-in-Ok-clause-near c more low high =
    let r : FitsSigned w64 c.below_high.result = search rules in
    let h : FitsSigned w64 c.in-None-Some.high = search rules in
    let n = simp to_z-of_z at (c.below_high.ensures.near more) in
    simp to_z-of_z (n tt (rw c.in-None-Some.is-1 at high))
