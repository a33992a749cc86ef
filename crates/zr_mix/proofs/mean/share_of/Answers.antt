use Rattle.std.proofs.Common.{rules, FitsSigned}
use Rattle.std.specs.Int.{w128}
use Rattle.std.proofs.lemmas.Int.{to_z-of_z}
use Rattle.zr_base.specs.Fractions.{ratio, times}
use Rattle.zr_base.specs.Points.{value_of}
use Rattle.zr_base.proofs.SameLaws.{if_is_same, times_same}
use Rattle.zr_mix.proofs.mean.share_of.Goals as goal

pub returns-clause-exact : goal.returns-clause-exact
returns-clause-exact c =
    let n : FitsSigned w128 c.args.part.now.weight = search rules in
    let t : FitsSigned w128 c.args.total = search rules in
    let p = c.probability.result in
    let q = c.value.result in
    let w = ratio c.args.part.now.weight c.args.total in
    let x = value_of c.args.part.now.point c.args.v in
    let same = simp to_z-of_z at c.probability.ensures.same in
    if_is_same c.mul.result (times p q) (times w x) (times_same p q w x same c.value.ensures.same)
    c.mul.ensures.exact
