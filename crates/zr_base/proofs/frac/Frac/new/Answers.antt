use Rattle.std.proofs.Common.{rules, FitsSigned}
use Rattle.std.specs.Int.{w128}
use Rattle.std.proofs.lemmas.Int.{to_z-of_z}
use Rattle.zr_base.specs.Lowest.{IsRatio}
use Rattle.zr_base.proofs.SameLaws.{reduce_is_same}
use Rattle.zr_base.proofs.frac.Frac.new.Goals as goal

pub returns-else-num-eqminus170141183460469231731687303715884105728-clause-same : goal.returns-else-num-eqminus170141183460469231731687303715884105728-clause-same
returns-else-num-eqminus170141183460469231731687303715884105728-clause-same c =
    let n : FitsSigned w128 c.args.num = search rules in
    let d : FitsSigned w128 c.args.den = search rules in
    let ratio : IsRatio c.args.num c.args.den = search rules in
    rw (simp to_z-of_z at c.reduced.ensures) (reduce_is_same c.args.num c.args.den ratio)
