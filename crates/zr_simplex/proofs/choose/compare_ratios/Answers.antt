use Rattle.std.proofs.Common.{rules, ◌∙◌, FitsSigned}
use Rattle.std.specs.Int.{w128}
use Rattle.std.proofs.lemmas.Int.{to_z-of_z}
use Rattle.zr_simplex.proofs.Quotients.{quotients_alike}
use Rattle.zr_simplex.proofs.choose.compare_ratios.Goals as goal

pub returns : goal.returns
returns c =
    let f1 : FitsSigned w128 c.args.num = search rules in
    let f2 : FitsSigned w128 c.args.den = search rules in
    let f3 : FitsSigned w128 c.args.other = search rules in
    let f4 : FitsSigned w128 c.args.other_den = search rules in
    let q = c.quotient_of.result in
    let r = c.quotient_of-2.result in
    let same = simp to_z-of_z at c.quotient_of.ensures.same in
    let other = simp to_z-of_z at c.quotient_of-2.ensures.same in
    let up = c.requires.ratio.positive in
    let other_up = c.requires.other_ratio.positive in
    c.compare.ensures ∙ quotients_alike q.num q.den r.num r.den c.args.num c.args.den c.args.other c.args.other_den c.quotient_of.ensures.positive c.quotient_of-2.ensures.positive up other_up same other
