use Rattle.std.proofs.Common.{rules, FitsSigned}
use Rattle.std.specs.Int.{w128}
use Rattle.std.proofs.lemmas.Int.{to_z-of_z}
use Rattle.zr_form.specs.Lines.{fields_of}
use Rattle.zr_text.proofs.CostSteps.{cost_is, no_cost, ratio_made}
use Rattle.zr_text.proofs.bound.cost.Goals as goal

pub returns-in_err-num : goal.returns-in_err-num
returns-in_err-num c = rw c.from_residual.ensures (no_cost c.args.i (fields_of c.args.line.now) c.in_err-num.ensures)

pub lowest-requires : goal.lowest-requires
lowest-requires c =
    let n : FitsSigned w128 c.in_ok-num.num = search rules in
    let d : FitsSigned w128 c.in_ok-num.den = search rules in
    simp to_z-of_z (ratio_made c.args.i (fields_of c.args.line.now) c.in_ok-num.num c.in_ok-num.den c.in_ok-num.ensures)

pub returns : goal.returns
returns c =
    let n : FitsSigned w128 c.in_ok-num.num = search rules in
    let d : FitsSigned w128 c.in_ok-num.den = search rules in
    cost_is c.args.i (fields_of c.args.line.now) c.in_ok-num.num c.in_ok-num.den c.lowest.result c.in_ok-num.ensures (simp to_z-of_z at c.lowest.ensures)
