use Rattle.std.proofs.Common.{◌≡◌, ◌∙◌, sym, ap₂, FitsSigned}
use Rattle.std.specs.Int.{w128}
use Rattle.std.specs.Prelude.{unsigned_abs}
use Rattle.std.proofs.lemmas.Int.{to_z-of_z}
use Rattle.zr_base.specs.Lowest.{gcd_of}
use Rattle.zr_text.proofs.CostSteps.{cost_made}
use Rattle.zr_text.proofs.bound.lowest.Goals as goal

pub returns : goal.returns
returns c =
    let n : FitsSigned w128 c.args.num = c.ranges.num in
    let d : FitsSigned w128 c.args.den = c.ranges.den in
    let a : c.unsigned_abs.result ≡ unsigned_abs c.args.num = simp to_z-of_z at c.unsigned_abs.ensures.value in
    let b : c.unsigned_abs-2.result ≡ unsigned_abs c.args.den = simp to_z-of_z at c.unsigned_abs-2.ensures.value in
    let one = sym (ap₂ gcd_of a b) ∙ sym c.gcd.ensures.value ∙ c.if-gcd-ne1.false in
    let valid = simp to_z-of_z at c.new.ensures.valid in
    let same = simp to_z-of_z at c.new.ensures.same in
    cost_made c.args.num c.args.den c.new.result c.requires one valid c.new.ensures.lowest same
