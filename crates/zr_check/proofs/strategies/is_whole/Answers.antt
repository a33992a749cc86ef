use Rattle.std.proofs.Common.{◌∙◌, arith, rules, sym, suc, length, ◌≡◌, FitsSigned}
use Rattle.std.specs.Int.{w128}
use Rattle.std.proofs.lemmas.Int.{to_z-of_z}
use Rattle.std.proofs.lemmas.List.{length-map}
use Rattle.zr_mix.specs.Mixtures.{part_of, parts_of}
use Rattle.zr_check.proofs.PartSteps.{all_weights}
use Rattle.zr_check.proofs.strategies.is_whole.Goals as goal

pub returns-else-k-len : goal.returns-else-k-len
returns-else-k-len c =
    let f : FitsSigned w128 c.args.weights = search rules in
    let told = simp to_z-of_z at c.is_total.ensures in
    let e = length-map c.args.strategy.now.parts.items part_of in
    let n = c.args.strategy.now.parts.ok.0 in
    let parts = parts_of c.args.strategy.now in
    (λ h last. told.0 h ∙ all_weights parts c.args.k c.args.weights last c.requires.weights, λ h. let last : suc c.args.k ≡ length parts = omega (arith, e, n, c.len.ensures, c.if-k-len.false, c.requires.part) in told.1 (h last ∙ sym (all_weights parts c.args.k c.args.weights last c.requires.weights)))
