use Rattle.std.proofs.Common.{rules, ℕ, ℤ, pos, ap, ◌∙◌, FitsSigned}
use Rattle.std.proofs.lemmas.Int.{to_z-of_z}
use Rattle.std.specs.Int.{w64}
use Rattle.zr_gen.proofs.Lists.{pushed}
use Rattle.zr_gen.specs.Packing.{weight}
use Rattle.zr_gen.proofs.packing.weight_terms.Goals as goal

pub loop-k-preserved : goal.loop-k-preserved
loop-k-preserved c =
    let d = c.args.drawn.now in
    let k = c.loop-k.k in
    let fits : FitsSigned w64 c.from-weight.result = search rules in
    let number = c.from-weight.ensures ∙ ap pos c.weight.ensures.value in
    pushed (λ (v : ℕ). (v, pos (weight d.players d.items d.draws.number c.args.i v)))
    c.loop-k.terms.items c.push.new.self.items (k, c.from-weight.result) k c.loop-k.invariant
    (simp to_z-of_z at c.in_ok-push.ensures.ok) (ap (λ (z : ℤ). (k, z)) number)
