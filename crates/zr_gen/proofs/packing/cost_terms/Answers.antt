use Rattle.std.proofs.Common.{rules, ◌≡◌, ℕ, ℤ, pos, neg_ℤ, ◌-ℤ◌, arith, ap, ◌∙◌, FitsSigned}
use Rattle.std.proofs.lemmas.Int.{ints, to_z-of_z}
use Rattle.std.specs.Int.{w64}
use Rattle.zr_gen.proofs.Lists.{pushed}
use Rattle.zr_gen.specs.Packing.{gain}
use Rattle.zr_gen.proofs.packing.cost_terms.Goals as goal

pub loop-k-preserved : goal.loop-k-preserved
loop-k-preserved c =
    let d = c.args.drawn.now in
    let k = c.loop-k.k in
    let z = c.from-gain.result in
    let fits : FitsSigned w64 z = search rules in
    let small = c.gain.ensures.most in
    let number = c.from-gain.ensures ∙ ap pos c.gain.ensures.value in
    let below : FitsSigned w64 (pos 0 -ℤ z) = omega (arith, ints, c.from-gain.ensures, small) in
    let turned : pos 0 -ℤ z ≡ neg_ℤ z = omega (arith, ints) in
    pushed (λ (v : ℕ). (v, neg_ℤ (pos (gain d.players d.items d.draws.number c.args.i v))))
    c.loop-k.terms.items c.push.new.self.items (k, pos 0 -ℤ z) k c.loop-k.invariant
    (simp to_z-of_z at c.in_ok-push.ensures.ok)
    (ap (λ (y : ℤ). (k, y)) (turned ∙ ap neg_ℤ number))
