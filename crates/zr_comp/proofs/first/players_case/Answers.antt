use Rattle.std.proofs.Common.{rules, ◌≡◌, ℕ, arith, sym, subst, None, ⊎_elim}
use Rattle.std.proofs.lemmas.Bool.{cases_eq}
use Rattle.zr_system.specs.Regions.{leaves_of}
use Rattle.zr_comp.specs.Cases.{HasChosen}
use Rattle.zr_comp.proofs.first.players_case.Goals as goal

pub loop-i-preserved : goal.loop-i-preserved
loop-i-preserved c = λ j h.
    let none : c.player_case-case.result ≡ None = search rules in
    ⊎_elim (λ (e : j ≡ c.loop-i.i).
    subst (λ (m : ℕ). HasChosen (leaves_of c.args.leaves.now) c.args.path.now m) (sym e)
    (c.player_case-case.ensures.none none))
    (λ (n : j ≡ c.loop-i.i → ⊥). c.loop-i.invariant j (omega (arith, h, n)))
    (cases_eq j c.loop-i.i)
