use Rattle.std.proofs.Common.{rules, ◌≡◌, ℕ, arith, sym, subst, None, ⊎_elim}
use Rattle.std.proofs.lemmas.Bool.{cases_eq}
use Rattle.zr_game.specs.Games.{game_of}
use Rattle.zr_system.specs.Choices.{AreSlotsDecided, IsUsed}
use Rattle.zr_system.specs.Regions.{leaves_of}
use Rattle.zr_comp.proofs.first.player_slots_case.Goals as goal

pub loop-k-preserved : goal.loop-k-preserved
loop-k-preserved c = λ m h.
    let none : c.used_case-case.result ≡ None = search rules in
    ⊎_elim (λ (e : m ≡ c.loop-k.k).
    subst (λ (n : ℕ). IsUsed c.args.path.now c.args.i n
    → AreSlotsDecided (game_of c.args.game.now) (leaves_of c.args.leaves.now) c.args.path.now
    c.args.i n) (sym e) (c.used_case-case.ensures.none none))
    (λ (n : m ≡ c.loop-k.k → ⊥). c.loop-k.invariant m (omega (arith, h, n)))
    (cases_eq m c.loop-k.k)
