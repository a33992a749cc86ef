use Rattle.std.proofs.Common.{rules, ◌≡◌, ℕ, ◌<◌, arith, sym, subst, None, ⊎_elim}
use Rattle.std.proofs.lemmas.Bool.{cases_eq}
use Rattle.zr_game.specs.Games.{game_of}
use Rattle.zr_system.specs.Choices.{AreSlotsDecided, IsUsed}
use Rattle.zr_system.specs.Regions.{leaf_count, leaves_of}
use Rattle.zr_comp.proofs.first.all_slots_case.Goals as goal

pub loop-i-preserved : goal.loop-i-preserved
loop-i-preserved c = λ j k h.
    let none : c.player_slots_case-case.result ≡ None = search rules in
    ⊎_elim (λ (e : j ≡ c.loop-i.i).
    subst (λ (n : ℕ). k < leaf_count (leaves_of c.args.leaves.now) n → IsUsed c.args.path.now n k
    → AreSlotsDecided (game_of c.args.game.now) (leaves_of c.args.leaves.now) c.args.path.now n k)
    (sym e) (c.player_slots_case-case.ensures.none none k))
    (λ (n : j ≡ c.loop-i.i → ⊥). c.loop-i.invariant j k (omega (arith, h, n)))
    (cases_eq j c.loop-i.i)
