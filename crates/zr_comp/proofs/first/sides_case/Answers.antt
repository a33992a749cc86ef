use Rattle.std.proofs.Common.{rules, ◌≡◌, ℕ, ◌<◌, arith, length, sym, subst, None, ⊎_elim}
use Rattle.std.proofs.lemmas.Bool.{cases_eq}
use Rattle.zr_game.specs.Games.{game_of}
use Rattle.zr_system.specs.Regions.{leaf_count, leaves_of}
use Rattle.zr_comp.specs.Cases.{HasSide}
use Rattle.zr_comp.proofs.first.sides_case.Goals as goal

pub loop-i-preserved : goal.loop-i-preserved
loop-i-preserved c = λ j k h q.
    let none : c.leaves_case-case.result ≡ None = search rules in
    ⊎_elim (λ (e : j ≡ c.loop-i.i). subst (λ (n : ℕ). HasSide c.args.path.now n k) (sym e)
    (c.leaves_case-case.ensures.none none k
    (subst (λ (n : ℕ). k < leaf_count (leaves_of c.args.leaves.now) n) e q)))
    (λ (n : j ≡ c.loop-i.i → ⊥). c.loop-i.invariant j k (omega (arith, h, n)) q)
    (cases_eq j c.loop-i.i)

pub returns-clause-none : goal.returns-clause-none
returns-clause-none c = λ none i k h q.
    let p : i < length (game_of c.args.game.now) = h in
    let e = c.loop-i-test.false in
    c.loop-i.invariant i k
    (omega (arith, p, e, c.player_count-i-end.ensures.count, c.player_count-i-end.ensures.few)) q
