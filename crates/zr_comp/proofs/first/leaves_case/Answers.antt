use Rattle.std.proofs.Common.{rules, ◌≡◌, ℕ, ◌<◌, arith, sym, subst, None, ⊎_elim}
use Rattle.std.proofs.lemmas.Bool.{cases_eq}
use Rattle.zr_system.specs.Regions.{leaf_count, leaves_of}
use Rattle.zr_comp.specs.Cases.{HasSide}
use Rattle.zr_comp.proofs.first.leaves_case.Goals as goal

pub loop-k-preserved : goal.loop-k-preserved
loop-k-preserved c = λ m h.
    let none : c.leaf_case-case.result ≡ None = search rules in
    ⊎_elim (λ (e : m ≡ c.loop-k.k).
    subst (λ (n : ℕ). HasSide c.args.path.now c.args.i n) (sym e)
    (c.leaf_case-case.ensures.none none))
    (λ (n : m ≡ c.loop-k.k → ⊥). c.loop-k.invariant m (omega (arith, h, n)))
    (cases_eq m c.loop-k.k)

pub returns-clause-none : goal.returns-clause-none
returns-clause-none c = λ none k h.
    let p : k < leaf_count (leaves_of c.args.leaves.now) c.args.i = h in
    let e = c.loop-k-test.false in
    c.loop-k.invariant k
    (omega (arith, p, e, c.leaf_count-k-end.ensures.count, c.leaf_count-k-end.ensures.few))
