use Rattle.std.proofs.Common.{rules, ◌<◌, ◌∙◌, arith, [], pos, length, ◌≤ℤ◌, ◌<ℤ◌, sym, subst, take, FitsSigned}
use Rattle.std.specs.Int.{w128}
use Rattle.std.proofs.lemmas.Int.{ints, to_z-of_z}
use Rattle.std.proofs.lemmas.Result.{err_from_is_err_and}
use Rattle.zr_base.specs.Fractions.{Fraction}
use Rattle.zr_mix.specs.declared.mixture.Part.{Part}
use Rattle.zr_mix.proofs.Shares.{MeanOf, exact_of, made_of, more_of, none_of, sum_wide, term_wide}
use Rattle.zr_mix.proofs.mean.mean_at.Goals as goal
use Rattle.zr_mix.proofs.mean.mean_at.Goals.{After-loop-part}

so_far : (c : After-loop-part)
    → MeanOf c.args.total c.args.v (take c.loop-part.part-index c.args.parts.now) c.loop-part.sum
so_far c =
    let t : FitsSigned w128 c.args.total = search rules in
    simp to_z-of_z at c.loop-part.invariant

pub loop-part-init : goal.loop-part-init
loop-part-init c =
    let t : FitsSigned w128 c.args.total = search rules in
    let positive : (pos 0) <ℤ c.args.total = omega (arith, ints, c.requires.total) in
    let none = none_of c.args.total positive c.args.v in
    simp to_z-of_z (subst (λ (s : Fraction). MeanOf c.args.total c.args.v [] s)
    (sym c.from-sum.ensures.0) none)

pub share_of-requires : goal.share_of-requires
share_of-requires c =
    let t : FitsSigned w128 c.args.total = search rules in
    record {
      total = simp to_z-of_z c.requires.total;
      weight = subst (λ (p : Part). (pos 1) ≤ℤ p.weight) (sym c.part-item.is)
          (c.requires.weights c.loop-part.part-index c.part-item.result c.loop-part-test.true);
      place = subst (λ (p : Part). c.args.v < length p.point.num) (sym c.part-item.is)
          (c.requires.places c.loop-part.part-index c.part-item.result c.loop-part-test.true);
    }

pub returns-in_err-term-clause-steps : goal.returns-in_err-term-clause-steps
returns-in_err-term-clause-steps c =
    let t : FitsSigned w128 c.args.total = search rules in
    let p = err_from_is_err_and c.from_residual.result c.from_residual.ensures.1 in
    rw (p.1, p.2) (term_wide c.args.total (omega (arith, ints, c.requires.total)) c.args.v
    c.args.parts.now c.loop-part.part-index c.part-item.result c.loop-part-test.true
    c.part-item.is c.loop-part.sum (simp to_z-of_z at c.loop-part.invariant) _
    (simp to_z-of_z at c.in_err-term.ensures.steps))

pub returns-in_err-sum-clause-steps : goal.returns-in_err-sum-clause-steps
returns-in_err-sum-clause-steps c =
    let t : FitsSigned w128 c.args.total = search rules in
    let p = err_from_is_err_and c.from_residual-in_err-sum.result
    c.from_residual-in_err-sum.ensures.1 in
    rw (p.1, p.2) (sum_wide c.args.total (omega (arith, ints, c.requires.total)) c.args.v
    c.args.parts.now c.loop-part.part-index c.part-item.result c.loop-part-test.true
    c.part-item.is c.loop-part.sum (simp to_z-of_z at c.loop-part.invariant) c.in_ok-term.term _
    (simp to_z-of_z at c.in_ok-term.ensures.steps) c.in_err-sum.ensures.steps)

pub loop-part-preserved : goal.loop-part-preserved
loop-part-preserved c =
    let t : FitsSigned w128 c.args.total = search rules in
    simp to_z-of_z (more_of c.args.total (omega (arith, ints, c.requires.total)) c.args.v
    c.args.parts.now c.loop-part.part-index c.part-item.result c.loop-part-test.true
    c.part-item.is c.loop-part.sum (simp to_z-of_z at c.loop-part.invariant) c.in_ok-term.term
    c.in_ok-sum.sum (simp to_z-of_z at c.in_ok-term.ensures.steps)
    (simp to_z-of_z at c.in_ok-term.ensures.exact) c.in_ok-sum.ensures.steps
    c.in_ok-sum.ensures.exact c.in_ok-sum.ensures.lowest)

pub returns-clause-steps : goal.returns-clause-steps
returns-clause-steps c =
    let at = goal.at.returns-clause-steps c in
    made_of c.args.total (omega (arith, ints, c.requires.total)) c.args.v c.args.parts.now
    c.loop-part.part-index c.loop-part.sum c.loop-part-test.false (so_far at.After-loop-part)

pub returns-clause-exact : goal.returns-clause-exact
returns-clause-exact c =
    let at = goal.at.returns-clause-exact c in
    exact_of c.args.total (omega (arith, ints, c.requires.total)) c.args.v c.args.parts.now
    c.loop-part.part-index c.loop-part.sum c.loop-part-test.false (so_far at.After-loop-part)
