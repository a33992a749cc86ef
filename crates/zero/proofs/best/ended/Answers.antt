use Rattle.std.proofs.Common.{rules, arith, inl, inr, refl, subst}
use Rattle.zr_best.specs.Causes.{IsBestCause}
use Rattle.zr_report.specs.declared.end.End.TheVariants as ends
use Rattle.zr_works.proofs.Working.{few_inner}
use Rattle.zero.specs.BestTexts.{HasMoreWorkThan}
use Rattle.zero.proofs.best.ended.Goals as goal

pub returns-in-Spent-clause-ends : goal.returns-in-Spent-clause-ends
returns-in-Spent-clause-ends c = λ game form mixtures old new starts cause.
    let h = subst (IsBestCause game mixtures old new) c.in-Spent.is cause in
    let work : HasMoreWorkThan c.args.budget game =
    (h.1.0, h.1.1, omega (arith, h.1.2, starts.1, starts.2, starts.3)) in
    inr (
      ends.Budget _,
      refl,
      (
        search rules,
        work,
        λ bounded.
            (let few = few_inner game form bounded work.0 work.1 in omega (arith, few, work.2)),
      ),
    )

pub returns-in-Wide-clause-ends : goal.returns-in-Wide-clause-ends
returns-in-Wide-clause-ends c = λ game form mixtures old new starts cause.
    inr (ends.Stuck c.in-Wide.asked, refl, subst (IsBestCause game mixtures old new) c.in-Wide.is cause)

pub returns-in-Step-clause-ends : goal.returns-in-Step-clause-ends
returns-in-Step-clause-ends c = λ game form mixtures old new starts cause.
    inr (ends.Step c.in-Step.wide, refl, subst (IsBestCause game mixtures old new) c.in-Step.is cause)

pub returns-in-Endless-clause-ends : goal.returns-in-Endless-clause-ends
returns-in-Endless-clause-ends c = λ game form mixtures old new starts cause.
    let h = subst (IsBestCause game mixtures old new) c.in-Endless.is cause in
    inr (ends.Open c.in-Endless.player c.in-Endless.var c.in-Endless.dir _, refl, (h.0, h.1, h.2, search rules))
