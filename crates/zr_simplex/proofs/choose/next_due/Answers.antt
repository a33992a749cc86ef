use Rattle.std.proofs.Common.{subst, slice_index}
use Rattle.zr_simplex.specs.Programs.{program_of}
use Rattle.zr_simplex.specs.Tableaus.{form_of}
use Rattle.zr_simplex.specs.Dues.{IsImprovingDue}
use Rattle.zr_simplex.proofs.choose.next_due.Goals as goal

pub returns-in-Some-clause-due : goal.returns-in-Some-clause-due
returns-in-Some-clause-due c =
    let p = program_of c.args.lp.now in
    let form = form_of c.args.tableau.now in
    subst (λ xs. IsImprovingDue p (λ i. slice_index xs i) form c.improving_due.result) c.deref.ensures.value c.improving_due.ensures

pub returns-clause-due : goal.returns-clause-due
returns-clause-due c =
    let p = program_of c.args.lp.now in
    let form = form_of c.args.tableau.now in
    subst (λ xs. IsImprovingDue p (λ i. slice_index xs i) form c.improving_due-due.result) c.deref-2.ensures.value c.improving_due-due.ensures
