use Rattle.std.proofs.Common.{refl}
use Rattle.zr_simplex.specs.Programs.{program_of}
use Rattle.zr_simplex.specs.Resumes.{IsGivenUp, basis_kept}
use Rattle.zr_simplex.proofs.Going.{no_pivot}
use Rattle.zr_simplex.proofs.Resuming.{open_answers, open_causes}
use Rattle.zr_simplex.proofs.resume.solve_on.Goals as goal
use Rattle.zr_simplex.proofs.resume.solve_on.Goals.{In-None, In-Err}

module _ (c : In-None) where
  none : IsGivenUp (program_of c.args.lp.now) (basis_kept c.args.tableau) c.args.purse.now c.args.purse.now
  none = rw c.in-None.is refl

pub returns-in-None-clause-open : goal.returns-in-None-clause-open
returns-in-None-clause-open c =
    let at = (goal.at.returns-in-None-clause-open c).In-None in
    open_answers (program_of c.args.lp.now) (basis_kept c.args.tableau) c.args.purse.now c.args.purse.now c.solve_afresh.new.purse (none at) (λ found. found.1) c.solve_afresh.result c.solve_afresh.ensures.reached

pub returns-in-None-clause-cause : goal.returns-in-None-clause-cause
returns-in-None-clause-cause c =
    let at = (goal.at.returns-in-None-clause-cause c).In-None in
    open_causes (program_of c.args.lp.now) (basis_kept c.args.tableau) c.args.purse.now c.args.purse.now c.solve_afresh.new.purse (none at) c.solve_afresh.result c.solve_afresh.ensures.cause

pub returns-in-Ok-clause-few : goal.returns-in-Ok-clause-few
returns-in-Ok-clause-few c =
    rw c.in-Some.is (c.go_on.new.purse, c.go_on.ensures.few, no_pivot (program_of c.args.lp.now) c.go_on.new.purse)

module _ (c : In-Err) where
  given : IsGivenUp (program_of c.args.lp.now) (basis_kept c.args.tableau) c.args.purse.now c.go_on.new.purse
  given = rw c.in-Some.is (c.in-Err.field-0, c.in-Err.ensures.cause, c.go_on.ensures.few)

pub returns-clause-open : goal.returns-clause-open
returns-clause-open c =
    let at = (goal.at.returns-clause-open c).In-Err in
    open_answers (program_of c.args.lp.now) (basis_kept c.args.tableau) c.args.purse.now c.go_on.new.purse c.solve_afresh-in-Err.new.purse (given at) (λ found. found.1) c.solve_afresh-in-Err.result c.solve_afresh-in-Err.ensures.reached

pub returns-clause-cause : goal.returns-clause-cause
returns-clause-cause c =
    let at = (goal.at.returns-clause-cause c).In-Err in
    open_causes (program_of c.args.lp.now) (basis_kept c.args.tableau) c.args.purse.now c.go_on.new.purse c.solve_afresh-in-Err.new.purse (given at) c.solve_afresh-in-Err.result c.solve_afresh-in-Err.ensures.cause

pub returns-clause-few : goal.returns-clause-few
returns-clause-few c =
    rw c.in-Some.is (c.go_on.new.purse, c.go_on.ensures.few, c.solve_afresh-in-Err.ensures.few)
