use Rattle.zr_simplex.specs.Programs.{program_of}
use Rattle.zr_simplex.proofs.Resuming.{keeps}
use Rattle.zr_simplex.proofs.resume.OpenLp.solve.Goals as goal

pub returns-in-Ok-clause-basic : goal.returns-in-Ok-clause-basic
returns-in-Ok-clause-basic c = rw (← c.self.view_is, ← c.take-tableau.ensures.value) c.in-Ok.ensures.open

pub returns-in-Err-clause-cause : goal.returns-in-Err-clause-cause
returns-in-Err-clause-cause c = rw (← c.self.view_is, ← c.take-tableau.ensures.value) c.in-Err.ensures.cause

pub returns-in-Ok-clause-kept : goal.returns-in-Ok-clause-kept
returns-in-Ok-clause-kept c =
    rw (← c.self.view_is) (keeps (program_of c.self.inside.lp) c.in-Ok.tableau c.in-Ok.found c.in-Ok.ensures.kept c.in-Ok.ensures.basic c.least_kept.result c.least_kept.ensures)
