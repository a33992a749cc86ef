use Rattle.zr_basis.proofs.Runs.{few_in_stages, run_apart, run_falls}
use Rattle.zr_basis.proofs.laws.law_of_runs.Goals as goal

pub returns-clause-falls : goal.returns-clause-falls
returns-clause-falls c = run_falls

pub returns-clause-apart : goal.returns-clause-apart
returns-clause-apart c = run_apart

pub returns-clause-few : goal.returns-clause-few
returns-clause-few c = few_in_stages
