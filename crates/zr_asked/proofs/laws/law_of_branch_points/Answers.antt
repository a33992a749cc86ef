use Rattle.zr_asked.proofs.PresentRows.{columns_of, meets_if, solves_if}
use Rattle.zr_asked.proofs.laws.law_of_branch_points.Goals as goal

pub returns-clause-same : goal.returns-clause-same
returns-clause-same c player leaf aim y x positive len values up = (
  λ meets. solves_if player leaf aim y x values up meets,
  λ solves. meets_if player leaf aim y x values positive len solves,
)

pub returns-clause-some : goal.returns-clause-some
returns-clause-some c game form i player is path aim x meets = columns_of player path x meets aim
