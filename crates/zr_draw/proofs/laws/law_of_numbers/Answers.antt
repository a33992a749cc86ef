use Rattle.zr_draw.proofs.Columns.{den_is, number_is, solves_complete}
use Rattle.zr_draw.proofs.laws.law_of_numbers.Goals as goal

pub returns-clause-columns : goal.returns-clause-columns
returns-clause-columns c = λ game leaves x j u e. number_is game leaves x j u e

pub returns-clause-one : goal.returns-clause-one
returns-clause-one c = λ game leaves x. den_is game leaves x

pub returns-clause-solves : goal.returns-clause-solves
returns-clause-solves c = λ game leaves kind path x list solved.
    solves_complete game leaves x kind path list solved
