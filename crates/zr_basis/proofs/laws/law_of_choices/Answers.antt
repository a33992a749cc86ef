use Rattle.zr_basis.proofs.Counting.{few_bases}
use Rattle.zr_basis.proofs.Reaching.{as_many}
use Rattle.zr_basis.proofs.laws.law_of_choices.Goals as goal

pub returns-clause-bases : goal.returns-clause-bases
returns-clause-bases c = few_bases

pub returns-clause-most : goal.returns-clause-most
returns-clause-most c columns size =
    let w = as_many columns size in
    (w.bases, w.are, w.differ, w.count)
