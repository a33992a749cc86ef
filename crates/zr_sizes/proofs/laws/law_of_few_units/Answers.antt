use Rattle.std.proofs.Common.{arith}
use Rattle.zr_sizes.proofs.FewUnits.{few_units}
use Rattle.zr_sizes.proofs.laws.law_of_few_units.Goals as goal

pub returns-clause-tree : goal.returns-clause-tree
returns-clause-tree c = λ game form i player is bounded tree o.
    few_units game i player (form.players i player is) bounded tree o

pub returns-clause-work : goal.returns-clause-work
returns-clause-work c = λ game form i player is bounded work.
    let h = few_units game i player (form.players i player is) bounded work.tree work.open_is in
    omega (arith, h)
