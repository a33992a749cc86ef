use Rattle.zr_tree.proofs.Descent.{none_at_root, right_if_refuted}
use Rattle.zr_tree.proofs.laws.law_of_refuted_trees.Goals as goal

pub returns-clause-none : goal.returns-clause-none
returns-clause-none c game form i player is t refuted x feasible =
    let g = form.players i player is in
    none_at_root player x feasible g.rows g.pairs t refuted

pub returns-clause-every : goal.returns-clause-every
returns-clause-every c player bound leaf t refuted = right_if_refuted player bound t leaf refuted
