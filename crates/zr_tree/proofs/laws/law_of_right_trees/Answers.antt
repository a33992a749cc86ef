use Rattle.zr_tree.proofs.Descent.{holds_at_root}
use Rattle.zr_tree.proofs.laws.law_of_right_trees.Goals as goal

pub returns : goal.returns
returns c game form i player is bound t right x feasible =
    let g = form.players i player is in
    holds_at_root player x feasible g.rows g.pairs bound t right
