use Rattle.zr_game.proofs.Holding.{meets_root}
use Rattle.zr_game.proofs.laws.law_of_root_leaf.Goals as goal

pub returns : goal.returns
returns c game form i player is x feasible =
    let rules = form.players i player is in
    meets_root player x rules.rows rules.pairs feasible
